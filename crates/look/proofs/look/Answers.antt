-- `look::look` meets its contract. Assumes nothing.
use Rattle.text.specs.Refusals.{numbers_of}
use Rattle.look.proofs.LookLaws.{says-own, looks-planned}
use Rattle.look.proofs.look.Goals as goal

pub returns : goal.returns
returns c = looks-planned _ (c.look_at.ensures numbers_of says-own) c.check.ensures
