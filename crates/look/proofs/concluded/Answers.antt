-- `look::concluded` meets its contract. Assumes nothing.
use Rattle.look.proofs.LookLaws.{concluded-none, concluded-spent}
use Rattle.look.proofs.concluded.Goals as goal

pub returns-then-end-n : goal.returns-then-end-n
returns-then-end-n c = concluded-none c.if-end-n.true

pub returns : goal.returns
returns c = concluded-spent c.if-end-n.false
