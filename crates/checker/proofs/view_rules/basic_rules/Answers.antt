-- `checker::view_rules::basic_rules` meets its contract. Assumes nothing.
use mathlib.Core.Path.{refl}
use Rattle.checker.proofs.ViewRuleLaws.{basic-rules}
use Rattle.checker.proofs.view_rules.basic_rules.Goals as goal

pub returns : goal.returns
returns c = basic-rules c.args.frame.now c.args.relations.now _ c.args.o _ refl c.tail.ensures
