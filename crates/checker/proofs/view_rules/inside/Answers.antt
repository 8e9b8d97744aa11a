-- `checker::view_rules::inside` meets its contract. Assumes nothing.
use native.Mathlib.Omega.{arith}
use Rattle.checker.proofs.ViewFields.{drop_past}
use Rattle.checker.proofs.view_rules.inside.Goals as goal

pub returns-else-at-frame : goal.returns-else-at-frame
returns-else-at-frame c = (omega arith, drop_past c.args.frame.now c.args.at (omega arith))
