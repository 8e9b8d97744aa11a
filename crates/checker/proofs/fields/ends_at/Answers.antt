-- `checker::fields::ends_at` meets its contract. Assumes nothing.
use mathlib.Core.Path.{sym}
use Rattle.checker.proofs.FieldLaws.{end-here, end-surplus}
use Rattle.checker.proofs.fields.ends_at.Goals as goal

pub returns-then-frame-at : goal.returns-then-frame-at
returns-then-frame-at c = sym (end-here c.args.frame.now c.args.at c.args.at c.if-frame-at.true)

pub returns-else-frame-at : goal.returns-else-frame-at
returns-else-frame-at c = sym (end-surplus c.args.frame.now c.args.at c.args.at c.if-frame-at.false)
