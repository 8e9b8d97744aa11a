-- `prefix::two_bytes` meets its contract. Assumes nothing.
use mathlib.Core.Path.{sym}
use Rattle.prefix.proofs.Ends.{field-two}
use Rattle.prefix.proofs.Skips.{past_end}
use Rattle.prefix.proofs.Fields.{two_in, two-over}
use Rattle.prefix.proofs.two_bytes.Goals as goal

pub returns-then-frame-at : goal.returns-then-frame-at
returns-then-frame-at c = sym (past_end _ field-two _ c.if-frame-at.true)

pub returns-then-frame-at-2 : goal.returns-then-frame-at-2
returns-then-frame-at-2 c = sym (two-over _ _ c.if-frame-at.false c.if-frame-at-2.true)

pub returns : goal.returns
returns c = sym (two_in _ _ c.if-frame-at-2.false)
