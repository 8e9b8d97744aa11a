-- `cases::validity::foreign_keys_hold` meets its contract. Assumes nothing.
use mathlib.Core.Path.{◌∙◌}
use native.Mathlib.Omega.{arith}
use Rattle.cases.proofs.ForeignLaws.{left-first, left-ends, left-fails, left-passes, left-none, held-there, next-there}
use Rattle.cases.proofs.validity.foreign_keys_hold.Goals as goal

pub loop-k-init : goal.loop-k-init
loop-k-init c = left-first

pub returns-then-bytes-next : goal.returns-then-bytes-next
returns-then-bytes-next c = left-ends c.loop-k.invariant c.loop-k-test.true (omega arith)

pub returns-then-not-foreign_key_holds : goal.returns-then-not-foreign_key_holds
returns-then-not-foreign_key_holds c = left-fails c.loop-k.invariant c.loop-k-test.true
    (held-there _ _ c.frame_at-frame.ensures _ _ c.foreign_key_holds.ensures ∙ c.if-not-foreign_key_holds.true)

pub loop-k-preserved : goal.loop-k-preserved
loop-k-preserved c =
    next-there _ _ c.frame_at-frame.ensures
    (left-passes c.loop-k.invariant c.loop-k-test.true (omega arith)
    (held-there _ _ c.frame_at-frame.ensures _ _ c.foreign_key_holds.ensures ∙ c.if-not-foreign_key_holds.false))

pub returns : goal.returns
returns c = left-none (omega arith) c.loop-k.invariant
