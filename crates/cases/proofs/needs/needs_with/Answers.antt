-- `cases::needs::needs_with` meets its contract. Assumes nothing.
use native.Mathlib.Omega.{arith}
use borrow.Author.Rules.{rules}
use Rattle.cases.proofs.NeedLaws.{reached-none, reached-next, needs-with-all}
use Rattle.cases.proofs.needs.needs_with.Goals as goal

pub loop-v-init : goal.loop-v-init
loop-v-init c = rw c.with_goal-needs.ensures (reached-none _ _)

pub loop-v-preserved : goal.loop-v-preserved
loop-v-preserved c =
    reached-next c.loop-v.invariant c.loop-v-test.true (omega arith)
    c.frame-frame.ensures c.need_rows-needs.ensures c.need_signs-needs.ensures

pub returns : goal.returns
returns c = needs-with-all (search rules) (search rules) c.loop-v-test.false c.loop-v.invariant
