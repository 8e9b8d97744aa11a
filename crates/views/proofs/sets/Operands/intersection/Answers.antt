-- `views::sets::Operands::intersection` meets its contract. Assumes nothing.
use borrow.Author.Tests.{lt-ltb, le-ltb}
use Rattle.views.proofs.Intersecting.{shared-none, shared-more, appended, left_out}
use Rattle.views.proofs.sets.Operands.intersection.Goals as goal
use Rattle.views.proofs.sets.Operands.intersection.Goals.{then-before-there, else-before-there}

pub loop-i-init : goal.loop-i-init
loop-i-init c = shared-none _ _ _ _ _ _

pub loop-i-preserved : goal.loop-i-preserved
loop-i-preserved c =
    let inv = c.loop-i.invariant in
    let x = c.count_of-before.ensures in
    let y = c.count_of-there.ensures in
    elim c.if-before-there.branch [
      | then-before-there u ↦ rw (u.work-is, u.kept-is) (shared-more inv x y (appended u.row_at-row.result (lt-ltb _ _ u.if-before-there.true) u.row_at-row.ensures u.put.ensures))
      | else-before-there u ↦ rw (u.work-is, u.kept-is) (shared-more inv x y (left_out (le-ltb _ _ u.if-before-there.false)))
    ]
