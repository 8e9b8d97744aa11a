-- `views::ends::behind` meets its contract. Assumes nothing.
use Prim.Native.Nat.{◌-◌}
use lib.ListN.{length}
use Rattle.views.proofs.Passing.{Left}
use Rattle.views.proofs.ends.behind.Given as goal

abbrev pub invariant-loop-left : goal.invariant-loop-left
invariant-loop-left l = Left l.frame l.at l.next l.left

abbrev pub decreases-loop-left : goal.decreases-loop-left
decreases-loop-left l = length l.frame - l.next
