-- `look::moves::Places::put_candidate` meets its contract. Assumes nothing.
use Rattle.look.specs.Moves.{places_in}
use Rattle.look.proofs.PlaceLaws.{Placed}
use Rattle.look.proofs.moves.Places.put_candidate.Given as goal

abbrev pub invariant-loop-j : goal.invariant-loop-j
invariant-loop-j l = Placed (places_in l.self) l.fn.k l.fn.work l.work l.j l.left

abbrev pub decreases-loop-j : goal.decreases-loop-j
decreases-loop-j l = l.j
