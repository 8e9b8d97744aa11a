-- `look::moves::Places::move_to` meets its contract. Assumes nothing.
use Rattle.look.specs.Moves.{places_in}
use Rattle.look.proofs.MoveLaws.{Under}
use Rattle.look.proofs.moves.Places.move_to.Given as goal

abbrev pub invariant-loop-j : goal.invariant-loop-j
invariant-loop-j l = Under (places_in l.self) l.fn.k l.fn.next l.fn.work l.work l.j l.q
