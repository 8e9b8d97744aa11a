-- `look::moves::Places::take_row` meets its contract. Assumes nothing.
use Rattle.look.proofs.PlaceLaws.{Taking}
use Rattle.look.proofs.moves.Places.take_row.Given as goal

abbrev pub invariant-loop-c : goal.invariant-loop-c
invariant-loop-c l = Taking l.self.relations.now l.fn.table l.fn.width l.fn.q l.c l.row l.left
