-- `bounds::grouping` meets its contract. Assumes nothing.
use Rattle.bounds.proofs.Columns.{Seeking}
use Rattle.bounds.proofs.grouping.Given as goal

abbrev pub invariant-loop-k : goal.invariant-loop-k
invariant-loop-k l = Seeking l.frame l.item l.column l.places l.count l.k
