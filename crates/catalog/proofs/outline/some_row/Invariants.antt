-- `catalog::outline::some_row` meets its contract. Assumes nothing.
use Rattle.catalog.proofs.TableLaws.{Bare}
use Rattle.catalog.proofs.outline.some_row.Given as goal

abbrev pub invariant-loop-t : goal.invariant-loop-t
invariant-loop-t l = Bare l.relations l.t
