-- `catalog::outline::count_tables` meets its contract. Assumes nothing.
use Rattle.catalog.specs.FileIn.{TablesCounted}
use Rattle.catalog.proofs.outline.count_tables.Given as goal

abbrev pub invariant-loop-t : goal.invariant-loop-t
invariant-loop-t l = TablesCounted l.relations l.t l.initial.counts l.counts
