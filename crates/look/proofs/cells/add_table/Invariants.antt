-- `look::cells::add_table` meets its contract. Assumes nothing.
use Rattle.look.specs.Cells.{TableAdded}
use Rattle.look.proofs.cells.add_table.Given as goal

abbrev pub invariant-loop-row : goal.invariant-loop-row
invariant-loop-row l = TableAdded l.fn.table l.row l.fn.columns l.fn.n l.fn.cells l.all l.cells
