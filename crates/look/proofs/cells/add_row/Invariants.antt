-- `look::cells::add_row` meets its contract. Assumes nothing.
use Prim.Native.Nat.{◌+◌}
use Rattle.look.specs.Cells.{RowAdded}
use Rattle.look.proofs.cells.add_row.Given as goal

abbrev pub invariant-loop-column : goal.invariant-loop-column
invariant-loop-column l = RowAdded l.fn.table l.fn.row l.column l.fn.n l.fn.cells (l.fn.n + l.column) l.cells
