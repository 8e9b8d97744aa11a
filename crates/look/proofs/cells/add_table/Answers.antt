-- `look::cells::add_table` meets its contract. Assumes nothing.
use native.Mathlib.Omega.{arith}
use Rattle.look.proofs.CellLaws.{table-all, table_none, table_more, rows_few}
use Rattle.look.proofs.cells.add_table.Goals as goal

pub loop-row-init : goal.loop-row-init
loop-row-init c = table_none _ _ _ _

pub add_row-all-requires : goal.add_row-all-requires
add_row-all-requires c = omega (arith, rows_few c.loop-row.invariant (omega arith) (omega arith), c.requires)

pub loop-row-preserved : goal.loop-row-preserved
loop-row-preserved c = table_more c.loop-row.invariant c.add_row-all.ensures

pub returns : goal.returns
returns c = table-all c.loop-row.invariant (omega arith)
