-- `look::cells::add_row` meets its contract. Assumes nothing.
use native.Mathlib.Omega.{arith}
use Rattle.look.proofs.CellLaws.{row-all, row-none, row_more}
use Rattle.look.proofs.cells.add_row.Goals as goal

pub loop-column-init : goal.loop-column-init
loop-column-init c = row-none _ _ _ _

pub loop-column-preserved : goal.loop-column-preserved
loop-column-preserved c = row_more c.loop-column.invariant c.put_item.ensures

pub returns : goal.returns
returns c = row-all c.loop-column.invariant (omega arith)
