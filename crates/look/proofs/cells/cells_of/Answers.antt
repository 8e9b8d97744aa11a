-- `look::cells::cells_of` meets its contract. Assumes nothing.
use native.Mathlib.Omega.{arith}
use Rattle.look.proofs.CellLaws.{tables-all, tables-none, tables_more, tables-few}
use Rattle.look.proofs.cells.cells_of.Goals as goal

pub loop-t-init : goal.loop-t-init
loop-t-init c = (tables-none _ _, omega arith)

pub add_table-all-requires : goal.add_table-all-requires
add_table-all-requires c = omega arith

pub loop-t-preserved : goal.loop-t-preserved
loop-t-preserved c = (
  tables_more c.loop-t.invariant.0 c.bound_of-rows.ensures
      c.width_of-columns.ensures c.add_table-all.ensures,
  tables-few c.add_table-all.ensures (omega arith) (omega arith) c.loop-t.invariant.1,
)

pub returns : goal.returns
returns c = tables-all c.loop-t.invariant.0 (omega arith)
