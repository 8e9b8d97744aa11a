-- `checker::step::table_step` meets its contract. Assumes nothing.
use Rattle.text.proofs.Exits.{exit_is}
use Rattle.checker.proofs.KindLaws.{table-refused, table_done}
use Rattle.checker.proofs.step.table_step.Goals as goal

pub returns-in_err-table_fault : goal.returns-in_err-table_fault
returns-in_err-table_fault c = table-refused _ _ (exit_is _ c.from_residual.ensures.1) c.in_err-table_fault.ensures

pub returns : goal.returns
returns c = rw c.put_item.ensures (table_done _ c.in_ok-table_fault.ensures c.table_of.ensures c.with_table.ensures)
