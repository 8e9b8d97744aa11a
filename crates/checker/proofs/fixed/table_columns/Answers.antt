-- `checker::fixed::table_columns` meets its contract. Assumes nothing.
use Rattle.checker.specs.FixedFaults.{table_columns}
use Rattle.checker.proofs.FaultLaws.{chain-stop, chain-go}
use Rattle.checker.proofs.fixed.table_columns.Goals as goal

pub returns-in_err-columns_fault : goal.returns-in_err-columns_fault
unfolding table_columns
returns-in_err-columns_fault c = chain-stop _ _ _ c.from_residual.ensures.1 c.in_err-columns_fault.ensures

pub returns : goal.returns
unfolding table_columns
returns c = chain-go c.in_ok-columns_fault.ensures c.ends_at.ensures
