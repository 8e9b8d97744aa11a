-- `checker::fixed::table_fault` meets its contract. Assumes nothing.
use mathlib.Core.Path.{refl}
use Rattle.checker.proofs.FixedAnswers.{table-answer}
use Rattle.checker.proofs.FaultLaws.{chain-stop, chain-go}
use Rattle.checker.proofs.fixed.table_fault.Goals as goal

pub returns-in_err-table_head : goal.returns-in_err-table_head
returns-in_err-table_head c = table-answer c.args.frame.now c.item_at-n.ensures refl refl (chain-stop _ _ _ c.from_residual.ensures.1 c.in_err-table_head.ensures)

pub returns : goal.returns
returns c = table-answer c.args.frame.now c.item_at-n.ensures refl refl (chain-go c.in_ok-table_head.ensures c.table_columns.ensures)
