-- `checker::step::set_step` meets its contract. Assumes nothing.
use Rattle.text.proofs.Exits.{exit_is}
use Rattle.checker.proofs.KindLaws.{set-refused, set-done}
use Rattle.checker.proofs.step.set_step.Goals as goal

pub returns-in_err-set_fault : goal.returns-in_err-set_fault
returns-in_err-set_fault c = set-refused _ _ _ (exit_is _ c.from_residual.ensures.1) c.in_err-set_fault.ensures

pub returns : goal.returns
returns c = rw c.put_item.ensures (set-done _ _ c.in_ok-set_fault.ensures c.set_parts.ensures c.set_of-joined.ensures c.with_view.ensures)
