-- `checker::step::key_step` meets its contract. Assumes nothing.
use Rattle.text.proofs.Exits.{exit_is}
use Rattle.checker.proofs.KindLaws.{key-refused, key-done}
use Rattle.checker.proofs.step.key_step.Goals as goal

pub returns-in_err-key_fault : goal.returns-in_err-key_fault
returns-in_err-key_fault c = key-refused _ _ (exit_is _ c.from_residual.ensures.1) c.in_err-key_fault.ensures

pub returns : goal.returns
returns c = key-done c.in_ok-key_fault.ensures c.with_key.ensures
