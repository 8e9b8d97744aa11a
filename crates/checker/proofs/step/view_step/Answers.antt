-- `checker::step::view_step` meets its contract. Assumes nothing.
use Rattle.catalog.specs.Kinds.{groups_rows}
use Rattle.text.proofs.Exits.{exit_is}
use Rattle.checker.proofs.KindLaws.{view-refused, view-broken}
use Rattle.checker.proofs.step.view_step.Goals as goal

pub returns-in_err-bytes_fault : goal.returns-in_err-bytes_fault
returns-in_err-bytes_fault c = view-refused (groups_rows c.args.kind) _ _ (exit_is _ c.from_residual.ensures.1) c.in_err-bytes_fault.ensures

pub returns-in_err-view : goal.returns-in_err-view
returns-in_err-view c = view-broken (groups_rows c.args.kind) _ _ (exit_is _ c.from_residual-in_err-view.ensures.1) c.in_ok-bytes_fault.ensures c.in_err-view.ensures
