-- `checker::view_bytes::condition_select` meets its contract. Assumes nothing.
use mathlib.Core.Path.{ap, ◌∙◌}
use Rattle.text.proofs.Exits.{exit_is}
use Rattle.prefix.specs.Skipped.{skip_told}
use Rattle.checker.specs.Faults.{fault_told}
use Rattle.checker.proofs.ViewByteLaws.{condition-inside, condition-next, condition-stop}
use Rattle.checker.proofs.view_bytes.condition_select.Goals as goal

pub select_end-requires : goal.select_end-requires
select_end-requires c = condition-inside _ _ _ c.condition.ensures (ap skip_told c.in_ok-next.was)

pub returns-in_err-next : goal.returns-in_err-next
returns-in_err-next c =
    ap fault_told (exit_is _ c.from_residual.ensures.1) ∙ condition-stop _ _ _ c.condition.ensures _ (ap skip_told c.in_err-next.was)

pub returns : goal.returns
returns c = condition-next _ _ _ c.condition.ensures _ (ap skip_told c.in_ok-next.was) c.select_end.ensures
