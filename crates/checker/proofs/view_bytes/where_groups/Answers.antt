-- `checker::view_bytes::where_groups` meets its contract. Assumes nothing.
use mathlib.Core.Path.{ap, ◌∙◌}
use Rattle.text.proofs.Exits.{exit_is}
use Rattle.prefix.specs.Skipped.{skip_told, open_of}
use Rattle.checker.specs.Faults.{fault_told}
use Rattle.checker.proofs.ViewByteLaws.{condition-inside, where-stop, groups-next, groups-stop}
use Rattle.checker.proofs.view_bytes.where_groups.Goals as goal

pub places-requires : goal.places-requires
places-requires c = condition-inside _ _ _ c.condition.ensures (ap skip_told c.in_ok-next.was)

pub returns-in_err-next : goal.returns-in_err-next
returns-in_err-next c =
    ap fault_told (exit_is _ c.from_residual.ensures.1) ∙ where-stop _ _ _ c.condition.ensures _ _ (ap skip_told c.in_err-next.was)

pub returns-in_err-having : goal.returns-in_err-having
returns-in_err-having c =
    let s = c.args.reader.now in
    ap fault_told (exit_is _ c.from_residual-in_err-having.ensures.1)
    ∙ groups-stop _ (open_of s.relations.now s.setting) _ c.condition.ensures _ _ (ap skip_told c.in_ok-next.was) c.places.ensures (ap skip_told c.in_err-having.was)

pub returns : goal.returns
returns c =
    let s = c.args.reader.now in
    groups-next _ (open_of s.relations.now s.setting) _ c.condition.ensures _ _
    (ap skip_told c.in_ok-next.was) c.places.ensures (ap skip_told c.in_ok-having.was) c.condition_select.ensures
