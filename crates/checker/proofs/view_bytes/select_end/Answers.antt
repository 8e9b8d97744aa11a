-- `checker::view_bytes::select_end` meets its contract. Assumes nothing.
use mathlib.Core.Path.{ap, ◌∙◌}
use Rattle.text.proofs.Exits.{exit_is}
use Rattle.prefix.specs.Skipped.{skip_told, open_of}
use Rattle.checker.specs.Faults.{fault_told}
use Rattle.checker.proofs.ViewByteLaws.{select-next, select-stop}
use Rattle.checker.proofs.view_bytes.select_end.Goals as goal

pub returns-in_err-next : goal.returns-in_err-next
returns-in_err-next c =
    let s = c.args.reader.now in
    ap fault_told (exit_is _ c.from_residual.ensures.1)
    ∙ select-stop _ (open_of s.relations.now s.setting) _ _ c.expressions.ensures (ap skip_told c.in_err-next.was)

pub returns : goal.returns
returns c =
    let s = c.args.reader.now in
    select-next _ (open_of s.relations.now s.setting) _ _ c.expressions.ensures c.requires (ap skip_told c.in_ok-next.was) c.ends_at.ensures
