-- `checker::view_bytes::counted_select` meets its contract. Assumes nothing.
use mathlib.Core.Path.{refl}
use Rattle.prefix.specs.Skipped.{open_of}
use Rattle.checker.specs.Faults.{within}
use Rattle.checker.specs.ViewFaults.{condition_select, counted_select}
use Rattle.checker.proofs.FaultLaws.{told, chain-stop, chain-go}
use Rattle.checker.proofs.ViewFrameLaws.{count-then}
use Rattle.checker.proofs.view_bytes.counted_select.Goals as goal

pub returns-in_err-between : goal.returns-in_err-between
unfolding counted_select
returns-in_err-between c =
    let s = c.args.reader.now in
    count-then s.frame.now c.args.at (within 1 8) (condition_select (open_of s.relations.now s.setting)) c.item_at-m.ensures refl refl (chain-stop _ _ _ c.from_residual.ensures.1 (told c.in_err-between.ensures))

pub returns : goal.returns
unfolding counted_select
returns c =
    let s = c.args.reader.now in
    count-then s.frame.now c.args.at (within 1 8) (condition_select (open_of s.relations.now s.setting)) c.item_at-m.ensures refl refl (chain-go (told c.in_ok-between.ensures) c.condition_select.ensures)
