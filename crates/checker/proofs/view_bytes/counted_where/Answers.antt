-- `checker::view_bytes::counted_where` meets its contract. Assumes nothing.
use mathlib.Core.Path.{refl}
use Rattle.prefix.specs.Skipped.{open_of}
use Rattle.checker.specs.Faults.{within}
use Rattle.checker.specs.ViewFaults.{where_groups, counted_where}
use Rattle.checker.proofs.FaultLaws.{told, chain-stop, chain-go}
use Rattle.checker.proofs.ViewFrameLaws.{count-then}
use Rattle.checker.proofs.view_bytes.counted_where.Goals as goal

pub returns-in_err-between : goal.returns-in_err-between
unfolding counted_where
returns-in_err-between c =
    let s = c.args.reader.now in
    count-then s.frame.now c.args.at (within 1 8) (where_groups (open_of s.relations.now s.setting) c.args.g) c.item_at-m.ensures refl refl (chain-stop _ _ _ c.from_residual.ensures.1 (told c.in_err-between.ensures))

pub returns : goal.returns
unfolding counted_where
returns c =
    let s = c.args.reader.now in
    count-then s.frame.now c.args.at (within 1 8) (where_groups (open_of s.relations.now s.setting) c.args.g) c.item_at-m.ensures refl refl (chain-go (told c.in_ok-between.ensures) c.where_groups.ensures)
