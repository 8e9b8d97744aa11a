-- `checker::view_bytes::counted_groups` meets its contract. Assumes nothing.
use mathlib.Core.Path.{refl}
use Rattle.prefix.specs.Skipped.{open_of}
use Rattle.checker.specs.Faults.{within}
use Rattle.checker.specs.ViewFaults.{counted_where, counted_groups}
use Rattle.checker.proofs.FaultLaws.{told, chain-stop, chain-go}
use Rattle.checker.proofs.ViewFrameLaws.{count-then}
use Rattle.checker.proofs.view_bytes.counted_groups.Goals as goal

pub returns-in_err-between : goal.returns-in_err-between
unfolding counted_groups
returns-in_err-between c =
    let s = c.args.reader.now in
    count-then s.frame.now c.args.at (within 0 4) (counted_where (open_of s.relations.now s.setting)) c.item_at-g.ensures refl refl (chain-stop _ _ _ c.from_residual.ensures.1 (told c.in_err-between.ensures))

pub returns : goal.returns
unfolding counted_groups
returns c =
    let s = c.args.reader.now in
    count-then s.frame.now c.args.at (within 0 4) (counted_where (open_of s.relations.now s.setting)) c.item_at-g.ensures refl refl (chain-go (told c.in_ok-between.ensures) c.counted_where.ensures)
