-- `checker::view_bytes::bytes_fault` meets its contract. Assumes nothing.
use mathlib.Core.Path.{refl}
use Rattle.catalog.specs.Kinds.{groups_rows}
use Rattle.checker.proofs.FaultLaws.{chain-stop, chain-go}
use Rattle.checker.proofs.ViewFrameLaws.{bytes-fault}
use Rattle.checker.proofs.view_bytes.bytes_fault.Goals as goal

pub returns-in_err-from_list : goal.returns-in_err-from_list
returns-in_err-from_list c = bytes-fault c.args.frame.now c.args.relations.now c.args.count c.from_items.ensures c.item_at.ensures c.from-at.ensures (groups_rows c.args.kind) refl refl
    (chain-stop _ _ _ c.from_residual.ensures.1 c.in_err-from_list.ensures)

pub returns : goal.returns
returns c = bytes-fault c.args.frame.now c.args.relations.now c.args.count c.from_items.ensures c.item_at.ensures c.from-at.ensures (groups_rows c.args.kind) refl refl
    (chain-go c.in_ok-from_list.ensures c.behind_froms.ensures)
