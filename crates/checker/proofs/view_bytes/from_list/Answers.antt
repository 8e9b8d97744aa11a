-- `checker::view_bytes::from_list` meets its contract. Assumes nothing.
use mathlib.Core.Path.{refl}
use Rattle.checker.proofs.FaultLaws.{told, chain-stop, chain-go}
use Rattle.checker.proofs.ViewByteLaws.{froms-are}
use Rattle.checker.proofs.view_bytes.from_list.Goals as goal

pub returns-in_err-between : goal.returns-in_err-between
returns-in_err-between c = froms-are c.args.frame.now c.args.count c.item_at-n.ensures refl refl (chain-stop _ _ _ c.from_residual.ensures.1 (told c.in_err-between.ensures))

pub returns : goal.returns
returns c = froms-are c.args.frame.now c.args.count c.item_at-n.ensures refl refl (chain-go (told c.in_ok-between.ensures) c.relations.ensures)
