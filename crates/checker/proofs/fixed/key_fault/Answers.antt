-- `checker::fixed::key_fault` meets its contract. Assumes nothing.
use mathlib.Core.Path.{refl}
use Rattle.checker.proofs.FixedAnswers.{key-answer}
use Rattle.checker.proofs.FaultLaws.{chain-stop, chain-go}
use Rattle.checker.proofs.fixed.key_fault.Goals as goal

pub returns-in_err-key_head : goal.returns-in_err-key_head
returns-in_err-key_head c = key-answer c.args.frame.now c.args.tables c.args.relations.now c.item_at-child.ensures c.item_at-parent.ensures c.item_at-n.ensures refl refl
    (chain-stop _ _ _ c.from_residual.ensures.1 c.in_err-key_head.ensures)

pub returns : goal.returns
returns c = key-answer c.args.frame.now c.args.tables c.args.relations.now c.item_at-child.ensures c.item_at-parent.ensures c.item_at-n.ensures refl refl
    (chain-go c.in_ok-key_head.ensures c.key_body.ensures)
