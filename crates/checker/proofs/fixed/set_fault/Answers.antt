-- `checker::fixed::set_fault` meets its contract. Assumes nothing.
use mathlib.Core.Path.{refl}
use Rattle.checker.proofs.FixedAnswers.{set-answer}
use Rattle.checker.proofs.FaultLaws.{chain-stop, chain-go}
use Rattle.checker.proofs.fixed.set_fault.Goals as goal

pub returns-in_err-set_bytes : goal.returns-in_err-set_bytes
returns-in_err-set_bytes c = set-answer c.args.frame.now c.args.tables c.args.count c.args.relations.now _ c.item_at-i.ensures c.item_at-j.ensures refl refl
    (chain-stop _ _ _ c.from_residual.ensures.1 c.in_err-set_bytes.ensures)

pub returns : goal.returns
returns c = set-answer c.args.frame.now c.args.tables c.args.count c.args.relations.now _ c.item_at-i.ensures c.item_at-j.ensures refl refl
    (chain-go c.in_ok-set_bytes.ensures c.set_rules.ensures)
