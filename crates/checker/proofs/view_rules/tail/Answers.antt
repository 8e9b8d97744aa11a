-- `checker::view_rules::tail` meets its contract. Assumes nothing.
use mathlib.Core.Path.{ap, ◌∙◌}
use Rattle.text.proofs.Exits.{exit_is}
use Rattle.catalog.specs.Items.{relations_in}
use Rattle.checker.specs.Faults.{fault_told}
use Rattle.checker.proofs.ViewRuleLaws.{tail-ruled}
use Rattle.checker.proofs.view_rules.tail.Goals as goal

pub returns-in_err-rules_fault : goal.returns-in_err-rules_fault
returns-in_err-rules_fault c =
    let x = c.args.scope.now in
    let e = exit_is _ c.from_residual.ensures.1 in
    tail-ruled x.frame.now c.args.head c.args.count (relations_in x.items) x.relations.now x.rule _
    c.selects-s.result c.selects-s.ensures (ap fault_told e ∙ c.in_err-rules_fault.ensures) (λ x p. absurd (cc (p, e)))

pub returns : goal.returns
returns c =
    let x = c.args.scope.now in
    tail-ruled x.frame.now c.args.head c.args.count (relations_in x.items) x.relations.now x.rule _
    c.selects-s.result c.selects-s.ensures c.in_ok-rules_fault.ensures (λ x p. cc)
