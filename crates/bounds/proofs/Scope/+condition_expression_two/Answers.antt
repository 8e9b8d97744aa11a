-- The proof of the cycle of calls of `bounds::Scope::condition`, `bounds::Scope::expression` and `bounds::Scope::two`. The measure is twice what is left of
-- the frame, and one more where the function hands its own position on. Each answer cites the law of its token. Assumes nothing.
use mathlib.Core.Path.{ap, ap₂, ◌∙◌}
use mathlib.Core.Bool.{Bool, ◌&&◌}
use native.Mathlib.Omega.{arith}
use Rattle.std.specs.Prelude.{Option}
use Rattle.range.specs.declared.Range.{Range}
use Rattle.bounds.specs.Walk.{operated_r, aggregated_r, sized}
use Rattle.bounds.proofs.Parts.{within-some}
use Rattle.catalog.proofs.ItemLaws.{opened-last}
use Rattle.bounds.proofs.Walks.{two-in-turn, end_e, end_c, on-constant, on-column, on-operation, on-rounding, on-choice, on-aggregate, unknown_e, on-always, on-comparison, on-negated, on-connection, on-exists, unknown_c}
use Rattle.bounds.proofs.Scope.+condition_expression_two.Goals as goal
use Rattle.bounds.proofs.Scope.+condition_expression_two.Goals.{condition-in_default-via-then-token-lt16, condition-in_default-via-else-token-lt16+else-token-lt20+else-token-lt23}

pub condition-returns-then-self-at : goal.condition-returns-then-self-at
condition-returns-then-self-at t c = end_c _ _ _ _ _ c.if-self-at.true c.testing.ensures

pub condition-condition-requires : goal.condition-condition-requires
condition-condition-requires t c = omega arith

pub condition-condition-c-requires : goal.condition-condition-c-requires
condition-condition-c-requires t c = omega arith

pub condition-two-p-requires : goal.condition-two-p-requires
condition-two-p-requires t c = omega arith

pub condition-condition-c-requires-in-21-to-22 : goal.condition-condition-c-requires-in-21-to-22
condition-condition-c-requires-in-21-to-22 t c = omega arith

pub condition-condition-d-requires : goal.condition-condition-d-requires
condition-condition-d-requires t c = omega arith

pub condition-returns-in-16 : goal.condition-returns-in-16
condition-returns-in-16 t c = on-always _ _ _ _ _ c.if-self-at.false c.in-16.is c.testing-in-16.ensures

pub condition-returns-in-20 : goal.condition-returns-in-20
condition-returns-in-20 t c = on-negated _ _ _ _ _ c.if-self-at.false c.in-20.is c.condition.ensures

pub condition-returns-in-23 : goal.condition-returns-in-23
condition-returns-in-23 t c = on-exists _ _ _ _ _ c.if-self-at.false c.in-23.is
    (opened-last _ c.item_at.ensures c.opened.ensures)
    c.in_where.ensures c.condition-c.ensures c.existing.ensures

pub condition-returns-in-17-to-19 : goal.condition-returns-in-17-to-19
condition-returns-in-17-to-19 t c = on-comparison _ _ _ _ _ c.if-self-at.false (omega arith) (omega arith) c.two-p.ensures
    (c.is_some.ensures ∙ within-some _) (c.is_some-in-17-to-19.ensures ∙ within-some _) c.testing-in-17-to-19.ensures

pub condition-returns-in-21-to-22 : goal.condition-returns-in-21-to-22
condition-returns-in-21-to-22 t c = on-connection _ _ _ _ _ c.if-self-at.false (omega arith) (omega arith)
    c.condition-c-in-21-to-22.ensures c.condition-d.ensures c.testing-in-21-to-22.ensures

pub condition-returns-in_default : goal.condition-returns-in_default
condition-returns-in_default t c = unknown_c _ _ _ _ _ c.if-self-at.false (λ l h. elim c.in_default.branch [ condition-in_default-via-then-token-lt16 w ↦ omega arith | condition-in_default-via-else-token-lt16+else-token-lt20+else-token-lt23 w ↦ omega arith ]) c.testing-in_default.ensures

pub expression-returns-then-self-at : goal.expression-returns-then-self-at
expression-returns-then-self-at t c = end_e _ _ _ _ _ c.if-self-at.true c.sizing.ensures

pub expression-expression-a-requires : goal.expression-expression-a-requires
expression-expression-a-requires t c = omega arith

pub expression-condition-c-requires : goal.expression-condition-c-requires
expression-condition-c-requires t c = omega arith

pub expression-expression-a-requires-in-7 : goal.expression-expression-a-requires-in-7
expression-expression-a-requires-in-7 t c = omega arith

pub expression-two-p-requires : goal.expression-two-p-requires
expression-two-p-requires t c = omega arith

pub expression-returns-in-0 : goal.expression-returns-in-0
expression-returns-in-0 t c = on-constant _ _ _ _ _ c.if-self-at.false c.in-0.is c.constant.ensures

pub expression-returns-in-1 : goal.expression-returns-in-1
expression-returns-in-1 t c = on-column _ _ _ _ _ c.if-self-at.false c.in-1.is c.column.ensures

pub expression-returns-in-5 : goal.expression-returns-in-5
expression-returns-in-5 t c = on-rounding _ _ _ _ _ c.if-self-at.false c.in-5.is c.expression-a.ensures c.word_at-m.ensures (c.sizing-in-5.ensures ∙ ap (λ (q : Option Range). sized c.expression-a.result.next c.expression-a.result.allowed q) c.rounded.ensures)

pub expression-returns-in-6 : goal.expression-returns-in-6
expression-returns-in-6 t c = on-choice _ _ _ _ _ c.if-self-at.false c.in-6.is c.condition-c.ensures c.two-p.ensures
    (c.sizing-in-6.ensures ∙ ap (λ (q : Option Range). sized c.two-p.result.next (c.condition-c.result.allowed && c.two-p.result.allowed) q) c.chosen-range.ensures)

pub expression-returns-in-7 : goal.expression-returns-in-7
expression-returns-in-7 t c = on-aggregate _ _ _ _ _ c.if-self-at.false c.in-7.is c.item_at.ensures
    c.inside.ensures c.expression-a-in-7.ensures
    (c.sizing-in-7.ensures ∙ ap₂ (λ (b : Bool) (q : Option Range). sized c.expression-a-in-7.result.next (b && c.expression-a-in-7.result.allowed) q) c.aggregates.ensures (c.aggregated-range.ensures ∙ ap (λ op. aggregated_r op c.args.self.now.rule.bound c.expression-a-in-7.result.range) c.from-kind.ensures))

pub expression-returns-in-2-to-4 : goal.expression-returns-in-2-to-4
expression-returns-in-2-to-4 t c = on-operation _ _ _ _ _ c.if-self-at.false (omega arith) (omega arith) c.two-p-in-2-to-4.ensures (c.operated.ensures ∙ ap (λ op. operated_r op c.two-p-in-2-to-4.result.first c.two-p-in-2-to-4.result.second) c.from-operation.ensures) c.sizing-in-2-to-4.ensures

pub expression-returns-in_default : goal.expression-returns-in_default
expression-returns-in_default t c = unknown_e _ _ _ _ _ c.if-self-at.false (omega arith) c.sizing-in_default.ensures

pub two-expression-a-requires : goal.two-expression-a-requires
two-expression-a-requires t c = omega arith

pub two-expression-b-requires : goal.two-expression-b-requires
two-expression-b-requires t c = omega arith

pub two-returns : goal.two-returns
two-returns t c = two-in-turn _ _ _ _ _ c.expression-a.ensures c.expression-b.ensures
