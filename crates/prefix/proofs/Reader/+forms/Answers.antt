-- The cycle of forms meets its contracts: `expression` and `condition`, two of each, and what stands behind a token. The measure is the number
-- of bytes left, three times, so that a call at the same place can be below its caller. Assumes nothing.
use mathlib.Core.Path.{ap, sym, ◌∙◌}
use mathlib.Core.Bool.{Bool, ◌&&◌}
use lib.Dec.{leb}
use Prim.Native.Nat.{ℕ}
use native.Mathlib.Omega.{arith}
use Rattle.text.proofs.Exits.{exit_is}
use Rattle.text.specs.Refusals.{number_of}
use Rattle.prefix.specs.Skipped.{skip_told, twice}
use Rattle.prefix.proofs.Fields.{form-is-4}
use Rattle.language.specs.Reading.{byte_if, step, read_e, read_c}
use Rattle.prefix.proofs.Ends.{field-if, field_step, field_e, field_c}
use Rattle.prefix.proofs.Skips.{level-refl, past_end, then-further, then_next, then-stop}
use Rattle.prefix.proofs.Tokens.{on-constant, on-place, on-operation, on-rounding, on-choice, on-aggregate, unknown_e, on-always, on-comparison, on-negated, on-connection, on-exists, refused-seventh, looked-next, looked-further, looked-stop, unknown_c}
use Rattle.prefix.proofs.Reader.+forms.Goals as goal

abbrev kinds : ℕ → Bool
kinds b = leb 0 b && leb b 3

pub behind_condition-returns-in-16 : goal.behind_condition-returns-in-16
behind_condition-returns-in-16 t c = sym (on-always _ _ _ _ c.requires c.in-16.is)

pub behind_condition-returns-in-20 : goal.behind_condition-returns-in-20
behind_condition-returns-in-20 t c = c.condition.ensures ∙ sym (on-negated _ _ _ _ c.in-20.is)

pub behind_condition-returns-in-23 : goal.behind_condition-returns-in-23
behind_condition-returns-in-23 t c = c.behind_exists.ensures ∙ sym (on-exists _ _ _ _ c.in-23.is)

pub behind_condition-returns-in-17-to-19 : goal.behind_condition-returns-in-17-to-19
behind_condition-returns-in-17-to-19 t c = c.two_expressions.ensures ∙ sym (on-comparison _ _ _ _ (omega arith) (omega arith))

pub behind_condition-returns-in-21-to-22 : goal.behind_condition-returns-in-21-to-22
behind_condition-returns-in-21-to-22 t c = c.two_conditions.ensures ∙ sym (on-connection _ _ _ _ (omega arith) (omega arith))

pub behind_condition-returns-in_default : goal.behind_condition-returns-in_default
behind_condition-returns-in_default t c = sym (unknown_c _ _ _ c.args.token (λ l. omega arith))

pub behind_condition-returns-in_default-2 : goal.behind_condition-returns-in_default-2
behind_condition-returns-in_default-2 t c = sym (unknown_c _ _ _ _ (λ l. omega arith))

pub behind_exists-returns-then-setting-ge6 : goal.behind_exists-returns-then-setting-ge6
behind_exists-returns-then-setting-ge6 t c = let s = c.args.self.now in sym (refused-seventh _ _ s.relations.now s.setting c.if-setting-ge6.true)

pub behind_exists-condition-requires : goal.behind_exists-condition-requires
behind_exists-condition-requires t c =
    let s = c.args.self.now in
    let h = looked-further s.frame.now c.args.at s.relations.now s.setting c.if-setting-ge6.false (c.below.ensures number_of form-is-4) (ap skip_told c.in_ok-next.was) in
    (omega arith, tt)

pub behind_exists-returns : goal.behind_exists-returns
behind_exists-returns t c =
    let s = c.args.self.now in
    rw c.opened.ensures at c.condition.ensures
    ∙ sym (looked-next _ _ s.relations.now s.setting c.if-setting-ge6.false (c.below.ensures number_of form-is-4) (ap skip_told c.in_ok-next.was) c.item_at.ensures)

pub behind_exists-returns-in_err-next : goal.behind_exists-returns-in_err-next
behind_exists-returns-in_err-next t c =
    let s = c.args.self.now in
    ap skip_told (exit_is _ c.from_residual.ensures.1)
    ∙ sym (looked-stop _ _ s.relations.now s.setting c.if-setting-ge6.false (c.below.ensures number_of form-is-4) (ap skip_told c.in_err-next.was))

pub behind_expression-expression-requires : goal.behind_expression-expression-requires
behind_expression-expression-requires t c = let h = then-further _ field_step _ c.step.ensures (ap skip_told c.in_ok-next-in-5.was) in (omega arith, tt)

pub behind_expression-two_expressions-requires : goal.behind_expression-two_expressions-requires
behind_expression-two_expressions-requires t c = let h = then-further _ (field_c _) _ c.condition.ensures (ap skip_told c.in_ok-next-in-6.was) in (omega arith, tt)

pub behind_expression-expression-requires-in-7 : goal.behind_expression-expression-requires-in-7
behind_expression-expression-requires-in-7 t c = let h = then-further _ (field-if 5 kinds) _ (c.between.ensures number_of form-is-4) (ap skip_told c.in_ok-next-in-7.was) in (omega arith, tt)

pub behind_expression-returns-in-0 : goal.behind_expression-returns-in-0
behind_expression-returns-in-0 t c = c.two_bytes.ensures ∙ sym (on-constant _ _ _ _ c.in-0.is)

pub behind_expression-returns-in-1 : goal.behind_expression-returns-in-1
behind_expression-returns-in-1 t c = c.place.ensures ∙ sym (on-place _ _ _ _ c.in-1.is)

pub behind_expression-returns-in_ok-next-in-5 : goal.behind_expression-returns-in_ok-next-in-5
behind_expression-returns-in_ok-next-in-5 t c =
    c.expression.ensures ∙ sym (on-rounding _ _ _ _ c.in-5.is ∙ then_next _ field_step _ c.step.ensures (ap skip_told c.in_ok-next-in-5.was) (λ _. level-refl))

pub behind_expression-returns-in_err-next-in-5 : goal.behind_expression-returns-in_err-next-in-5
behind_expression-returns-in_err-next-in-5 t c =
    ap skip_told (exit_is _ c.from_residual.ensures.1)
    ∙ sym (on-rounding _ _ _ _ c.in-5.is ∙ then-stop _ step _ _ _ c.step.ensures (ap skip_told c.in_err-next-in-5.was))

pub behind_expression-returns-in_ok-next-in-6 : goal.behind_expression-returns-in_ok-next-in-6
behind_expression-returns-in_ok-next-in-6 t c =
    c.two_expressions.ensures ∙ sym (on-choice _ _ _ _ c.in-6.is ∙ then_next _ (field_c _) _ c.condition.ensures (ap skip_told c.in_ok-next-in-6.was) (λ _. level-refl))

pub behind_expression-returns-in_err-next-in-6 : goal.behind_expression-returns-in_err-next-in-6
behind_expression-returns-in_err-next-in-6 t c =
    ap skip_told (exit_is _ c.from_residual-in_err-next-in-6.ensures.1)
    ∙ sym (on-choice _ _ _ _ c.in-6.is ∙ then-stop _ (read_c _) _ _ _ c.condition.ensures (ap skip_told c.in_err-next-in-6.was))

pub behind_expression-returns-in_ok-next-in-7 : goal.behind_expression-returns-in_ok-next-in-7
behind_expression-returns-in_ok-next-in-7 t c =
    c.expression-in-7.ensures
    ∙ sym (on-aggregate _ _ _ _ c.in-7.is ∙ then_next _ (field-if 5 kinds) _ (c.between.ensures number_of form-is-4) (ap skip_told c.in_ok-next-in-7.was) (λ _. level-refl))

pub behind_expression-returns-in_err-next-in-7 : goal.behind_expression-returns-in_err-next-in-7
behind_expression-returns-in_err-next-in-7 t c =
    ap skip_told (exit_is _ c.from_residual-in_err-next-in-7.ensures.1)
    ∙ sym (on-aggregate _ _ _ _ c.in-7.is ∙ then-stop _ (byte_if 5 kinds) _ _ _ (c.between.ensures number_of form-is-4) (ap skip_told c.in_err-next-in-7.was))

pub behind_expression-returns-in-2-to-4 : goal.behind_expression-returns-in-2-to-4
behind_expression-returns-in-2-to-4 t c = c.two_expressions-in-2-to-4.ensures ∙ sym (on-operation _ _ _ _ (λ e. omega arith) (λ e. omega arith) (omega arith))

pub behind_expression-returns-in_default : goal.behind_expression-returns-in_default
behind_expression-returns-in_default t c = sym (unknown_e _ _ _ c.args.token (omega arith))

pub condition-returns-then-self-at : goal.condition-returns-then-self-at
condition-returns-then-self-at t c = sym (past_end _ (field_c _) _ c.if-self-at.true)

pub expression-returns-then-self-at : goal.expression-returns-then-self-at
expression-returns-then-self-at t c = sym (past_end _ (field_e _) _ c.if-self-at.true)

pub two_conditions-condition-requires-2 : goal.two_conditions-condition-requires-2
two_conditions-condition-requires-2 t c = let h = then-further _ (field_c _) _ c.condition.ensures (ap skip_told c.in_ok-next.was) in (omega arith, tt)

pub two_conditions-returns : goal.two_conditions-returns
unfolding twice
two_conditions-returns t c = c.condition-2.ensures ∙ sym (then_next _ (field_c _) _ c.condition.ensures (ap skip_told c.in_ok-next.was) (λ _. level-refl))

pub two_conditions-returns-in_err-next : goal.two_conditions-returns-in_err-next
unfolding twice
two_conditions-returns-in_err-next t c =
    ap skip_told (exit_is _ c.from_residual.ensures.1) ∙ sym (then-stop _ (read_c _) _ _ _ c.condition.ensures (ap skip_told c.in_err-next.was))

pub two_expressions-expression-requires-2 : goal.two_expressions-expression-requires-2
two_expressions-expression-requires-2 t c = let h = then-further _ (field_e _) _ c.expression.ensures (ap skip_told c.in_ok-next.was) in (omega arith, tt)

pub two_expressions-returns : goal.two_expressions-returns
unfolding twice
two_expressions-returns t c = c.expression-2.ensures ∙ sym (then_next _ (field_e _) _ c.expression.ensures (ap skip_told c.in_ok-next.was) (λ _. level-refl))

pub two_expressions-returns-in_err-next : goal.two_expressions-returns-in_err-next
unfolding twice
two_expressions-returns-in_err-next t c =
    ap skip_told (exit_is _ c.from_residual.ensures.1) ∙ sym (then-stop _ (read_e _) _ _ _ c.expression.ensures (ap skip_told c.in_err-next.was))
