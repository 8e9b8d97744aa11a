-- `checker::fixed::column_fault` meets its contract. Assumes nothing.
use mathlib.Core.Path.{refl, sym, ap, ◌∙◌}
use mathlib.Core.Bool.{cond}
use mir.Syntax.{w16}
use Rattle.value.proofs.Fits.{back}
use Rattle.checker.proofs.FixedLaws.{column-short, column-answer}
use Rattle.checker.proofs.fixed.column_fault.Goals as goal

pub returns-then-frame-at : goal.returns-then-frame-at
returns-then-frame-at c = sym (column-short c.args.frame.now c.args.at c.if-frame-at.true)

pub returns-then-lo-hi : goal.returns-then-lo-hi
returns-then-lo-hi c = ap (λ t. cond t 0 5) (sym c.if-lo-hi.true)
    ∙ column-answer c.args.frame.now c.args.at _ _ _ c.if-frame-at.false
    (back w16 _ c.number_at-lo.type_inv ∙ c.number_at-lo.ensures) (back w16 _ c.number_at-hi.type_inv ∙ c.number_at-hi.ensures) refl

pub returns-else-lo-hi : goal.returns-else-lo-hi
returns-else-lo-hi c = ap (λ t. cond t 0 5) (sym c.if-lo-hi.false)
    ∙ column-answer c.args.frame.now c.args.at _ _ _ c.if-frame-at.false
    (back w16 _ c.number_at-lo.type_inv ∙ c.number_at-lo.ensures) (back w16 _ c.number_at-hi.type_inv ∙ c.number_at-hi.ensures) refl
