-- `prefix::tested` meets its contract. Assumes nothing.
use mathlib.Core.Path.{sym, ap, ◌∙◌}
use Rattle.prefix.specs.Skipped.{FormEnd}
use Rattle.prefix.proofs.Ends.{field-if}
use Rattle.prefix.proofs.Skips.{past_end}
use Rattle.prefix.proofs.Fields.{if-in, if-over}
use Rattle.prefix.proofs.tested.Goals as goal

pub returns-then-frame-at : goal.returns-then-frame-at
returns-then-frame-at g c = let a = c.args in λ number four.
    ap FormEnd.refused (four _ c.from.ensures) ∙ sym (past_end _ (field-if (number a.reason) (λ _. a.passes)) _ c.if-frame-at.true)

pub returns-then-passes : goal.returns-then-passes
returns-then-passes g c = let a = c.args in λ number four. sym (if-in _ _ c.if-frame-at.false (number a.reason) (λ _. a.passes) c.if-passes.true)

pub returns-else-passes : goal.returns-else-passes
returns-else-passes g c = let a = c.args in λ number four. sym (if-over _ _ c.if-frame-at.false (number a.reason) (λ _. a.passes) c.if-passes.false)
