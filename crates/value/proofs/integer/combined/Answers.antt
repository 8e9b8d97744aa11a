-- `value::integer::combined` meets its contract. Assumes nothing.
use mathlib.Core.Path.{sym, ap, ◌∙◌}
use mir.Syntax.{w32}
use mir.Val.{SFits}
use mir.Facts.{to_z-of_z}
use Rattle.value.specs.Integer.{narrow32}
use Rattle.value.proofs.Fits.{fits-narrow32}
use Rattle.value.proofs.Order.{min_is, max_is}
use Rattle.value.proofs.integer.combined.Goals as goal

pub returns-in-Minimum : goal.returns-in-Minimum
returns-in-Minimum c = let f : SFits w32 c.min.result = record { sfits = c.min.type_inv } in
    rw c.in-Minimum.is (to_z-of_z f ∙ sym (fits-narrow32 f) ∙ ap (λ z. narrow32 z) ((simp (to_z-of_z, c.ranges.a, c.ranges.b) at c.min.ensures.value) ∙ min_is _ _))

pub returns-in-Maximum : goal.returns-in-Maximum
returns-in-Maximum c = let f : SFits w32 c.max.result = record { sfits = c.max.type_inv } in
    rw c.in-Maximum.is (to_z-of_z f ∙ sym (fits-narrow32 f) ∙ ap (λ z. narrow32 z) ((simp (to_z-of_z, c.ranges.a, c.ranges.b) at c.max.ensures.value) ∙ max_is _ _))
