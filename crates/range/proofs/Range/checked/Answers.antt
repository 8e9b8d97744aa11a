-- `range::Range::checked` meets its contract. Assumes nothing.
use mathlib.Core.Path.{◌≡◌, sym, ap, ◌∙◌}
use mathlib.Core.Bool.{false}
use mir.Syntax.{w32}
use mir.Facts.{to_z-of_z}
use mir.Val.{SFits}
use borrow.Author.Rules.{rules}
use Rattle.value.specs.Integer.{in32}
use Rattle.range.specs.Ranges.{ranged_told}
use Rattle.range.proofs.Bits32.{ranged-within, ranged-low, ranged-high, ranged-told, tried-some, tried-none}
use Rattle.range.proofs.Range.checked.Goals as goal

pub returns-in_err-lo : goal.returns-in_err-lo
returns-in_err-lo c =
    let l : in32 c.args.lo ≡ false = simp (to_z-of_z, c.ranges.lo) at (tried-none _ _ c.try_from.ensures (sym c.ok.ensures.value ∙ c.in_err-lo.was)) in
    rw c.from_residual.ensures (sym (ap ranged_told (ranged-low _ l)) ∙ ranged-told _)

pub returns-in_err-hi : goal.returns-in_err-hi
returns-in_err-hi c =
    let l = tried-some _ _ c.try_from.ensures (sym c.ok.ensures.value ∙ c.in_ok-lo.was) in
    let h : in32 c.args.hi ≡ false = simp (to_z-of_z, c.ranges.hi) at (tried-none _ _ c.try_from-2.ensures (sym c.ok-2.ensures.value ∙ c.in_err-hi.was)) in
    rw c.from_residual-in_err-hi.ensures (sym (ap ranged_told (ranged-high _ (simp (to_z-of_z, c.ranges.lo) at l.0) h)) ∙ ranged-told _)

pub returns : goal.returns
returns c =
    let l = tried-some _ _ c.try_from.ensures (sym c.ok.ensures.value ∙ c.in_ok-lo.was) in
    let h = tried-some _ _ c.try_from-2.ensures (sym c.ok-2.ensures.value ∙ c.in_ok-hi.was) in
    let p : SFits w32 c.in_ok-lo.lo = search rules in
    let q : SFits w32 c.in_ok-hi.hi = search rules in
    rw (to_z-of_z p, to_z-of_z q, l.1, h.1, to_z-of_z c.ranges.lo, to_z-of_z c.ranges.hi)
    (sym (ap ranged_told (ranged-within _ (simp (to_z-of_z, c.ranges.lo) at l.0) (simp (to_z-of_z, c.ranges.hi) at h.0))) ∙ ranged-told _)
