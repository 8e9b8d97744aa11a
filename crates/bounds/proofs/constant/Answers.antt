-- `bounds::constant` meets its contract. Assumes nothing.
use Rattle.std.specs.Prelude.{Option}
use mathlib.Core.Path.{sym, ap, ◌∙◌}
use mathlib.Core.Bool.{true}
use Prim.Native.Nat.{◌+◌}
use lib.IntN.{ℤ}
use mir.Syntax.{w16, w32}
use mir.Val.{SFits}
use borrow.Author.Rules.{rules}
use Rattle.value.proofs.Fits.{back}
use Rattle.range.specs.Ranges.{ranged, constant_of}
use Rattle.range.specs.declared.Range.{Range}
use Rattle.range.proofs.Bits32.{ranged-fits}
use Rattle.bounds.specs.Walk.{sized}
use Rattle.bounds.proofs.constant.Goals as goal

pub returns : goal.returns
returns c = let l : SFits w32 c.constant.result.lo = search rules in
    let h : SFits w32 c.constant.result.hi = search rules in
    c.sizing.ensures
    ∙ ap (λ (v : Option Range). sized (c.args.at + 2) true v)
    (sym (ranged-fits c.constant.result l h)
    ∙ ap (λ (q : Range). ranged q) (c.constant.ensures ∙ ap (λ (z : ℤ). constant_of z) (back w16 _ c.from_bytes-n.type_inv ∙ c.from_bytes-n.ensures ∙ rw
    (c.item_at.ensures, c.item_at-2.ensures))))
