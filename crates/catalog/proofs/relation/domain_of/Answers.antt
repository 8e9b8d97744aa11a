-- `catalog::relation::domain_of` meets its contract. Assumes nothing.
use mathlib.Core.Path.{ap}
use mir.Syntax.{w16, w32}
use mir.Val.{SFits}
use mir.Facts.{to_z-of_z}
use borrow.Author.Rules.{rules}
use Rattle.value.proofs.Fits.{back}
use Rattle.value.specs.Integer.{narrow16}
use Rattle.value.specs.Machine.{column_of}
use Rattle.range.specs.declared.Range.{Range}
use Rattle.catalog.specs.Relations.{column_at}
use Rattle.catalog.proofs.relation.domain_of.Goals as goal

pub returns : goal.returns
unfolding column_at column_of
returns c = let f : SFits w32 c.range_at-range.result.lo = search rules in
    let g : SFits w32 c.range_at-range.result.hi = search rules in
    rw (back w16 _ c.narrow16.type_inv, back w16 _ c.narrow16-2.type_inv, c.narrow16.ensures, c.narrow16-2.ensures, to_z-of_z f, to_z-of_z g)
    (ap (λ (x : Range). record { lo = narrow16 x.lo; hi = narrow16 x.hi }) c.range_at-range.ensures)
