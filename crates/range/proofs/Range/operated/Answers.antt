-- `range::Range::operated` meets its contract. Assumes nothing.
use mir.Syntax.{w32, w64}
use mir.Val.{SFits}
use mir.Facts.{to_z-of_z}
use borrow.Author.Rules.{rules}
use Rattle.value.proofs.Fits.{back}
use Rattle.value.proofs.Order.{min_is, max_is}
use Rattle.range.proofs.Range.operated.Goals as goal

pub returns : goal.returns
returns c = let a : SFits w32 c.args.self.lo = search rules in
    let b : SFits w32 c.args.self.hi = search rules in
    let pl : SFits w64 c.results-p.result.0 = search rules in
    let ph : SFits w64 c.results-p.result.1 = search rules in
    let ql : SFits w64 c.results-q.result.0 = search rules in
    let qh : SFits w64 c.results-q.result.1 = search rules in
    rw (
      c.checked.ensures,
      back w64 _ c.min.type_inv,
      back w64 _ c.max.type_inv,
      c.min.ensures.value,
      c.max.ensures.value,
      to_z-of_z pl,
      to_z-of_z ph,
      to_z-of_z ql,
      to_z-of_z qh,
      min_is c.results-p.result.0 c.results-q.result.0,
      max_is c.results-p.result.1 c.results-q.result.1,
      c.results-p.ensures.lesser,
      c.results-p.ensures.greater,
      c.results-q.ensures.lesser,
      c.results-q.ensures.greater,
      to_z-of_z a,
      to_z-of_z b,
    )
