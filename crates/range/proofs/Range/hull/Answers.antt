-- `range::Range::hull` meets its contract. Assumes nothing.
use mir.Syntax.{w32}
use mir.Val.{SFits}
use mir.Facts.{to_z-of_z}
use borrow.Author.Rules.{rules}
use Rattle.value.proofs.Fits.{back}
use Rattle.value.proofs.Order.{min_is, max_is}
use Rattle.range.proofs.Range.hull.Goals as goal

pub returns : goal.returns
returns c = let a : SFits w32 c.args.self.lo = search rules in
    let b : SFits w32 c.args.self.hi = search rules in
    let p : SFits w32 c.args.other.lo = search rules in
    let q : SFits w32 c.args.other.hi = search rules in
    rw (
      back w32 _ c.min.type_inv,
      back w32 _ c.max.type_inv,
      c.min.ensures.value,
      c.max.ensures.value,
      to_z-of_z a,
      to_z-of_z b,
      to_z-of_z p,
      to_z-of_z q,
      min_is c.args.self.lo c.args.other.lo,
      max_is c.args.self.hi c.args.other.hi,
    )
