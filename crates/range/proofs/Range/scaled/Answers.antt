-- `range::Range::scaled` meets its contract. Assumes nothing.
use lib.IntN.{pos}
use mir.Syntax.{w32, w64}
use mir.Val.{SFits}
use mir.Facts.{to_z-of_z}
use borrow.Author.Rules.{rules}
use Rattle.value.proofs.Fits.{back}
use Rattle.value.proofs.Order.{min_is, max_is}
use Rattle.range.proofs.Range.scaled.Goals as goal

pub returns : goal.returns
returns c = let a : SFits w32 c.args.self.lo = search rules in
    let b : SFits w32 c.args.self.hi = search rules in
    rw (
      c.checked.ensures,
      back w64 _ c.times-lo.type_inv,
      back w64 _ c.times-hi.type_inv,
      c.times-lo.ensures,
      c.times-hi.ensures,
      back w32 _ c.min.type_inv,
      back w32 _ c.max.type_inv,
      c.min.ensures.value,
      c.max.ensures.value,
      to_z-of_z a,
      to_z-of_z b,
      min_is c.args.self.lo (pos 0),
      max_is c.args.self.hi (pos 0),
    )
