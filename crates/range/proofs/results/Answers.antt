-- `range::results` meets its contract. Assumes nothing.
use mir.Syntax.{w32, w64}
use mir.Val.{SFits}
use mir.Facts.{to_z-of_z}
use borrow.Author.Rules.{rules}
use Rattle.value.proofs.Fits.{back}
use Rattle.value.proofs.Order.{min_is, max_is}
use Rattle.range.proofs.results.Goals as goal

pub returns-clause-lesser : goal.returns-clause-lesser
returns-clause-lesser c = let l : SFits w32 c.args.b.lo = search rules in
    let h : SFits w32 c.args.b.hi = search rules in
    rw (
      back w64 _ c.min.type_inv,
      c.min.ensures.value,
      back w64 c.operate-p.result c.operate-p.type_inv,
      back w64 c.operate-q.result c.operate-q.type_inv,
      min_is c.operate-p.result c.operate-q.result,
      c.operate-p.ensures,
      c.operate-q.ensures,
      to_z-of_z c.ranges.x,
      to_z-of_z l,
      to_z-of_z h,
    )

pub returns-clause-greater : goal.returns-clause-greater
returns-clause-greater c = let l : SFits w32 c.args.b.lo = search rules in
    let h : SFits w32 c.args.b.hi = search rules in
    rw (
      back w64 _ c.max.type_inv,
      c.max.ensures.value,
      back w64 c.operate-p.result c.operate-p.type_inv,
      back w64 c.operate-q.result c.operate-q.type_inv,
      max_is c.operate-p.result c.operate-q.result,
      c.operate-p.ensures,
      c.operate-q.ensures,
      to_z-of_z c.ranges.x,
      to_z-of_z l,
      to_z-of_z h,
    )
