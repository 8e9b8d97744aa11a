-- `look::moves::Places::put_candidate` meets its contract. Assumes nothing.
use mathlib.Core.Path.{refl}
use Rattle.look.proofs.PlaceLaws.{placed-none, placed-short, placed_row, placed-all}
use Rattle.look.proofs.moves.Places.put_candidate.Goals as goal

pub loop-j-init : goal.loop-j-init
loop-j-init c = placed-none

pub returns-then-j-width : goal.returns-then-j-width
returns-then-j-width c = placed-short c.loop-j.invariant c.loop-j-test.true refl c.saturating_add-width.ensures c.if-j-width.true

pub loop-j-preserved : goal.loop-j-preserved
loop-j-preserved c =
    placed_row c.loop-j.invariant c.loop-j-test.true refl c.saturating_add-width.ensures
    c.take_row-r.ensures c.put.ensures

pub returns : goal.returns
returns c = placed-all c.loop-j.invariant c.loop-j-test.false
