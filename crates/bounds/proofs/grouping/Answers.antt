-- `bounds::grouping` meets its contract. Assumes nothing.
use native.Mathlib.Omega.{arith}
use Rattle.bounds.proofs.Columns.{none_passed, seek_found, seek-on, seek-none}
use Rattle.bounds.proofs.grouping.Goals as goal

pub loop-k-init : goal.loop-k-init
loop-k-init c = none_passed _ _ _

pub returns-then-item_at-item : goal.returns-then-item_at-item
returns-then-item_at-item c =
    let p = rw c.from.ensures at c.item_at.ensures in
    let q = rw c.from.ensures at c.item_at-in-loop-k.ensures in
    seek_found _ _ _ c.loop-k.invariant c.loop-k-test.true (rw (← p, ← q) c.if-item_at-item.true)

pub loop-k-preserved : goal.loop-k-preserved
loop-k-preserved c =
    let p = rw c.from.ensures at c.item_at.ensures in
    let q = rw c.from.ensures at c.item_at-in-loop-k.ensures in
    seek-on _ _ _ c.loop-k.invariant c.loop-k-test.true (rw (← p, ← q) c.if-item_at-item.false)

pub returns : goal.returns
returns c = seek-none _ _ _ c.loop-k.invariant (omega (arith, c.loop-k-test.false))
