-- `cases::validity::Key::agrees` meets its contract. Assumes nothing.
use mathlib.Core.Path.{refl, ◌∙◌}
use mathlib.Core.Bool.{true, false}
use native.Mathlib.Omega.{arith}
use Rattle.cases.proofs.RowTests.{ne-same}
use Rattle.cases.proofs.ForeignLaws.{left-first, left-ends, left-fails, left-passes, left-none, pair_is}
use Rattle.cases.proofs.validity.Key.agrees.Goals as goal

pub loop-p-init : goal.loop-p-init
loop-p-init c = left-first

pub returns-then-frame-next : goal.returns-then-frame-next
returns-then-frame-next c = left-ends c.loop-p.invariant c.loop-p-test.true c.if-frame-next.true

pub returns-then-ne : goal.returns-then-ne
returns-then-ne c = left-fails c.loop-p.invariant c.loop-p-test.true
    (pair_is _ _ _ _ _ _ _ c.item_at-a.ensures c.item_at-b.ensures c.cell-x.ensures
    c.cell-y.ensures refl ∙ ne-same _ _ false c.ne.ensures c.if-ne.true)

pub loop-p-preserved : goal.loop-p-preserved
loop-p-preserved c =
    left-passes c.loop-p.invariant c.loop-p-test.true (omega arith)
    (pair_is _ _ _ _ _ _ _ c.item_at-a.ensures c.item_at-b.ensures c.cell-x.ensures
    c.cell-y.ensures refl ∙ ne-same _ _ true c.ne.ensures c.if-ne.false)

pub returns : goal.returns
returns c = left-none (omega arith) c.loop-p.invariant
