-- `cases::validity::Table::differ` meets its contract. Assumes nothing.
use mathlib.Core.Bool.{true, false}
use Rattle.cases.proofs.RowTests.{ne-same}
use Rattle.cases.proofs.KeyLaws.{rest-first, rest-stops, rest-same, rest-unmarked, rest-none}
use Rattle.cases.proofs.validity.Table.differ.Goals as goal
use Rattle.cases.proofs.validity.Table.differ.Goals.{else-left-eq1-via-then-left-eq1+else-ne, else-left-eq1-via-else-left-eq1}

pub loop-c-init : goal.loop-c-init
loop-c-init c = rest-first

pub returns-then-ne : goal.returns-then-ne
returns-then-ne c = rest-stops c.loop-c.invariant c.loop-c-test.true
    c.cell-x.ensures c.cell-y.ensures c.if-left-eq1.true (ne-same _ _ false c.ne.ensures c.if-ne.true)

pub loop-c-preserved : goal.loop-c-preserved
loop-c-preserved c =
    elim c.else-left-eq1.branch [
      | else-left-eq1-via-then-left-eq1+else-ne u ↦ rest-same c.loop-c.invariant c.loop-c-test.true c.cell-x.ensures c.cell-y.ensures (ne-same _ _ true u.ne.ensures u.if-ne.false)
      | else-left-eq1-via-else-left-eq1 u ↦ rest-unmarked c.loop-c.invariant c.loop-c-test.true c.cell-x.ensures c.cell-y.ensures u.if-left-eq1.false
    ]

pub returns : goal.returns
returns c = rest-none c.loop-c-test.false c.loop-c.invariant
