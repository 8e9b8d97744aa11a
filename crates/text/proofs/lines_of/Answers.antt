-- `text::lines_of` meets its contract. Assumes nothing.
use mathlib.Core.Path.{sym, ap, ◌∙◌}
use native.Mathlib.Omega.{arith}
use Rattle.text.specs.Pair.{pair_told}
use Rattle.text.proofs.Packed.{begin, empty-line, long-line, no-pair, one_byte, close-line, good-end, bad-end}
use Rattle.text.proofs.lines_of.Goals as goal

pub loop-at-init : goal.loop-at-init
loop-at-init c = begin _ _ c.blank-r.ensures

pub returns-then-size-eq0 : goal.returns-then-size-eq0
returns-then-size-eq0 c = empty-line c.loop-at.invariant c.at.ensures c.loop-at-test.true c.if-text-at-eq10.true c.if-size-eq0.true

pub loop-at-preserved-then-text-at-eq10 : goal.loop-at-preserved-then-text-at-eq10
loop-at-preserved-then-text-at-eq10 c = close-line c.loop-at.invariant c.requires c.loop-at-test.true c.if-text-at-eq10.true c.if-size-eq0.false

pub returns-then-size-ge120 : goal.returns-then-size-ge120
returns-then-size-ge120 c = long-line c.loop-at.invariant c.at-then-size-ge120.ensures c.loop-at-test.true c.if-text-at-eq10.false c.if-size-ge120.true

pub returns-in_default : goal.returns-in_default
returns-in_default c = no-pair c.loop-at.invariant c.at-in_default.ensures c.loop-at-test.true c.if-text-at-eq10.false
    (sym c.pair_at.ensures ∙ ap pair_told c.in_default.is)

pub loop-at-preserved : goal.loop-at-preserved
loop-at-preserved c = one_byte c.loop-at.invariant _ c.requires c.loop-at-test.true c.if-text-at-eq10.false (omega arith)
    (sym c.pair_at.ensures ∙ ap pair_told c.in-Some.is)

pub returns-then-size-eq0-2 : goal.returns-then-size-eq0-2
returns-then-size-eq0-2 c = good-end c.loop-at.invariant c.loop-at-test.false c.if-size-eq0-2.true

pub returns : goal.returns
returns c = bad-end c.loop-at.invariant c.at-2.ensures c.loop-at-test.false c.if-size-eq0-2.false
