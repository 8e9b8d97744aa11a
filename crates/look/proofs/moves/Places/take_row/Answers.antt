-- `look::moves::Places::take_row` meets its contract. Assumes nothing.
use mathlib.Core.Path.{sym, ◌∙◌}
use borrow.Author.Rules.{rules}
use Rattle.value.specs.Machine.{column_of, value_of}
use Rattle.look.proofs.MoveLaws.{digit-fits}
use Rattle.look.proofs.PlaceLaws.{taking-none, taken_none, taking-more, taken-all}
use Rattle.look.proofs.moves.Places.take_row.Goals as goal

pub loop-c-init : goal.loop-c-init
loop-c-init c = taking-none

pub returns-then-size-eq0 : goal.returns-then-size-eq0
returns-then-size-eq0 c =
    taken_none c.loop-c.invariant c.loop-c-test.true (column_of c.domain_of-d.result)
    c.domain_of-d.ensures (sym c.size-size.ensures.0 ∙ c.if-size-eq0.true)

pub overflow_cast-digit : goal.overflow_cast-digit
overflow_cast-digit c = digit-fits _ c.size-size.result c.if-size-eq0.false (search rules)

pub loop-c-preserved : goal.loop-c-preserved
loop-c-preserved c =
    taking-more c.loop-c.invariant c.loop-c-test.true (column_of c.domain_of-d.result)
    c.domain_of-d.ensures c.size-size.result (value_of c.digit.result) c.size-size.ensures.0
    c.digit.ensures c.with_value-row.ensures

pub returns : goal.returns
returns c = taken-all c.loop-c.invariant c.loop-c-test.false
