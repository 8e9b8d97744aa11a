-- `look::moves::Places::put_digit` meets its contract. Assumes nothing.
use mathlib.Core.Path.{sym, ◌∙◌}
use borrow.Author.Rules.{rules}
use Rattle.value.specs.Machine.{column_of, value_of}
use Rattle.look.proofs.MoveLaws.{none-put, digit-put, digit-fits}
use Rattle.look.proofs.moves.Places.put_digit.Goals as goal

pub returns-then-size-eq0 : goal.returns-then-size-eq0
returns-then-size-eq0 c = none-put (column_of c.domain_of-d.result) c.domain_of-d.ensures (sym c.size-size.ensures.0 ∙ c.if-size-eq0.true)

pub overflow_cast-digit : goal.overflow_cast-digit
overflow_cast-digit c = digit-fits c.args.q.new c.size-size.result c.if-size-eq0.false (search rules)

pub returns : goal.returns
returns c =
    digit-put (column_of c.domain_of-d.result)
    c.domain_of-d.ensures c.size-size.result
    (value_of c.digit.result) c.size-size.ensures.0 c.digit.ensures
    c.put_cell.ensures
