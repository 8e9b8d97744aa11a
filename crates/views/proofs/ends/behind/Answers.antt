-- `views::ends::behind` meets its contract. Assumes nothing.
use mathlib.Core.Path.{sym, ◌∙◌}
use Rattle.views.proofs.Passing.{left_one, left-past, left_other, left-more}
use Rattle.views.proofs.ends.behind.Goals as goal

pub loop-left-init : goal.loop-left-init
loop-left-init c = left_one _ _

pub returns-then-frame-next : goal.returns-then-frame-next
returns-then-frame-next c = left-past c.loop-left.invariant c.loop-left-test.true c.if-frame-next.true

pub returns-then-bytes-eq0 : goal.returns-then-bytes-eq0
returns-then-bytes-eq0 c = left_other c.loop-left.invariant c.loop-left-test.true (sym c.own_bytes-bytes.ensures ∙ c.if-bytes-eq0.true)

pub loop-left-preserved : goal.loop-left-preserved
loop-left-preserved c = left-more c.loop-left.invariant c.loop-left-test.true c.own_bytes-bytes.ensures c.if-bytes-eq0.false c.own_forms.ensures
