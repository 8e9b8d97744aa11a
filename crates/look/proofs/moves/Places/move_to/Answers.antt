-- `look::moves::Places::move_to` meets its contract. Assumes nothing.
use mathlib.Core.Path.{refl}
use Rattle.look.proofs.MoveLaws.{under_first, under_next, moved_all, moved-enough}
use Rattle.look.proofs.moves.Places.move_to.Goals as goal

pub loop-j-init : goal.loop-j-init
loop-j-init c = under_first

pub returns-then-q : goal.returns-then-q
returns-then-q c = moved-enough c.if-q.true c.loop-j.invariant

pub loop-j-preserved : goal.loop-j-preserved
loop-j-preserved c = under_next c.loop-j-test.true c.loop-j.invariant refl c.put_digit-q.ensures

pub returns : goal.returns
returns c = moved_all c.loop-j-test.false c.loop-j.invariant
