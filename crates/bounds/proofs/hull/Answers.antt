-- `bounds::hull` meets its contract. Assumes nothing.
use mathlib.Core.Path.{ap}
use Rattle.std.specs.Prelude.{Some}
use Rattle.range.specs.declared.Range.{Range}
use Rattle.bounds.specs.Walk.{hull_r}
use Rattle.bounds.proofs.hull.Goals as goal

pub returns-in_err-first : goal.returns-in_err-first
unfolding hull_r
returns-in_err-first c = rw (c.from_residual.ensures, c.in_err-first.was)

pub returns-in_err-second : goal.returns-in_err-second
unfolding hull_r
returns-in_err-second c = rw (c.from_residual-in_err-second.ensures, c.in_ok-first.was, c.in_err-second.was)

pub returns : goal.returns
unfolding hull_r
returns c = rw (c.in_ok-first.was, c.in_ok-second.was) (ap (λ (q : Range). Some q) c.hull.ensures)
