-- `bounds::operated` meets its contract. Assumes nothing.
use Rattle.bounds.specs.Walk.{operated_r}
use Rattle.range.proofs.Bits32.{told-ranged}
use Rattle.bounds.proofs.operated.Goals as goal

pub returns-in_err-first : goal.returns-in_err-first
unfolding operated_r
returns-in_err-first c = rw (c.from_residual.ensures, c.in_err-first.was)

pub returns-in_err-second : goal.returns-in_err-second
unfolding operated_r
returns-in_err-second c = rw (c.from_residual-in_err-second.ensures, c.in_ok-first.was, c.in_err-second.was)

pub returns : goal.returns
unfolding operated_r
returns c = rw (c.in_ok-first.was, c.in_ok-second.was) (told-ranged _ c.operated.ensures)
