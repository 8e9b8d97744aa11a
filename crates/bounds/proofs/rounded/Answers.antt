-- `bounds::rounded` meets its contract. Assumes nothing.
use Rattle.bounds.specs.Walk.{rounded_r}
use Rattle.range.proofs.Bits32.{told-ranged}
use Rattle.bounds.proofs.rounded.Goals as goal

pub returns-in_err-range : goal.returns-in_err-range
unfolding rounded_r
returns-in_err-range c = rw (c.from_residual.ensures, c.in_err-range.was)

pub returns : goal.returns
unfolding rounded_r
returns c = rw c.in_ok-range.was (told-ranged _ c.rounded.ensures)
