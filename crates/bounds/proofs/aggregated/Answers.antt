-- `bounds::aggregated` meets its contract. Assumes nothing.
use Rattle.bounds.specs.Walk.{aggregated_r}
use Rattle.range.proofs.Bits32.{told-ranged}
use Rattle.bounds.proofs.aggregated.Goals as goal

pub returns-in_err-range : goal.returns-in_err-range
unfolding aggregated_r
returns-in_err-range c = rw (c.from_residual.ensures, c.in_err-range.was)

pub returns : goal.returns
unfolding aggregated_r
returns c = rw c.in_ok-range.was (told-ranged _ c.aggregated.ensures)
