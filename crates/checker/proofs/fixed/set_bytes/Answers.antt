-- `checker::fixed::set_bytes` meets its contract. Assumes nothing.
use Rattle.checker.specs.FixedFaults.{set_bytes}
use Rattle.checker.proofs.FaultLaws.{chain-stop, chain-go}
use Rattle.checker.proofs.fixed.set_bytes.Goals as goal

pub returns-in_err-from_below : goal.returns-in_err-from_below
unfolding set_bytes
returns-in_err-from_below c = chain-stop _ _ _ c.from_residual.ensures.1 c.in_err-from_below.ensures

pub returns-in_err-from_below-2 : goal.returns-in_err-from_below-2
unfolding set_bytes
returns-in_err-from_below-2 c = chain-go c.in_ok-from_below.ensures (chain-stop _ _ _ c.from_residual-in_err-from_below-2.ensures.1 c.in_err-from_below-2.ensures)

pub returns : goal.returns
unfolding set_bytes
returns c = chain-go c.in_ok-from_below.ensures (chain-go c.in_ok-from_below-2.ensures c.ends_at.ensures)
