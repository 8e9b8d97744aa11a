-- `checker::fixed::key_pairs` meets its contract. Assumes nothing.
use Rattle.checker.specs.FixedFaults.{key_pairs}
use Rattle.checker.proofs.FaultLaws.{chain-stop, chain-go}
use Rattle.checker.proofs.fixed.key_pairs.Goals as goal

pub returns-in_err-pairs_fault : goal.returns-in_err-pairs_fault
unfolding key_pairs
returns-in_err-pairs_fault c = chain-stop _ _ _ c.from_residual.ensures.1 c.in_err-pairs_fault.ensures

pub returns : goal.returns
unfolding key_pairs
returns c = chain-go c.in_ok-pairs_fault.ensures c.ends_at.ensures
