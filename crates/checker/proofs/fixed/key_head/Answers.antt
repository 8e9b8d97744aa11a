-- `checker::fixed::key_head` meets its contract. Assumes nothing.
use Rattle.checker.specs.FixedFaults.{key_head}
use Rattle.checker.proofs.FaultLaws.{told, chain-stop, chain-go}
use Rattle.checker.proofs.fixed.key_head.Goals as goal

pub returns-in_err-below : goal.returns-in_err-below
unfolding key_head
returns-in_err-below c = chain-stop _ _ _ c.from_residual.ensures.1 c.in_err-below.ensures

pub returns-in_err-below-2 : goal.returns-in_err-below-2
unfolding key_head
returns-in_err-below-2 c = chain-go c.in_ok-below.ensures (chain-stop _ _ _ c.from_residual-in_err-below-2.ensures.1 c.in_err-below-2.ensures)

pub returns : goal.returns
unfolding key_head
returns c = chain-go c.in_ok-below.ensures (chain-go c.in_ok-below-2.ensures (told c.between.ensures))
