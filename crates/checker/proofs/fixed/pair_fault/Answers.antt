-- `checker::fixed::pair_fault` meets its contract. Assumes nothing.
use mathlib.Core.Path.{sym, ◌∙◌}
use Rattle.checker.proofs.FixedLaws.{pair-law}
use Rattle.checker.proofs.FaultLaws.{chain-stop, chain-go}
use Rattle.checker.proofs.fixed.pair_fault.Goals as goal

pub returns-in_err-below : goal.returns-in_err-below
returns-in_err-below c = chain-stop _ _ _ c.from_residual.ensures.1 c.in_err-below.ensures ∙ sym (pair-law c.args.frame.now c.args.at c.args.c c.args.p)

pub returns : goal.returns
returns c = chain-go c.in_ok-below.ensures c.below-2.ensures ∙ sym (pair-law c.args.frame.now c.args.at c.args.c c.args.p)
