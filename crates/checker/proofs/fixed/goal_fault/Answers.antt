-- `checker::fixed::goal_fault` meets its contract. Assumes nothing.
use Rattle.checker.proofs.FixedAnswers.{goal-answer}
use Rattle.checker.proofs.FaultLaws.{told, chain-stop, chain-go}
use Rattle.checker.proofs.fixed.goal_fault.Goals as goal

pub returns-in_err-from_below : goal.returns-in_err-from_below
returns-in_err-from_below c = goal-answer _ _ _ (chain-stop _ _ _ c.from_residual.ensures.1 c.in_err-from_below.ensures)

pub returns-in_err-between : goal.returns-in_err-between
returns-in_err-between c = goal-answer _ _ _ (chain-go c.in_ok-from_below.ensures (chain-stop _ _ _ c.from_residual-in_err-between.ensures.1 (told c.in_err-between.ensures)))

pub returns : goal.returns
returns c = goal-answer _ _ _ (chain-go c.in_ok-from_below.ensures (chain-go (told c.in_ok-between.ensures) c.ends_at.ensures))
