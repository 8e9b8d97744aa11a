-- `checker::step::goal_step` meets its contract. Assumes nothing.
use Rattle.text.proofs.Exits.{exit_is}
use Rattle.checker.proofs.KindLaws.{goal-refused, goal-done}
use Rattle.checker.proofs.step.goal_step.Goals as goal

pub returns-in_err-goal_fault : goal.returns-in_err-goal_fault
returns-in_err-goal_fault c = goal-refused _ _ (exit_is _ c.from_residual.ensures.1) c.in_err-goal_fault.ensures

pub returns : goal.returns
returns c = goal-done c.in_ok-goal_fault.ensures c.goal_of.ensures c.with_goal.ensures
