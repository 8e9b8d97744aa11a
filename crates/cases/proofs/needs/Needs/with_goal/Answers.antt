-- `cases::needs::Needs::with_goal` meets its contract. Assumes nothing.
use native.Mathlib.Omega.{arith}
use Rattle.cases.proofs.NeedLaws.{goal-signs, goal-rows}
use Rattle.cases.proofs.needs.Needs.with_goal.Goals as goal

pub returns-then-goal : goal.returns-then-goal
returns-then-goal c = goal-signs _ c.put_item.ensures (omega arith) c.if-goal.true

pub returns-else-goal : goal.returns-else-goal
returns-else-goal c = goal-rows _ c.put_item-else-goal.ensures (omega arith) c.if-goal.false
