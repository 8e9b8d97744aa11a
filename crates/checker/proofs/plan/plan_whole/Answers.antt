-- `checker::plan::plan_whole` meets its contract. Assumes nothing.
use Rattle.checker.proofs.PlanLaws.{whole-without-goal, whole-too-large, whole-done}
use Rattle.checker.proofs.plan.plan_whole.Goals as goal

pub returns-in_default : goal.returns-in_default
returns-in_default c = whole-without-goal _ _ _ _ c.in_default.not-Ended c.at.ensures

pub returns-in_default-candidates_of : goal.returns-in_default-candidates_of
returns-in_default-candidates_of c = whole-too-large _ _ _ _ c.in-Ended.is c.in_default-candidates_of.ensures c.at-in_default-candidates_of.ensures

pub returns : goal.returns
returns c = whole-done _ _ _ _ c.in-Ended.is c.in-Some.ensures c.plan_from.ensures
