-- `cases::judgement::wanted` meets its contract. Assumes nothing.
use Rattle.cases.proofs.JudgementLaws.{wanted-sign, wanted-rows}
use Rattle.cases.proofs.judgement.wanted.Goals as goal

pub returns-then-goal : goal.returns-then-goal
returns-then-goal c = wanted-sign c.if-goal.true c.item_at.ensures

pub returns : goal.returns
returns c = wanted-rows c.if-goal.false c.item_at-2.ensures
