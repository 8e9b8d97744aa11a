-- `cases::judgement::is_case` meets its contract. Assumes nothing.
use Rattle.cases.proofs.JudgementLaws.{case-empty, case-invalid, case-valid}
use Rattle.cases.proofs.judgement.is_case.Goals as goal

pub returns-then-not-source : goal.returns-then-not-source
returns-then-not-source c = case-empty c.if-not-source.true

pub returns-then-not-is_valid : goal.returns-then-not-is_valid
returns-then-not-is_valid c = case-invalid c.is_valid.ensures (c.if-not-is_valid.true)

pub returns : goal.returns
returns c = case-valid c.if-not-source.false
    c.is_valid.ensures c.if-not-is_valid.false c.evaluate.ensures c.wanted.ensures
