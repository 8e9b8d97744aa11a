-- `trial::every_relation` meets its contract. Assumes nothing.
use Rattle.trial.proofs.TrialLaws.{every-relation}
use Rattle.trial.proofs.every_relation.Goals as goal

pub returns : goal.returns
returns c =
    every-relation c.count_tables.ensures c.needs_of-needs.ensures c.is_case-case.ensures
    (rw c.all.ensures at c.evaluate.ensures)
