-- `trial::sakthveim_evaluate` meets its contract. Assumes nothing.
use mathlib.Core.Logic.{inl, inr}
use native.Mathlib.Omega.{arith}
use Rattle.language.specs.FileOf.{file_of}
use Rattle.trial.proofs.TrialLaws.{short-trial, refused-trial, accepted-trial}
use Rattle.trial.proofs.sakthveim_evaluate.Goals as goal

pub returns-then-work-lt-AREA : goal.returns-then-work-lt-AREA
returns-then-work-lt-AREA c = short-trial (file_of c.args.text.now) _ _ (inl (omega arith))

pub returns-then-counts-lt-RELATIONS : goal.returns-then-counts-lt-RELATIONS
returns-then-counts-lt-RELATIONS c = short-trial (file_of c.args.text.now) _ _ (inr (omega arith))

pub returns-in-Err : goal.returns-in-Err
returns-in-Err c = refused-trial (file_of c.args.text.now) _ (omega arith) (omega arith) c.in-Err.ensures c.packed.ensures

pub returns-then-every_relation : goal.returns-then-every_relation
returns-then-every_relation c =
    accepted-trial (file_of c.args.text.now) _ (omega arith) (omega arith) c.in-Ok.ensures c.every_relation.ensures (rw c.if-every_relation.true)

pub returns-else-every_relation : goal.returns-else-every_relation
returns-else-every_relation c =
    accepted-trial (file_of c.args.text.now) _ (omega arith) (omega arith) c.in-Ok.ensures c.every_relation.ensures (rw c.if-every_relation.false)
