-- `look::look_at` meets its contract. Assumes nothing.
use native.Mathlib.Omega.{arith}
use borrow.Author.Rules.{rules}
use Rattle.text.proofs.Exits.{exit_is}
use Rattle.look.proofs.LookLaws.{said, said-err, said-ok, at-short, at-refused, at-file}
use Rattle.look.proofs.look_at.Goals as goal

pub returns-then-work-lt-AREA : goal.returns-then-work-lt-AREA
returns-then-work-lt-AREA g c says S = at-short _ _ c.at.ensures (said S c.from.ensures) (omega arith)

pub returns-in_err-plan : goal.returns-in_err-plan
returns-in_err-plan g c says S = at-refused _ _ _ (omega arith) c.in_err-plan.was (exit_is _ c.from_residual.ensures.1)

pub returns-in_err-answer : goal.returns-in_err-answer
returns-in_err-answer g c says S =
    at-file _ _ (search rules) (search rules) (omega arith) c.in_ok-plan.was (said-err S _ c.in_err-answer.was c.from_residual-in_err-answer.ensures.1)
    c.looked.ensures

pub returns : goal.returns
returns g c says S = at-file _ _ (search rules) (search rules) (omega arith) c.in_ok-plan.was (rw c.in_ok-answer.was (said-ok says _)) c.looked.ensures
