-- `report::output` meets its contract. Assumes nothing.
use native.Mathlib.Omega.{arith}
use Rattle.language.proofs.PrintedLaws.{printed-short}
use Rattle.report.proofs.OutputLaws.{said-looked, printed-unread, printed-case, printed-none, printed-refused, printed-spent}
use Rattle.report.proofs.output.Goals as goal

pub returns-then-out-lt-ROOM : goal.returns-then-out-lt-ROOM
returns-then-out-lt-ROOM c = printed-short _ _ (omega arith)

pub returns-in-Err : goal.returns-in-Err
returns-in-Err c = printed-unread _ _ _ (omega arith) c.in-Err.ensures c.refusal_line.ensures

pub returns-in-Ok-Case : goal.returns-in-Ok-Case
returns-in-Ok-Case c = printed-case _ _ (omega arith) (said-looked _ (omega arith) (omega arith) (omega arith) c.in-Ok.ensures c.look_at-a.ensures) _ c.in-Ok-Case.is (rw c.in-Ok-Case.is at c.in-Ok-Case.field-0-is) c.in-Ok.ensures c.lines.ensures

pub returns-in-Ok-NoCase : goal.returns-in-Ok-NoCase
returns-in-Ok-NoCase c = printed-none _ _ (omega arith) (said-looked _ (omega arith) (omega arith) (omega arith) c.in-Ok.ensures c.look_at-a.ensures) c.in-Ok-NoCase.is (rw c.in-Ok-NoCase.is at c.in-Ok-NoCase.field-0-is) c.write_line.ensures

pub returns-in-Ok-Spent : goal.returns-in-Ok-Spent
returns-in-Ok-Spent c = printed-spent _ _ (omega arith) (said-looked _ (omega arith) (omega arith) (omega arith) c.in-Ok.ensures c.look_at-a.ensures) c.in-Ok-Spent.is (rw c.in-Ok-Spent.is at c.in-Ok-Spent.field-0-is)

pub returns-in-Err-a : goal.returns-in-Err-a
returns-in-Err-a c = printed-refused _ _ (omega arith) (said-looked _ (omega arith) (omega arith) (omega arith) c.in-Ok.ensures c.look_at-a.ensures) c.in-Err-a.is c.refusal_line-in-Err-a.ensures
