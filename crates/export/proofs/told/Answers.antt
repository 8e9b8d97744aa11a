-- `export::told` meets its contract. Assumes nothing.
use borrow.Author.Rules.{rules}
use Rattle.export.proofs.AnswerLaws.{told-case, told_none, told-spent, told-refused}
use Rattle.export.proofs.told.Goals as goal

pub returns-in-Ok-Case : goal.returns-in-Ok-Case
returns-in-Ok-Case c = told-case c.in-Ok-Case.is (rw c.in-Ok-Case.is at c.in-Ok-Case.field-0-is)

pub returns-in-Ok-NoCase : goal.returns-in-Ok-NoCase
returns-in-Ok-NoCase c = told_none c.in-Ok-NoCase.is (rw c.in-Ok-NoCase.is at c.in-Ok-NoCase.field-0-is)

pub returns-in-Ok-Spent : goal.returns-in-Ok-Spent
returns-in-Ok-Spent c = told-spent c.in-Ok-Spent.is (rw c.in-Ok-Spent.is at c.in-Ok-Spent.field-0-is)

pub returns-in-Err : goal.returns-in-Err
returns-in-Err c = told-refused c.in-Err.is c.packed.ensures (search rules)
