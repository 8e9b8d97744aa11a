-- `export::sakthveim_check` meets its contract. Assumes nothing.
use mathlib.Core.Path.{◌∙◌}
use Rattle.language.specs.FileOf.{file_of}
use Rattle.export.proofs.AnswerLaws.{answer-accepted, answer-refused}
use Rattle.export.proofs.sakthveim_check.Goals as goal

pub returns-in-Ok : goal.returns-in-Ok
returns-in-Ok c = answer-accepted (file_of c.args.text.now) _ c.in-Ok.ensures

pub returns-in-Err : goal.returns-in-Err
returns-in-Err c = c.packed.ensures ∙ answer-refused (file_of c.args.text.now) _ c.in-Err.ensures
