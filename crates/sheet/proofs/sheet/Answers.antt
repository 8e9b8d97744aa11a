-- `sheet::sheet` meets its contract. Assumes nothing.
use Rattle.sheet.proofs.PlanSheets.{no-sheet, a-sheet}
use Rattle.sheet.proofs.sheet.Goals as goal

pub returns-in-Ok : goal.returns-in-Ok
returns-in-Ok c = no-sheet c.args.text.now _ c.in-Ok.ensures

pub returns-in-Err : goal.returns-in-Err
returns-in-Err c = a-sheet c.args.text.now _ c.in-Err.ensures c.number.ensures c.both_sentences.ensures
