-- `sheet::SheetsProgram::output` meets its contract. Assumes nothing.
use native.Mathlib.Omega.{arith}
use Rattle.sentences.proofs.RoomLaws.{put_whole}
use Rattle.sentences.proofs.SheetLaws.{sheet-room}
use Rattle.sheet.proofs.SheetsProgram.output.Goals as goal

pub returns-clause-whole : goal.returns-clause-whole
returns-clause-whole c = put_whole c.sheet.ensures (omega (arith, c.requires, sheet-room c.args.text.now))
