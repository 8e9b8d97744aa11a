-- `report::Case::lines` meets its contract. Assumes nothing.
use Rattle.report.proofs.CaseLaws.{case-lined}
use Rattle.report.proofs.Case.lines.Goals as goal

pub returns : goal.returns
returns c =
    case-lined c.case_frame-frame.ensures c.write_line-at.ensures
    c.table_lines.ensures
