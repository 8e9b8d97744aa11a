-- `report::refusal_line` meets its contract. Assumes nothing.
use Rattle.report.proofs.refusal_line.Goals as goal

pub returns : goal.returns
returns c = rw (c.refusal_frame-frame.ensures, c.number.ensures) at c.write_line.ensures
