-- `report::table_line` meets its contract. Assumes nothing.
use mathlib.Core.Path.{refl}
use native.Mathlib.Omega.{arith}
use Rattle.report.proofs.LineLaws.{table_done}
use Rattle.report.proofs.table_line.Goals as goal

pub returns : goal.returns
returns c = table_done refl (omega arith) refl c.put_cells.ensures c.write_line.ensures
