-- `report::Case::table_lines` meets its contract. Assumes nothing.
use Rattle.report.proofs.TableLaws.{Stage}
use Rattle.report.proofs.Case.table_lines.Given as goal

abbrev pub invariant-loop-t : goal.invariant-loop-t
invariant-loop-t l = Stage l.self.relations.now l.self.tables l.self.cells.now l.at l.initial.out l.t l.place l.rest l.out
