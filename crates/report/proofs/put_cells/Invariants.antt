-- `report::put_cells` meets its contract. Assumes nothing.
use Rattle.report.proofs.LineLaws.{CellsSoFar}
use Rattle.report.proofs.put_cells.Given as goal

abbrev pub invariant-loop-i : goal.invariant-loop-i
invariant-loop-i l = CellsSoFar l.cells l.i l.initial.frame l.frame
