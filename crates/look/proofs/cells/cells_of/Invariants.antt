-- `look::cells::cells_of` meets its contract. Assumes nothing.
use Prim.Native.Nat.{◌*◌, ◌≤◌}
use Rattle.look.specs.Cells.{CellsOf}
use Rattle.look.proofs.cells.cells_of.Given as goal

abbrev pub invariant-loop-t : goal.invariant-loop-t
invariant-loop-t l = CellsOf l.relations l.t l.fn.cells l.all l.cells × (l.all ≤ l.t * 65025)
