-- `store::put_row` meets its contract. The loop has put the first c cells. Assumes nothing.
use mathlib.Core.Path.{◌≡◌}
use Rattle.store.specs.Rows.{put_cells, row_of}
use Rattle.store.proofs.put_row.Given as goal

abbrev pub invariant-loop-c : goal.invariant-loop-c
invariant-loop-c l = l.part ≡ put_cells l.initial.part 0 l.at l.c (row_of (record { values = l.values }) l.width)
