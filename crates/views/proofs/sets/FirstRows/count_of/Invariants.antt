-- `views::sets::FirstRows::count_of` meets its contract. Assumes nothing.
use mathlib.Core.Path.{◌≡◌}
use Prim.Native.Nat.{◌≤◌}
use Rattle.value.specs.Bag.{count}
use Rattle.meaning.specs.Evaluation.{row_test}
use Rattle.store.specs.Rows.{row_in, rows_in}
use Rattle.views.proofs.sets.FirstRows.count_of.Given as goal

abbrev pub invariant-loop-j : goal.invariant-loop-j
invariant-loop-j l = record {
  few : l.k ≤ l.j;
  counted : l.k ≡ count row_test (row_in l.work l.relation l.width l.i) (rows_in l.work l.self.relation l.width l.j);
}
