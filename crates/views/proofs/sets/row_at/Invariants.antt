-- `views::sets::row_at` meets its contract. Assumes nothing.
use mathlib.Core.Path.{◌≡◌}
use Prim.Native.Nat.{◌≤◌}
use Rattle.store.specs.Layout.{column_limit}
use Rattle.store.specs.Rows.{row_of, row_in}
use Rattle.views.proofs.sets.row_at.Given as goal

abbrev pub invariant-loop-c : goal.invariant-loop-c
invariant-loop-c l = l.width ≤ column_limit → row_of l.row l.c ≡ row_in l.work l.relation l.c l.i
