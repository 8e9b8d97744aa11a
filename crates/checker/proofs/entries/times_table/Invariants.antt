-- `checker::entries::times_table` meets its contract. Assumes nothing.
use mathlib.Core.Path.{◌≡◌}
use Prim.Native.Nat.{◌-◌, ◌≤◌}
use Rattle.meaning.specs.Lists.{copies}
use Rattle.catalog.specs.Relations.{width_at}
use Rattle.checker.specs.CandidateCount.{too_many, capped_product, columns_from, table_cells}
use Rattle.checker.proofs.entries.times_table.Given as goal

abbrev pub invariant-loop : goal.invariant-loop
invariant-loop l = (l.p ≤ too_many) × (capped_product l.p (copies (l.rows - l.counter) (columns_from l.relations l.t 0 (width_at l.relations l.t))) ≡ capped_product l.n (table_cells l.relations l.t))
