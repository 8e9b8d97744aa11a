-- `checker::entries::times_row` meets its contract. Assumes nothing.
use mathlib.Core.Path.{◌≡◌}
use Prim.Native.Nat.{◌-◌, ◌≤◌}
use Rattle.checker.specs.CandidateCount.{too_many, capped_product, columns_from}
use Rattle.checker.proofs.entries.times_row.Given as goal

abbrev pub invariant-loop-c : goal.invariant-loop-c
invariant-loop-c l = (l.p ≤ too_many) × (capped_product l.p (columns_from l.relations l.t l.c (l.width - l.c)) ≡ capped_product l.n (columns_from l.relations l.t 0 l.width))
