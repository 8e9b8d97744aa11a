-- `checker::entries::candidates_of` meets its contract. Assumes nothing.
use mathlib.Core.Path.{◌≡◌}
use Prim.Native.Nat.{◌-◌, ◌≤◌}
use Rattle.checker.specs.CandidateCount.{too_many, capped_product, cells_from}
use Rattle.checker.proofs.entries.candidates_of.Given as goal

abbrev pub invariant-loop-t : goal.invariant-loop-t
invariant-loop-t l = (l.p ≤ too_many) × (capped_product l.p (cells_from l.relations l.t (l.tables - l.t)) ≡ capped_product 1 (cells_from l.relations 0 l.tables))
