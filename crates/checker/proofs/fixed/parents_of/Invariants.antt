-- `checker::fixed::parents_of` meets its contract. Assumes nothing.
use mathlib.Core.Path.{◌≡◌}
use Prim.Native.Nat.{◌+◌, ◌*◌, ◌-◌, ◌≤◌}
use Rattle.checker.specs.FixedFaults.{parent_count}
use Rattle.checker.proofs.fixed.parents_of.Given as goal

abbrev pub invariant-loop-k : goal.invariant-loop-k
invariant-loop-k l = (l.count + parent_count l.frame l.i (4 + l.k * 2) (l.n - l.k) ≡ parent_count l.frame l.i 4 l.n) × (l.count ≤ l.k)
