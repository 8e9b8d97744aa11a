-- `checker::fields::repeated` meets its contract. Assumes nothing.
use mathlib.Core.Path.{◌≡◌}
use Prim.Native.Nat.{ℕ, ◌<◌}
use Rattle.checker.specs.Faults.{fault_told, first_among}
use Rattle.checker.proofs.fields.repeated.Given as goal

abbrev pub invariant-loop-i : goal.invariant-loop-i
invariant-loop-i g l = (fault : ℕ → ℕ) → ((i : ℕ) → i < l.n → (r : _) → goal.F-post g l.part i r → fault_told r ≡ fault i) → first_among fault l.i ≡ 0
