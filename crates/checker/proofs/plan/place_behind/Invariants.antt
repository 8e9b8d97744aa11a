-- `checker::plan::place_behind` meets its contract. Assumes nothing.
use mathlib.Core.Path.{◌≡◌}
use Prim.Native.Nat.{◌*◌, ◌-◌, ◌≤◌}
use Rattle.checker.specs.Plans.{start_from}
use Rattle.checker.proofs.plan.place_behind.Given as goal

abbrev pub invariant-loop : goal.invariant-loop
invariant-loop l = (l.at ≤ 256 * l.counter) × (start_from l.bytes l.at (l.n - l.counter) ≡ start_from l.bytes 0 l.n)
