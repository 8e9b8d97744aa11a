-- `checker::fixed::pairing_fault` meets its contract. Assumes nothing.
use mathlib.Core.Path.{◌≡◌}
use Prim.Native.Nat.{◌-◌}
use Rattle.checker.specs.FixedFaults.{pairing}
use Rattle.checker.proofs.fixed.pairing_fault.Given as goal

abbrev pub invariant-loop-i : goal.invariant-loop-i
invariant-loop-i l = pairing l.frame l.n l.i (l.width - l.i) l.rest ≡ pairing l.frame l.n 0 l.width l.mask
