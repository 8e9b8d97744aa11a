-- `checker::entries::capped` meets its contract. Assumes nothing.
use Prim.Native.Nat.{◌≤◌}
use native.Mathlib.Nat.{mul-le-mul}
use native.Mathlib.Omega.{arith}
use Rattle.checker.specs.CandidateCount.{too_many}
use Rattle.checker.proofs.entries.capped.Goals as goal

pub overflow_mul-p : goal.overflow_mul-p
overflow_mul-p c = let a : c.args.n ≤ too_many = omega arith in
    let b : c.args.m ≤ 4294967295 = omega arith in
    omega (arith, mul-le-mul a b)
