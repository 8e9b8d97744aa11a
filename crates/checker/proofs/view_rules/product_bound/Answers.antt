-- `checker::view_rules::product_bound` meets its contract. Assumes nothing.
use mathlib.Core.Path.{ap₂}
use Prim.Native.Nat.{◌≤◌, ◌*◌}
use native.Mathlib.Nat.{mul-le-mul}
use native.Mathlib.Omega.{arith}
use Rattle.checker.proofs.ViewRuleLaws.{product-three}
use Rattle.checker.proofs.view_rules.product_bound.Goals as goal

pub overflow_mul-result : goal.overflow_mul-result
overflow_mul-result c = let a : c.factor-a.result ≤ 255 = omega arith in
    let b : c.factor-b.result ≤ 255 = omega arith in
    omega (arith, mul-le-mul a b)

pub overflow_mul-result-2 : goal.overflow_mul-result-2
overflow_mul-result-2 c = let a : c.factor-a.result ≤ 255 = omega arith in
    let b : c.factor-b.result ≤ 255 = omega arith in
    let d : c.factor-c.result ≤ 255 = omega arith in
    omega (arith, mul-le-mul (mul-le-mul a b) d)

pub returns : goal.returns
returns c = product-three _ _ _ (ap₂ ◌*◌ (ap₂ ◌*◌ c.factor-a.ensures c.factor-b.ensures) c.factor-c.ensures)
