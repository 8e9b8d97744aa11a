-- Rounding: how near it comes, its sign, and that it keeps the order. Assumes nothing.
use mathlib.Core.Path.{◌≡◌, refl, ap}
use Prim.Native.Nat.{ℕ, zero, suc, ◌+◌, ◌*◌, ◌/◌, ◌%◌, ◌≤◌, ◌<◌}
use native.Mathlib.Nat.{div-add-mod', div-mul-le_self, le-div_iff_mul-le, mod-lt, mul-le-mul_right, mul-zero, add-mul}
use native.Mathlib.Omega.{arith}
use lib.Dec.{ltb}
use lib.IntN.{ℤ, pos, negsuc, neg_ℤ, nat_abs}
use lib.Signed.{◌≤ℤ◌, ◌<ℤ◌}
use borrow.Author.Tests.{lt-ltb, le-ltb, ltb-true, ltb-false}
use Rattle.value.specs.Integer.{steps_up, nearest, round_z}
use Rattle.value.proofs.Decides.{by-test}
use Rattle.value.proofs.Linear.{neg-parts, ints}

-- ---- how many steps up
module _ (m q r : ℕ) where
  pub steps-none : 2 * r < m → steps_up m q r ≡ 0
  unfolding steps_up
  steps-none h = rw (lt-ltb (2 * r) m h)

  pub steps-one : m ≤ 2 * r → steps_up m q r ≡ 1
  unfolding steps_up
  steps-one h = rw (le-ltb (2 * r) m h)

  -- at most one
  steps-most : steps_up m q r ≤ 1
  steps-most = by-test (ltb (2 * r) m)
      (λ e. omega (arith, steps-none (ltb-true (2 * r) m e)))
      (λ e. omega (arith, steps-one (ltb-false (2 * r) m e)))

steps-mono : (m q : ℕ) {r r' : ℕ} → r ≤ r' → steps_up m q r ≤ steps_up m q r'
steps-mono m q {r} {r'} h = by-test (ltb (2 * r) m)
    (λ e. omega (arith, steps-none m q r (ltb-true (2 * r) m e)))
    (λ e. let t : m ≤ 2 * r = ltb-false (2 * r) m e in omega (arith, steps-one m q r t, steps-one m q r' (omega arith)))

-- ---- the nearest multiple of a number that is not negative
module _ (m n : ℕ) where
  pub nearest-down : 2 * (n % m) < m → nearest m n ≡ n / m * m
  nearest-down h = rw (steps-none m (n / m) (n % m) h) (ap (λ (x : ℕ). x * m) (omega arith))

  pub nearest-up : m ≤ 2 * (n % m) → nearest m n ≡ (n / m + 1) * m
  nearest-up h = rw (steps-one m (n / m) (n % m) h)

  -- it lies at most half a step above n
  pub nearest-most : 2 * nearest m n ≤ 2 * n + m
  nearest-most =
      let d = div-add-mod' n m in
      by-test (ltb (2 * (n % m)) m)
      (λ e. omega (arith, nearest-down (ltb-true _ m e)))
      (λ e. omega (arith, nearest-up (ltb-false _ m e), add-mul (n / m) 1 m, ltb-false _ m e))

  -- and less than half a step below: a half goes up
  pub nearest-least : 0 < m → 2 * n < 2 * nearest m n + m
  nearest-least h =
      let d = div-add-mod' n m in
      by-test (ltb (2 * (n % m)) m)
      (λ e. omega (arith, nearest-down (ltb-true _ m e), ltb-true _ m e))
      (λ e. omega (arith, nearest-up (ltb-false _ m e), add-mul (n / m) 1 m, mod-lt n h))

nearest-mono : (m : ℕ) {n n' : ℕ} → n ≤ n' → nearest m n ≤ nearest m n'
nearest-mono zero {n} {n'} h = omega (arith, mul-zero (n / 0 + steps_up 0 (n / 0) (n % 0)))
nearest-mono (suc k) {n} {n'} h =
    let m = suc k in
    let q≤ : n / m ≤ n' / m = (le-div_iff_mul-le {k = m} (omega arith)).1 (omega (arith, div-mul-le_self n m)) in
    mul-le-mul_right m (by-test (ltb (n / m) (n' / m))
    (λ e. omega (arith, ltb-true (n / m) (n' / m) e, steps-most m (n / m) (n % m)))
    (λ e. let q : n' / m ≡ n / m = omega (arith, ltb-false (n / m) (n' / m) e) in
    let r : n % m ≤ n' % m = omega (arith, div-add-mod' n m, div-add-mod' n' m, ap (λ (x : ℕ). x * m) q) in
    rw q (omega (arith, steps-mono m (n / m) r))))

-- ---- rounding by the sign
pub round-below : (m : ℕ) (z : ℤ) → z <ℤ pos 0 → round_z m z ≡ neg_ℤ (pos (nearest m (nat_abs z)))
unfolding round_z
round-below m (pos n) h = absurd (omega ints)
round-below m (negsuc n) h = refl

pub round-above : (m : ℕ) (z : ℤ) → pos 0 ≤ℤ z → round_z m z ≡ pos (nearest m (nat_abs z))
unfolding round_z
round-above m (pos n) h = refl
round-above m (negsuc n) h = absurd (omega ints)

-- rounding keeps the order
pub round_mono : (m : ℕ) {x y : ℤ} → x ≤ℤ y → round_z m x ≤ℤ round_z m y
unfolding round_z
round_mono m {x = pos a} {y = pos b} h = omega (ints, nearest-mono m {n = a} {n' = b} (omega ints))
round_mono m {x = pos a} {y = negsuc b} h = absurd (omega ints)
round_mono m {x = negsuc a} {y = pos b} h = omega (ints, neg-parts (pos (nearest m (suc a))))
round_mono m {x = negsuc a} {y = negsuc b} h =
    omega (ints, neg-parts (pos (nearest m (suc a))), neg-parts (pos (nearest m (suc b))), nearest-mono m {n = suc b} {n' = suc a} (omega ints))
