-- Arithmetic on ℤ by `omega`. Each z is the difference of two natural numbers, plus z - minus z, of which one is 0. An order or an
-- equation of ℤ is one of sums of these, which `omega` reads. Assumes nothing.
use mathlib.Core.Path.{◌≡◌, refl, ap, subst}
use mathlib.Core.Bool.{Bool, true, false, not, cond}
use Prim.Native.Nat.{ℕ, zero, suc, ◌+◌, ◌*◌, ◌-◌, ◌^◌, max, ◌≤◌, ◌<◌}
use native.Mathlib.Omega.{arith}
use lib.Dec.{T, ltb, leb→le, le→leb, ltb→lt, lt→ltb, nltb→le, nleb→lt}
use lib.IntN.{ℤ, pos, negsuc, neg_ℤ, nat_abs, sub_ℕ, ◌+ℤ◌, ◌-ℤ◌, ◌*ℤ◌}
use lib.Signed.{mag, non_neg, le_z, lt_z, ◌≤ℤ◌, ◌<ℤ◌, lt_z_no, clash_ℤ}
use mir.Syntax.{Width}
use mir.Val.{SFits, hbits}
use Rattle.value.proofs.Decides.{T_true, T_false}

abbrev pub plus : ℤ → ℕ
plus (pos n) = n
plus (negsuc n) = 0

abbrev pub minus : ℤ → ℕ
minus (pos n) = 0
minus (negsuc n) = suc n

-- ---- an order, an equation and a fit, as facts of the parts and back
le_parts : (a b : ℤ) → T (le_z a b) → plus a + minus b ≤ plus b + minus a
le_parts (pos a) (pos b) t = omega (arith, leb→le a b t)
le_parts (pos a) (negsuc b) t = absurd t
le_parts (negsuc a) (pos b) t = omega arith
le_parts (negsuc a) (negsuc b) t = omega (arith, leb→le b a t)

parts-le : (a b : ℤ) → plus a + minus b ≤ plus b + minus a → T (le_z a b)
parts-le (pos a) (pos b) h = le→leb a b (omega arith)
parts-le (pos a) (negsuc b) h = absurd (omega arith)
parts-le (negsuc a) (pos b) h = tt
parts-le (negsuc a) (negsuc b) h = le→leb b a (omega arith)

lt-parts : (a b : ℤ) → T (lt_z a b) → plus a + minus b < plus b + minus a
lt-parts (pos a) (pos b) t = omega (arith, ltb→lt a b t)
lt-parts (pos a) (negsuc b) t = absurd t
lt-parts (negsuc a) (pos b) t = omega arith
lt-parts (negsuc a) (negsuc b) t = omega (arith, ltb→lt b a t)

parts-lt : (a b : ℤ) → plus a + minus b < plus b + minus a → T (lt_z a b)
parts-lt (pos a) (pos b) h = lt→ltb a b (omega arith)
parts-lt (pos a) (negsuc b) h = absurd (omega arith)
parts-lt (negsuc a) (pos b) h = tt
parts-lt (negsuc a) (negsuc b) h = lt→ltb b a (omega arith)

parts-eq : (a b : ℤ) → plus a + minus b ≡ plus b + minus a → a ≡ b
parts-eq (pos a) (pos b) h = let e : a ≡ b = omega arith in ap pos e
parts-eq (pos a) (negsuc b) h = absurd (omega arith)
parts-eq (negsuc a) (pos b) h = absurd (omega arith)
parts-eq (negsuc a) (negsuc b) h = let e : a ≡ b = omega arith in ap negsuc e

module _ {a b : ℤ} where
  pub ≤-parts : a ≤ℤ b → plus a + minus b ≤ plus b + minus a
  ≤-parts h = le_parts a b h.le

  pub parts-≤ : plus a + minus b ≤ plus b + minus a → a ≤ℤ b
  parts-≤ h = record { le = parts-le a b h }

  pub <-parts : a <ℤ b → plus a + minus b < plus b + minus a
  <-parts h = lt-parts a b h.lt

  pub parts-< : plus a + minus b < plus b + minus a → a <ℤ b
  parts-< h = record { lt = parts-lt a b h }

  pub ≡-parts : a ≡ b → plus a + minus b ≡ plus b + minus a
  ≡-parts e = subst (λ (z : ℤ). plus a + minus z ≡ plus z + minus a) e refl

  pub parts-≡ : plus a + minus b ≡ plus b + minus a → a ≡ b
  parts-≡ h = parts-eq a b h

-- a test of two integers, as a branch or a definition has it, and what it says
le-false : (a b : ℤ) → T (not (le_z a b)) → T (lt_z b a)
le-false (pos a) (pos b) t = lt→ltb b a (nleb→lt a b t)
le-false (pos a) (negsuc b) t = tt
le-false (negsuc a) (pos b) t = absurd t
le-false (negsuc a) (negsuc b) t = lt→ltb a b (nleb→lt b a t)

module _ (a b : ℤ) where
  pub lt_z-true : lt_z a b ≡ true → a <ℤ b
  lt_z-true e = record { lt = rw e tt }

  pub le_z-true : le_z a b ≡ true → a ≤ℤ b
  le_z-true e = record { le = rw e tt }

  pub lt_z-false : lt_z a b ≡ false → b ≤ℤ a
  lt_z-false e = lt_z_no (rw e tt)

  pub le_z-false : le_z a b ≡ false → b <ℤ a
  le_z-false e = record { lt = le-false a b (rw e tt) }

  pub lt-taken : lt_z a b ≡ true → plus a + minus b < plus b + minus a
  lt-taken e = <-parts (lt_z-true e)

  pub lt-left : lt_z a b ≡ false → plus b + minus a ≤ plus a + minus b
  lt-left e = ≤-parts (lt_z-false e)

  pub le-taken : le_z a b ≡ true → plus a + minus b ≤ plus b + minus a
  le-taken e = ≤-parts (le_z-true e)

  pub le_left : le_z a b ≡ false → plus b + minus a < plus a + minus b
  le_left e = <-parts (le_z-false e)

-- and back: which way a test goes
module _ {a b : ℤ} where
  pub true-lt_z : a <ℤ b → lt_z a b ≡ true
  true-lt_z h = T_true (lt_z a b) h.lt

  pub true-le_z : a ≤ℤ b → le_z a b ≡ true
  true-le_z h = T_true (le_z a b) h.le

  pub false-lt_z : b ≤ℤ a → lt_z a b ≡ false
  false-lt_z h = T_false (lt_z a b) (λ t. clash_ℤ (record { lt = t }) h)

  pub false-le_z : b <ℤ a → le_z a b ≡ false
  false-le_z h = T_false (le_z a b) (λ t. clash_ℤ h (record { le = t }))

-- z fits a signed width: -2 ^ h ≤ z < 2 ^ h
mag-parts : (z : ℤ) → mag z ≡ (plus z - minus z) + (minus z - suc (plus z))
mag-parts (pos n) = omega arith
mag-parts (negsuc n) = omega arith

pub SFits-parts : {w : Width} {z : ℤ} → SFits w z → max (suc (plus z)) (minus z) ≤ 2 ^ hbits w
SFits-parts {w} {z = pos n} f = omega (arith, f.sfits)
SFits-parts {w} {z = negsuc n} f = omega (arith, f.sfits)

pub SFits-size : {w : Width} {z : ℤ} → SFits w z → plus z + minus z ≤ 2 ^ hbits w
SFits-size {w} {z = pos n} f = omega (arith, f.sfits)
SFits-size {w} {z = negsuc n} f = omega (arith, f.sfits)

pub parts-SFits : {w : Width} {z : ℤ} → (plus z - minus z) + (minus z - suc (plus z)) < 2 ^ hbits w → SFits w z
parts-SFits {w} {z} h = record { sfits = omega (arith, mag-parts z) }

pub parts-non_neg : (z : ℤ) → minus z ≤ plus z → T (non_neg z)
parts-non_neg (pos n) h = tt
parts-non_neg (negsuc n) h = absurd (omega arith)

-- what `omega` is handed to read and to prove orders, equations and fits of ℤ
pub ruleset ints = (arith, ≤-parts, parts-≤, <-parts, parts-<, ≡-parts, parts-≡, SFits-parts, parts-SFits, parts-non_neg, lt-taken, lt-left, le-taken, le_left)

-- ---- the parts of a sum, an opposite, a magnitude and a product, which `omega` takes from its list
cond_cases : (c : Bool) (x y : ℤ) (P : ℤ → Type 0) → (T c → P x) → (T (not c) → P y) → P (cond c x y)
cond_cases true x y P f g = f tt
cond_cases false x y P f g = g tt

sub_parts : (a b : ℕ) → plus (sub_ℕ a b) + b ≡ minus (sub_ℕ a b) + a
sub_parts a b = cond_cases (ltb a b) (negsuc (b - suc a)) (pos (a - b)) (λ z. plus z + b ≡ minus z + a)
    (λ t. omega (arith, ltb→lt a b t)) (λ t. omega (arith, nltb→le a b t))

pub sum-parts : (a b : ℤ) → plus (a +ℤ b) + (minus a + minus b) ≡ minus (a +ℤ b) + (plus a + plus b)
sum-parts (pos a) (pos b) = omega arith
sum-parts (pos a) (negsuc b) = omega (arith, sub_parts a (suc b))
sum-parts (negsuc a) (pos b) = omega (arith, sub_parts b (suc a))
sum-parts (negsuc a) (negsuc b) = omega arith

pub magnitude-parts : (z : ℤ) → nat_abs z ≡ (plus z - minus z) + (minus z - plus z)
magnitude-parts (pos n) = omega arith
magnitude-parts (negsuc n) = omega arith

plus-neg : (a : ℤ) → plus (neg_ℤ a) ≡ minus a
plus-neg (pos zero) = refl
plus-neg (pos (suc n)) = refl
plus-neg (negsuc n) = refl

minus-neg : (a : ℤ) → minus (neg_ℤ a) ≡ plus a
minus-neg (pos zero) = refl
minus-neg (pos (suc n)) = refl
minus-neg (negsuc n) = refl

pub neg-parts : (a : ℤ) → (plus (neg_ℤ a) ≡ minus a) × (minus (neg_ℤ a) ≡ plus a)
neg-parts a = (plus-neg a, minus-neg a)

pub diff-parts : (a b : ℤ) → plus (a -ℤ b) + (minus a + plus b) ≡ minus (a -ℤ b) + (plus a + minus b)
diff-parts a b = omega (arith, sum-parts a (neg_ℤ b), neg-parts b)

pub mul-parts : (a b : ℤ)
    → plus (a *ℤ b) + (plus a * minus b + minus a * plus b) ≡ minus (a *ℤ b) + (plus a * plus b + minus a * minus b)
mul-parts (pos a) (pos b) = omega arith
mul-parts (pos a) (negsuc b) = omega (arith, neg-parts (pos (a * suc b)))
mul-parts (negsuc a) (pos b) = omega (arith, neg-parts (pos (suc a * b)))
mul-parts (negsuc a) (negsuc b) = omega arith

-- ---- polynomials: the value, and the two sums of parts whose difference that is
pub data Poly : Type 0 where
  ‵ : ℤ → Poly
  ◌⊕◌ ◌⊖◌ ◌⊗◌ : Poly → Poly → Poly

infixl 60 ◌⊕◌ ◌⊖◌
infixl 70 ◌⊗◌
abbrev pub poly : Poly → ℤ
poly (‵ z) = z
poly (p ⊕ q) = poly p +ℤ poly q
poly (p ⊖ q) = poly p -ℤ poly q
poly (p ⊗ q) = poly p *ℤ poly q

abbrev mutual
  pub pluses : Poly → ℕ
  pluses (‵ z) = plus z
  pluses (p ⊕ q) = pluses p + pluses q
  pluses (p ⊖ q) = pluses p + minuses q
  pluses (p ⊗ q) = pluses p * pluses q + minuses p * minuses q

  pub minuses : Poly → ℕ
  minuses (‵ z) = minus z
  minuses (p ⊕ q) = minuses p + minuses q
  minuses (p ⊖ q) = minuses p + pluses q
  minuses (p ⊗ q) = pluses p * minuses q + minuses p * pluses q

cross : (a a' P P' b b' Q Q' : ℕ) → a + P' ≡ a' + P → b + Q' ≡ b' + Q
    → (a * b + a' * b') + (P * Q' + P' * Q) ≡ (a * b' + a' * b) + (P * Q + P' * Q')
cross a a' P P' b b' Q Q' e f =
    omega (arith, ap (λ (x : ℕ). x * b) e, ap (λ (x : ℕ). x * b') e, ap (λ (x : ℕ). x * P) f, ap (λ (x : ℕ). x * P') f)

poly-parts : (p : Poly) → plus (poly p) + minuses p ≡ minus (poly p) + pluses p
poly-parts (‵ z) = omega arith
poly-parts (p ⊕ q) = omega (arith, poly-parts p, poly-parts q, sum-parts (poly p) (poly q))
poly-parts (p ⊖ q) = omega (arith, poly-parts p, poly-parts q, diff-parts (poly p) (poly q))
poly-parts (p ⊗ q) =
    omega (
      arith,
      mul-parts (poly p) (poly q),
      cross (plus (poly p)) (minus (poly p)) (pluses p) (minuses p) (plus (poly q)) (minus (poly q)) (pluses q) (minuses q) (poly-parts p) (poly-parts q),
    )

-- an order or an equation of two polynomials, from and to one of their parts
module _ (p q : Poly) where
  pub ≤-by : pluses p + minuses q ≤ pluses q + minuses p → poly p ≤ℤ poly q
  ≤-by h = parts-≤ (omega (arith, poly-parts p, poly-parts q))

  pub ≤-to : poly p ≤ℤ poly q → pluses p + minuses q ≤ pluses q + minuses p
  ≤-to h = omega (arith, ≤-parts h, poly-parts p, poly-parts q)

  pub ≡-by : pluses p + minuses q ≡ pluses q + minuses p → poly p ≡ poly q
  ≡-by h = parts-≡ (omega (arith, poly-parts p, poly-parts q))
