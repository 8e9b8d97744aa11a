-- The cells of a candidate are its digits: each number below the product of the sizes has its own list of values within the columns, and
-- each such list its own number. Assumes nothing.
use mathlib.Core.Path.{◌≡◌, refl, sym, ap, ap₂, ◌∙◌}
use mathlib.Core.List.{List, [], ◌∷◌, ◌++◌}
use Prim.Native.Nat.{ℕ, zero, suc, ◌+◌, ◌*◌, ◌-◌, ◌/◌, ◌%◌, ◌<◌, ◌∣◌}
use native.Mathlib.Nat.{mul_assoc, suc-mul, mul-pos, mod-one, mod-lt, mod-eq_of_lt, div-add-mod', mul-add-div_right, mul-add-mod_self_right, mod-mod_of_dvd, zero-mod, dvd_refl, dvd-mul_left_of_dvd, mul-le-mul_right}
use native.Mathlib.Omega.{arith}
use lib.Arith.{digits_div, mod-mul}
use lib.ListN.{length, take, drop}
use lib.Signed.{◌≤ℤ◌}
use Rattle.value.specs.Bag.{All}
use Rattle.value.specs.Value.{Value, Column, InColumn, size, digit, digit_of}
use Rattle.value.proofs.Order.{≤-self}
use Rattle.value.proofs.Values.{between-self, between-wider, digit-within, within-digit, digit-back}
use Rattle.meaning.specs.Lists.{Each}
use Rattle.meaning.specs.Candidates.{sizes_product, values, number}

-- "lo ≤ hi"
abbrev pub Ascending : Column → Type 0
Ascending c = c.lo ≤ℤ c.hi

-- lo is a value of the column
pub size_above : (c : Column) → Ascending c → 0 < size c
size_above c h = omega (arith, (within-digit c (record { bounds = between-wider (≤-self c.lo) h (between-self c.lo) })).0)

pub product-above : {cs : List Column} → All Ascending cs → 0 < sizes_product cs
product-above All.nil = omega arith
product-above (All.cons {x = c} {xs = cs} h hs) = mul-pos (size_above c h) (product-above hs)

pub length-values : (cs : List Column) (k : ℕ) → length (values cs k) ≡ length cs
length-values [] k = refl
length-values (c ∷ cs) k = ap suc (length-values cs k)

-- ---- from a number to its values

pub values-within : {cs : List Column} → All Ascending cs → (k : ℕ) → Each InColumn cs (values cs k)
values-within All.nil k = Each.nil
values-within (All.cons {x = c} {xs = cs} h hs) k =
    Each.cons (digit-within c h (k / sizes_product cs % size c) (mod-lt (k / sizes_product cs) (size_above c h))) (values-within hs k)

-- a multiple of the product changes no digit
pub values-shift : {cs : List Column} → All Ascending cs → (d k : ℕ) → values cs (d * sizes_product cs + k) ≡ values cs k
values-shift All.nil d k = refl
values-shift (All.cons {x = c} {xs = cs} h hs) d k =
    let q = mul-add-div_right (product-above hs) (d * size c) k in
    rw (← mul_assoc d (size c) (sizes_product cs), values-shift hs (d * size c) k, q, mul-add-mod_self_right d (size c) (k / sizes_product cs))

-- ---- and back

pub number-values : {cs : List Column} → All Ascending cs → (k : ℕ) → number cs (values cs k) ≡ k % sizes_product cs
number-values All.nil k = sym (mod-one k)
number-values (All.cons {x = c} {xs = cs} h hs) k =
    rw (digit-back c (k / sizes_product cs % size c), number-values hs k) (sym (mod-mul k (size_above c h) (product-above hs)))

pub number-below : {cs : List Column} {vs : List Value} → Each InColumn cs vs → number cs vs < sizes_product cs
number-below Each.nil = omega arith
number-below (Each.cons {x = c} {y = v} {xs = cs} w ws) =
    omega (arith, mul-le-mul_right (sizes_product cs) (within-digit c w).0, suc-mul (digit_of c v) (sizes_product cs), number-below ws)

pub values-number : {cs : List Column} {vs : List Value} → All Ascending cs → Each InColumn cs vs → values cs (number cs vs) ≡ vs
values-number hs Each.nil = refl
values-number (All.cons h hs) (Each.cons {x = c} {y = v} {xs = cs} {ys = vs} w ws) =
    let n = number cs vs in
    let q : (digit_of c v * sizes_product cs + n) / sizes_product cs ≡ digit_of c v = digits_div (digit_of c v) (number-below ws) in
    let r : digit_of c v % size c ≡ digit_of c v = mod-eq_of_lt (within-digit c w).0 in
    rw (q, r, (within-digit c w).1, values-shift hs (digit_of c v) n, values-number hs ws)

-- two numbers with the same cells are one
pub values-unique : {cs : List Column} → All Ascending cs → (j k : ℕ) → j < sizes_product cs → k < sizes_product cs → values cs j ≡ values cs k → j ≡ k
values-unique {cs} hs j k hj hk e =
    sym (mod-eq_of_lt hj) ∙ sym (number-values hs j) ∙ ap (number cs) e ∙ number-values hs k ∙ mod-eq_of_lt hk

-- ---- one step

-- the quotient only moves where the remainder comes back to 0
pub div_same : (k t : ℕ) → 0 < t → (suc k % t ≡ 0 → ⊥) → suc k / t ≡ k / t
div_same k t h z =
    let e : k ≡ suc k / t * t + (suc k % t - 1) = omega (arith, div-add-mod' (suc k) t) in
    let l : suc k % t - 1 < t = omega (arith, mod-lt (suc k) h) in
    sym (ap (λ (n : ℕ). n / t) e ∙ digits_div (suc k / t) l)

-- what holds of the cells holds of those from the cell i
pub all_drop : {A : Type 0} {P : A → Type 0} {xs : List A} (i : ℕ) → All P xs → All P (drop i xs)
all_drop zero hs = hs
all_drop (suc i) All.nil = All.nil
all_drop (suc i) (All.cons h hs) = all_drop i hs

product-drop : (cs : List Column) (i : ℕ) → sizes_product (drop i cs) ∣ sizes_product cs
product-drop [] zero = dvd_refl 1
product-drop [] (suc i) = dvd_refl 1
product-drop (c ∷ cs) zero = dvd_refl (size c * sizes_product cs)
product-drop (c ∷ cs) (suc i) = dvd-mul_left_of_dvd (sizes_product (drop i cs)) (product-drop cs i) (size c)

-- a carry that stops at the cell i leaves the cells before it
pub kept : {cs : List Column} → All Ascending cs → (i k : ℕ) → (suc k % sizes_product (drop i cs) ≡ 0 → ⊥)
    → values cs (suc k) ≡ take i (values cs k) ++ values (drop i cs) (suc k)
kept hs zero k z = refl
kept All.nil (suc i) k z = refl
kept (All.cons {x = c} {xs = cs} h hs) (suc i) k z =
    let p = sizes_product (drop i cs) in
    let z' : suc k % sizes_product cs ≡ 0 → ⊥ = λ e. z (sym (mod-mod_of_dvd p (suc k) (product-drop cs i)) ∙ ap (λ (n : ℕ). n % p) e ∙ zero-mod p) in
    ap₂ (λ (n : ℕ) (l : List Value). digit c (n % size c) ∷ l) (div_same k (sizes_product cs) (product-above hs) z') (kept hs i k z)
