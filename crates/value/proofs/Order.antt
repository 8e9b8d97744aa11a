-- The laws of the order of ℤ, of sums, differences, products and bounds. Assumes nothing.
use mathlib.Core.Path.{◌≡◌, refl}
use mathlib.Core.Bool.{cond}
use mathlib.Core.Logic.{◌⊎◌, inl, inr}
use Prim.Native.Nat.{ℕ, suc, ◌≤◌}
use native.Mathlib.Nat.{mul-le-mul_right}
use native.Mathlib.Omega.{arith}
use lib.IntN.{ℤ, pos, negsuc, ◌+ℤ◌, ◌-ℤ◌, ◌*ℤ◌, *ℤ_comm}
use lib.Signed.{le_z, lt_z, ◌≤ℤ◌, ◌<ℤ◌, le_z_yes, lt_z_yes}
use Rattle.std.specs.Int.{int_min, int_max}
use Rattle.value.specs.Integer.{min_z, max_z, least_end, greatest_end}
use Rattle.value.proofs.Decides.{Decides, by-test}
use Rattle.value.proofs.Linear.{‵, ◌⊕◌, ◌⊖◌, ◌⊗◌, ≤-by, ≤-parts, le_z-true, le_z-false, true-lt_z, false-lt_z, ints}

-- ---- the order: reflexive, transitive, antisymmetric, total and decided
pub ≤-self : (a : ℤ) → a ≤ℤ a
≤-self a = omega ints

pub ≤_trans : {a b c : ℤ} → a ≤ℤ b → b ≤ℤ c → a ≤ℤ c
≤_trans h k = omega ints

pub ≤-antisym : {a b : ℤ} → a ≤ℤ b → b ≤ℤ a → a ≡ b
≤-antisym h k = omega ints

pub <-≤ : {a b : ℤ} → a <ℤ b → a ≤ℤ b
<-≤ h = omega ints

pub ≤-total : (a b : ℤ) → (a ≤ℤ b) ⊎ (b ≤ℤ a)
≤-total a b = by-test (le_z a b) (λ e. inl (le_z-true a b e)) (λ e. inr (<-≤ (le_z-false a b e)))

pub ≤-dec : (a b : ℤ) → Decides (le_z a b) (a ≤ℤ b)
≤-dec a b = record { sound = le_z_yes; complete = λ h. h.le }

pub <-dec : (a b : ℤ) → Decides (lt_z a b) (a <ℤ b)
<-dec a b = record { sound = lt_z_yes; complete = λ h. h.lt }

-- ---- sums and differences keep it
pub sum_mono : {a b c d : ℤ} → a ≤ℤ b → c ≤ℤ d → (a +ℤ c) ≤ℤ (b +ℤ d)
sum_mono {a} {b} {c} {d} h k = ≤-by (‵ a ⊕ ‵ c) (‵ b ⊕ ‵ d) (omega ints)

pub difference-mono : {a b c d : ℤ} → a ≤ℤ b → d ≤ℤ c → (a -ℤ c) ≤ℤ (b -ℤ d)
difference-mono {a} {b} {c} {d} h k = ≤-by (‵ a ⊖ ‵ c) (‵ b ⊖ ‵ d) (omega ints)

-- ---- a product by a number that is not negative keeps it, by a negative one turns it round
product-mono : {a b : ℤ} (n : ℕ) → a ≤ℤ b → (a *ℤ pos n) ≤ℤ (b *ℤ pos n)
product-mono {a} {b} n h = ≤-by (‵ a ⊗ ‵ (pos n)) (‵ b ⊗ ‵ (pos n)) (omega (arith, mul-le-mul_right n (≤-parts h)))

product-anti : {a b : ℤ} (n : ℕ) → a ≤ℤ b → (b *ℤ negsuc n) ≤ℤ (a *ℤ negsuc n)
product-anti {a} {b} n h = ≤-by (‵ b ⊗ ‵ (negsuc n)) (‵ a ⊗ ‵ (negsuc n)) (omega (arith, mul-le-mul_right (suc n) (≤-parts h)))

-- ---- the lesser and the greater of two
module _ (a b : ℤ) where
  -- a property of the one that the test picks, from that of each with what the test tells
  picked : (x y : ℤ) (P : ℤ → Type 0) → (a ≤ℤ b → P x) → (b <ℤ a → P y) → P (cond (le_z a b) x y)
  picked x y P f g = by-test (le_z a b) (λ e. rw e (f (le_z-true a b e))) (λ e. rw e (g (le_z-false a b e)))

  pub min-below : (min_z a b ≤ℤ a) × (min_z a b ≤ℤ b)
  unfolding min_z
  min-below = picked a b (λ z. (z ≤ℤ a) × (z ≤ℤ b)) (λ h. omega ints) (λ h. omega ints)

  pub max-above : (a ≤ℤ max_z a b) × (b ≤ℤ max_z a b)
  unfolding max_z
  max-above = picked b a (λ z. (a ≤ℤ z) × (b ≤ℤ z)) (λ h. omega ints) (λ h. omega ints)

  pub below-min : {x : ℤ} → x ≤ℤ a → x ≤ℤ b → x ≤ℤ min_z a b
  unfolding min_z
  below-min {x} h k = picked a b (λ z. x ≤ℤ z) (λ _. h) (λ _. k)

  pub above-max : {x : ℤ} → a ≤ℤ x → b ≤ℤ x → max_z a b ≤ℤ x
  unfolding max_z
  above-max {x} h k = picked b a (λ z. z ≤ℤ x) (λ _. k) (λ _. h)

module _ (a b : ℤ) where
  pub min_comm : min_z a b ≡ min_z b a
  min_comm = ≤-antisym (below-min b a (min-below a b).1 (min-below a b).0) (below-min a b (min-below b a).1 (min-below b a).0)

  pub max_comm : max_z a b ≡ max_z b a
  max_comm = ≤-antisym (above-max a b (max-above b a).1 (max-above b a).0) (above-max b a (max-above a b).1 (max-above a b).0)

module _ (a b c : ℤ) where
  pub min_assoc : min_z (min_z a b) c ≡ min_z a (min_z b c)
  min_assoc =
      let (p, q) = min-below (min_z a b) c in
      let (r, s) = min-below a (min_z b c) in
      ≤-antisym
      (below-min a (min_z b c) (≤_trans p (min-below a b).0) (below-min b c (≤_trans p (min-below a b).1) q))
      (below-min (min_z a b) c (below-min a b r (≤_trans s (min-below b c).0)) (≤_trans s (min-below b c).1))

  pub max_assoc : max_z (max_z a b) c ≡ max_z a (max_z b c)
  max_assoc =
      let (p, q) = max-above (max_z a b) c in
      let (r, s) = max-above a (max_z b c) in
      ≤-antisym
      (above-max (max_z a b) c (above-max a b r (≤_trans (max-above b c).0 s)) (≤_trans (max-above b c).1 s))
      (above-max a (max_z b c) (≤_trans (max-above a b).0 p) (above-max b c (≤_trans (max-above a b).1 p) q))

-- ---- the library's are these
module _ (a b : ℤ) where
  pub min_is : int_min a b ≡ min_z a b
  unfolding min_z
  min_is = by-test (le_z a b) (λ e. rw (e, false-lt_z (le_z-true a b e)) refl) (λ e. rw (e, true-lt_z (le_z-false a b e)) refl)

  pub max_is : int_max a b ≡ max_z a b
  unfolding max_z
  max_is = by-test (le_z a b) (λ e. rw (e, false-lt_z (le_z-true a b e)) refl) (λ e. rw (e, true-lt_z (le_z-false a b e)) refl)

-- ---- z lies from lo to hi
pub record In (lo hi z : ℤ) : Type 0 where
  pub low : lo ≤ℤ z
  pub high : z ≤ℤ hi

-- one factor fixed: a product lies between those of the ends
scaled : {l a h : ℤ} (c : ℤ) → In l h a → In (min_z (l *ℤ c) (h *ℤ c)) (max_z (l *ℤ c) (h *ℤ c)) (a *ℤ c)
scaled {l} {a} {h} (pos n) i =
    record {
      low = ≤_trans (min-below _ _).0 (product-mono n i.low);
      high = ≤_trans (product-mono n i.high) (max-above _ _).1;
    }
scaled {l} {a} {h} (negsuc n) i =
    record {
      low = ≤_trans (min-below _ _).1 (product-anti n i.high);
      high = ≤_trans (product-anti n i.low) (max-above _ _).0;
    }

scaled-left : {l b h : ℤ} (c : ℤ) → In l h b → In (min_z (c *ℤ l) (c *ℤ h)) (max_z (c *ℤ l) (c *ℤ h)) (c *ℤ b)
scaled-left {l} {b} {h} c i = rw (*ℤ_comm c l, *ℤ_comm c h, *ℤ_comm c b) (scaled c i)

-- each of the four end results lies between the least and the greatest
module _ (f : ℤ → ℤ → ℤ) (l h l' h' : ℤ) where
  pub low-low : In (least_end f l h l' h') (greatest_end f l h l' h') (f l l')
  low-low = record { low = ≤_trans (min-below _ _).0 (min-below _ _).0; high = ≤_trans (max-above _ _).0 (max-above _ _).0 }

  pub low-high : In (least_end f l h l' h') (greatest_end f l h l' h') (f l h')
  low-high = record { low = ≤_trans (min-below _ _).0 (min-below _ _).1; high = ≤_trans (max-above _ _).1 (max-above _ _).0 }

  pub high-low : In (least_end f l h l' h') (greatest_end f l h l' h') (f h l')
  high-low = record { low = ≤_trans (min-below _ _).1 (min-below _ _).0; high = ≤_trans (max-above _ _).0 (max-above _ _).1 }

  pub high-high : In (least_end f l h l' h') (greatest_end f l h l' h') (f h h')
  high-high = record { low = ≤_trans (min-below _ _).1 (min-below _ _).1; high = ≤_trans (max-above _ _).1 (max-above _ _).1 }

-- the hulls: a sum, a difference and a product of numbers between ends lie in the hull of the end results
module _ {l a h l' b h' : ℤ} (i : In l h a) (j : In l' h' b) where
  pub sum-hull : In (least_end ◌+ℤ◌ l h l' h') (greatest_end ◌+ℤ◌ l h l' h') (a +ℤ b)
  sum-hull =
      record {
        low = ≤_trans (low-low ◌+ℤ◌ l h l' h').low (sum_mono i.low j.low);
        high = ≤_trans (sum_mono i.high j.high) (high-high ◌+ℤ◌ l h l' h').high;
      }

  pub difference-hull : In (least_end ◌-ℤ◌ l h l' h') (greatest_end ◌-ℤ◌ l h l' h') (a -ℤ b)
  difference-hull =
      record {
        low = ≤_trans (low-high ◌-ℤ◌ l h l' h').low (difference-mono i.low j.high);
        high = ≤_trans (difference-mono i.high j.low) (high-low ◌-ℤ◌ l h l' h').high;
      }

  pub product-hull : In (least_end ◌*ℤ◌ l h l' h') (greatest_end ◌*ℤ◌ l h l' h') (a *ℤ b)
  product-hull =
      let m = scaled b i in
      let p = scaled-left l j in
      let q = scaled-left h j in
      record {
        low = ≤_trans (below-min _ _ (≤_trans (min-below _ _).0 p.low) (≤_trans (min-below _ _).1 q.low)) m.low;
        high = ≤_trans m.high (above-max _ _ (≤_trans p.high (max-above _ _).0) (≤_trans q.high (max-above _ _).1));
      }

-- a multiple of a number that is not positive falls as the factor grows, and of one that is not negative rises
module _ {n R : ℕ} (h : n ≤ R) where
  pub multiple-low : (z : ℤ) → z ≤ℤ pos 0 → (pos R *ℤ z) ≤ℤ (pos n *ℤ z)
  multiple-low (pos a) k = let e : a ≡ 0 = omega ints in rw e (≤-by (‵ (pos R) ⊗ ‵ (pos 0)) (‵ (pos n) ⊗ ‵ (pos 0)) (omega arith))
  multiple-low (negsuc a) k = ≤-by (‵ (pos R) ⊗ ‵ (negsuc a)) (‵ (pos n) ⊗ ‵ (negsuc a)) (omega (arith, mul-le-mul_right (suc a) h))

  pub multiple-high : (z : ℤ) → pos 0 ≤ℤ z → (pos n *ℤ z) ≤ℤ (pos R *ℤ z)
  multiple-high (pos a) k = ≤-by (‵ (pos n) ⊗ ‵ (pos a)) (‵ (pos R) ⊗ ‵ (pos a)) (omega (arith, mul-le-mul_right a h))
  multiple-high (negsuc a) k = absurd (omega ints)
