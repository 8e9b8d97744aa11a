-- The laws of values, which every other crate uses in place of their definitions. Assumes nothing.
use mathlib.Core.Path.{◌≡◌, refl, sym, ap, ◌∙◌}
use mathlib.Core.Bool.{Bool, true, false, not, true≢false}
use mathlib.Core.List.{List, [], ◌∷◌, ◌++◌}
use mathlib.Core.Option.{none, some}
use Prim.Native.Nat.{ℕ, suc, ◌≤◌, ◌<◌}
use native.Mathlib.Nat.{mul-le-mul_left}
use native.Mathlib.Omega.{arith}
use lib.IntN.{ℤ, pos, nat_abs, ◌+ℤ◌, ◌-ℤ◌, ◌*ℤ◌, +ℤ_assoc, +ℤ_comm}
use lib.ListN.{length}
use lib.Signed.{◌≤ℤ◌}
use borrow.Author.Rules.{rules}
use Rattle.std.proofs.Common.{int_eq}
use Rattle.value.specs.Bag.{All, Same}
use Rattle.value.specs.Machine.{value_of}
use Rattle.value.specs.declared.datum.Datum.{Datum}
use Rattle.value.specs.Integer.{low16, high16, min_z, max_z, least_end, greatest_end, round_z}
use Rattle.value.specs.Value.{Operation, apply_z, Connective, Aggregate, sure, negate, holds, Value, apply, round, same_value, value_test, Tally, start, combine, weight, gather, more, finish, tally, total, TallyBetween, TallyHeld, Between, between, Held, narrowed, narrowed_tally, stored, shown, Cell, Column, InColumn, in_column, size, digit, digit_of, Truth, connect}
use Rattle.value.proofs.Decides.{Decides, and-dec, by-dec}
use Rattle.value.proofs.Linear.{‵, ◌⊕◌, ◌⊗◌, ≤-by, ≤-to, ≤-parts, sum-parts, diff-parts, magnitude-parts, ints}
use Rattle.value.proofs.Order.{≤_trans, ≤-self, ≤-dec, min-below, max-above, below-min, above-max, min_comm, max_comm, min_assoc, max_assoc, In, sum-hull, difference-hull, product-hull, multiple-low, multiple-high}
use Rattle.value.proofs.Fits.{narrow32-held, narrow16-held}
use Rattle.value.proofs.Rounding.{round_mono}
use Rattle.value.proofs.Bags.{Commutes, fold-snoc, fold-bag}

-- ---- truths
pub holds-sure : (b : Bool) → holds (sure b) ≡ b
unfolding holds sure
holds-sure true = refl
holds-sure false = refl

pub negate-sure : (b : Bool) → negate (sure b) ≡ sure (not b)
unfolding negate sure
negate-sure true = refl
negate-sure false = refl

-- a truth that settles a connection, whatever the other is
pub connect-false : (t u : Truth) → holds (negate t) ≡ true → connect Connective.conjunction t u ≡ t
unfolding holds negate connect
connect-false Truth.True u h = absurd (true≢false (sym h))
connect-false Truth.False u h = refl

pub connect-true : (t u : Truth) → holds t ≡ true → connect Connective.disjunction t u ≡ t
unfolding holds connect
connect-true Truth.True u h = refl
connect-true Truth.False u h = absurd (true≢false (sym h))

-- ---- the code's == of values is the test that bags go by
pub datum_eq : (a b : Datum) → int_eq a.n b.n ≡ value_test.same (value_of a) (value_of b)
unfolding value_of same_value
datum_eq a b = search rules

-- ---- bounds
pub between-wider : {l h l' h' : ℤ} {v : Value} → l' ≤ℤ l → h ≤ℤ h' → Between l h v → Between l' h' v
between-wider p q (Between.number a b) = Between.number (≤_trans p a) (≤_trans b q)

pub between-self : (z : ℤ) → Between z z (Value.number z)
between-self z = Between.number (≤-self z) (≤-self z)

pub between-dec : (lo hi : ℤ) (v : Value) → Decides (between lo hi v) (Between lo hi v)
unfolding between
between-dec lo hi (Value.number z) = by-dec (λ p. Between.number p.0 p.1) out (and-dec (≤-dec lo z) (≤-dec z hi))
  where
    out : Between lo hi (Value.number z) → (lo ≤ℤ z) × (z ≤ℤ hi)
    out (Between.number a b) = (a, b)

pub within-dec : (c : Column) (v : Value) → Decides (in_column c v) (InColumn c v)
within-dec c v = by-dec (λ b. record { bounds = b }) (λ w. w.bounds) (between-dec c.lo c.hi v)

-- what 32 bits hold is kept
pub held-narrowed : {v : Value} → Held v → narrowed v ≡ v
unfolding narrowed
held-narrowed (Between.number a b) = ap Value.number (narrow32-held a b)

-- ---- operations on bounded values give bounded ones
apply-hull : (op : Operation) {l a h l' b h' : ℤ} → In l h a → In l' h' b → In (least_end (apply_z op) l h l' h') (greatest_end (apply_z op) l h l' h') (apply_z op a b)
apply-hull Operation.sum = sum-hull
apply-hull Operation.difference = difference-hull
apply-hull Operation.product = product-hull

pub apply-between : (op : Operation) {l h l' h' : ℤ} {v w : Value} → Between l h v → Between l' h' w
    → Between (least_end (apply_z op) l h l' h') (greatest_end (apply_z op) l h l' h') (apply op v w)
unfolding apply
apply-between op (Between.number a b) (Between.number c d) =
    let i = apply-hull op (record { low = a; high = b }) (record { low = c; high = d }) in
    Between.number i.low i.high

pub round-between : {l h : ℤ} {v : Value} (m : ℕ) → Between l h v → Between (round_z m l) (round_z m h) (round m v)
unfolding round
round-between m (Between.number a b) = Between.number (round_mono m a) (round_mono m b)

-- ---- aggregates: the steps commute, so that only the bag of the values counts
combine-comm : (op : Aggregate) (a b : ℤ) → combine op a b ≡ combine op b a
combine-comm Aggregate.count = +ℤ_comm
combine-comm Aggregate.sum = +ℤ_comm
combine-comm Aggregate.minimum = min_comm
combine-comm Aggregate.maximum = max_comm

combine-assoc : (op : Aggregate) (a b c : ℤ) → combine op (combine op a b) c ≡ combine op a (combine op b c)
combine-assoc Aggregate.count = +ℤ_assoc
combine-assoc Aggregate.sum = +ℤ_assoc
combine-assoc Aggregate.minimum = min_assoc
combine-assoc Aggregate.maximum = max_assoc

gather-comm : (op : Aggregate) (a b : ℤ) (t : Tally) → gather op a (gather op b t) ≡ gather op b (gather op a t)
gather-comm op a b none = ap some (combine-comm op b a)
gather-comm op a b (some t) = ap some (combine-assoc op t b a ∙ ap (combine op t) (combine-comm op b a) ∙ sym (combine-assoc op t a b))

pub more-comm : (op : Aggregate) → Commutes (more op)
unfolding more
more-comm op v w t = gather-comm op (weight op v) (weight op w) t

pub total-bag : (op : Aggregate) {vs ws : List Value} → Same value_test vs ws → total op vs ≡ total op ws
total-bag op h = ap finish (fold-bag (more op) (more-comm op) (start op) h)

-- one value more
pub tally-snoc : (op : Aggregate) (vs : List Value) (v : Value) → tally op (vs ++ (v ∷ [])) ≡ more op v (tally op vs)
tally-snoc op vs v = fold-snoc (more op) (more-comm op) (start op) vs v

-- ---- aggregates of bounded values are bounded, at each step
pub tally-wider : {l h l' h' : ℤ} {t : Tally} → l' ≤ℤ l → h ≤ℤ h' → TallyBetween l h t → TallyBetween l' h' t
tally-wider p q TallyBetween.nothing = TallyBetween.nothing
tally-wider p q (TallyBetween.number a b) = TallyBetween.number (≤_trans p a) (≤_trans b q)

pub held-tally : {t : Tally} → TallyHeld t → narrowed_tally t ≡ t
unfolding narrowed_tally
held-tally TallyBetween.nothing = refl
held-tally (TallyBetween.number a b) = ap some (narrow32-held a b)

-- a count is the number of values
pub count-tally : (vs : List Value) → tally Aggregate.count vs ≡ some (pos (length vs))
unfolding start more weight
count-tally [] = refl
count-tally (v ∷ vs) = rw (count-tally vs) (ap some (+ℤ_comm (pos (length vs)) (pos 1) ∙ ap pos (omega arith)))

pub count-between : (R : ℕ) (vs : List Value) → length vs ≤ R → TallyBetween (pos 0) (pos R) (tally Aggregate.count vs)
count-between R vs h = rw (count-tally vs) (TallyBetween.number {z = pos (length vs)} (omega ints) (omega ints))

-- a sum of k values from m to M, where m is not positive and M not negative, lies from k × m to k × M
module _ {m M : ℤ} (neg : m ≤ℤ pos 0) (non : pos 0 ≤ℤ M) where
  sum_step : (k : ℕ) {v : Value} {t : Tally} → Between m M v → TallyBetween (pos k *ℤ m) (pos k *ℤ M) t
      → TallyBetween (pos (suc k) *ℤ m) (pos (suc k) *ℤ M) (more Aggregate.sum v t)
  unfolding more weight
  sum_step k (Between.number {z} a b) TallyBetween.nothing =
      TallyBetween.number
      (≤-by (‵ (pos (suc k)) ⊗ ‵ m) (‵ z) (omega (ints, mul-le-mul_left k (≤-parts neg))))
      (≤-by (‵ z) (‵ (pos (suc k)) ⊗ ‵ M) (omega (ints, mul-le-mul_left k (≤-parts non))))
  sum_step k (Between.number {z} a b) (TallyBetween.number {z = t} c d) =
      TallyBetween.number
      (≤-by (‵ (pos (suc k)) ⊗ ‵ m) (‵ t ⊕ ‵ z) (omega (ints, ≤-to (‵ (pos k) ⊗ ‵ m) (‵ t) c)))
      (≤-by (‵ t ⊕ ‵ z) (‵ (pos (suc k)) ⊗ ‵ M) (omega (ints, ≤-to (‵ t) (‵ (pos k) ⊗ ‵ M) d)))

  sum-all : {vs : List Value} → All (Between m M) vs → TallyBetween (pos (length vs) *ℤ m) (pos (length vs) *ℤ M) (tally Aggregate.sum vs)
  unfolding start
  sum-all All.nil = TallyBetween.nothing
  sum-all (All.cons {xs = vs} b bs) = sum_step (length vs) b (sum-all bs)

pub all_map : {A : Type 0} {P Q : A → Type 0} {xs : List A} → ((x : A) → P x → Q x) → All P xs → All Q xs
all_map f All.nil = All.nil
all_map f (All.cons {x} p ps) = All.cons (f x p) (all_map f ps)

-- "sum is R × min(lo,0) to R × max(hi,0)"
pub sum-tally : {lo hi : ℤ} (R : ℕ) {vs : List Value} → length vs ≤ R → All (Between lo hi) vs
    → TallyBetween (pos R *ℤ min_z lo (pos 0)) (pos R *ℤ max_z hi (pos 0)) (tally Aggregate.sum vs)
sum-tally {lo} {hi} R {vs} h bs =
    let (l, n) = min-below lo (pos 0) in
    let (u, p) = max-above hi (pos 0) in
    tally-wider (multiple-low h (min_z lo (pos 0)) n) (multiple-high h (max_z hi (pos 0)) p)
    (sum-all n p (all_map (λ v b. between-wider l u b) bs))

-- "min and max keep the range"
minimum-step : {lo hi : ℤ} {v : Value} {t : Tally} → Between lo hi v → TallyBetween lo hi t → TallyBetween lo hi (more Aggregate.minimum v t)
unfolding more weight
minimum-step (Between.number a b) TallyBetween.nothing = TallyBetween.number a b
minimum-step (Between.number {z} a b) (TallyBetween.number {z = t} c d) = TallyBetween.number (below-min t z c a) (≤_trans (min-below t z).0 d)

maximum-step : {lo hi : ℤ} {v : Value} {t : Tally} → Between lo hi v → TallyBetween lo hi t → TallyBetween lo hi (more Aggregate.maximum v t)
unfolding more weight
maximum-step (Between.number a b) TallyBetween.nothing = TallyBetween.number a b
maximum-step (Between.number {z} a b) (TallyBetween.number {z = t} c d) = TallyBetween.number (≤_trans c (max-above t z).0) (above-max t z d b)

module _ {lo hi : ℤ} where
  pub minimum-tally : {vs : List Value} → All (Between lo hi) vs → TallyBetween lo hi (tally Aggregate.minimum vs)
  unfolding start
  minimum-tally All.nil = TallyBetween.nothing
  minimum-tally (All.cons b bs) = minimum-step b (minimum-tally bs)

  pub maximum-tally : {vs : List Value} → All (Between lo hi) vs → TallyBetween lo hi (tally Aggregate.maximum vs)
  unfolding start
  maximum-tally All.nil = TallyBetween.nothing
  maximum-tally (All.cons b bs) = maximum-step b (maximum-tally bs)

-- what a group with a member comes to lies where its tally lies
gather-finish : {lo hi : ℤ} (op : Aggregate) (z : ℤ) (t : Tally) → TallyBetween lo hi (gather op z t) → Between lo hi (finish (gather op z t))
unfolding finish
gather-finish op z none (TallyBetween.number a b) = Between.number a b
gather-finish op z (some t) (TallyBetween.number a b) = Between.number a b

pub total-between : {lo hi : ℤ} (op : Aggregate) (v : Value) (vs : List Value) → TallyBetween lo hi (tally op (v ∷ vs)) → Between lo hi (total op (v ∷ vs))
unfolding more
total-between op v vs b = gather-finish op (weight op v) (tally op vs) b

-- ---- cells: reading back what was written
pub stored-number : (z : ℤ) → stored (Value.number z) ≡ z
unfolding stored
stored-number z = refl

pub number-stored : (v : Value) → Value.number (stored v) ≡ v
unfolding stored
number-stored (Value.number z) = refl

-- the instance buffer holds a value that 16 bits hold
pub shown-cell : {v : Value} → Between low16 high16 v → Cell v (shown v)
unfolding shown
shown-cell (Between.number a b) = rw (narrow16-held a b) Cell.number

pub cell-number : {v : Value} {z : ℤ} → Cell v z → v ≡ Value.number z
cell-number Cell.number = refl

-- ---- digits: each value of a column is the value of exactly one digit
pub digit-within : (c : Column) → c.lo ≤ℤ c.hi → (n : ℕ) → n < size c → InColumn c (digit c n)
unfolding size digit
digit-within c h n l =
    record {
      bounds = Between.number {z = c.lo +ℤ pos n}
          (omega (ints, sum-parts c.lo (pos n)))
          (omega (ints, sum-parts c.lo (pos n), diff-parts c.hi c.lo, magnitude-parts (c.hi -ℤ c.lo)));
    }

within-digit' : (c : Column) {v : Value} → Between c.lo c.hi v → (digit_of c v < size c) × (digit c (digit_of c v) ≡ v)
unfolding size digit digit_of
within-digit' c (Between.number {z} l h) = (
  omega (ints, diff-parts c.hi c.lo, magnitude-parts (c.hi -ℤ c.lo), diff-parts z c.lo, magnitude-parts (z -ℤ c.lo)),
  ap Value.number (omega (ints, sum-parts c.lo (pos (nat_abs (z -ℤ c.lo))), diff-parts z c.lo, magnitude-parts (z -ℤ c.lo))),
)

pub within-digit : (c : Column) {v : Value} → InColumn c v → (digit_of c v < size c) × (digit c (digit_of c v) ≡ v)
within-digit c w = within-digit' c w.bounds

pub digit-back : (c : Column) (n : ℕ) → digit_of c (digit c n) ≡ n
unfolding digit digit_of
digit-back c n =
    let z = c.lo +ℤ pos n in
    omega (ints, sum-parts c.lo (pos n), diff-parts z c.lo, magnitude-parts (z -ℤ c.lo))
