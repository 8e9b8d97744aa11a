-- Tests of lists, and what they decide. Assumes nothing.
use mathlib.Core.Path.{◌≡◌, refl, ap}
use lib.ListN.{length}
use mathlib.Core.Bool.{Bool, true, false}
use mathlib.Core.List.{List, [], ◌∷◌}
use mathlib.Core.Logic.{◌⊎◌, inl, inr, ⊎_elim}
use Prim.Native.Nat.{ℕ, zero, suc, ◌<◌}
use native.Mathlib.Omega.{arith}
use lib.Dec.{T, ltb, ltb→lt, lt→ltb}
use Rattle.value.specs.Bag.{All}
use Rattle.value.proofs.Decides.{Decides, and-dec, or-dec, by-dec}
use Rattle.meaning.specs.Lists.{is_pos, all, any, Any, Pairwise, pairwise, Each, each}

pub yes-dec : {P : Type 0} → P → Decides true P
yes-dec p = record { sound = λ t. p; complete = λ q. tt }

pub no-dec : {P : Type 0} → ¬ P → Decides false P
no-dec n = record { sound = λ t. absurd t; complete = λ p. n p }

pub T-dec : (b : Bool) → Decides b (T b)
T-dec b = record { sound = λ t. t; complete = λ t. t }

pub is_pos-dec : (n : ℕ) → Decides (is_pos n) (0 < n)
is_pos-dec zero = no-dec (λ h. omega arith)
is_pos-dec (suc n) = yes-dec (omega arith)

pub ltb-dec : (m n : ℕ) → Decides (ltb m n) (m < n)
ltb-dec m n = record { sound = ltb→lt m n; complete = lt→ltb m n }

-- a list with an element
abbrev pub NotNil : {A : Type 0} → List A → Type 0
NotNil [] = ⊥
NotNil (x ∷ xs) = Unit {0}

-- ---- the quantifiers, taken apart
module _ {A : Type 0} {P : A → Type 0} where
  pub all_cons : {x : A} {xs : List A} → P x × All P xs → All P (x ∷ xs)
  all_cons h = All.cons h.0 h.1

  pub cons-all : {x : A} {xs : List A} → All P (x ∷ xs) → P x × All P xs
  cons-all (All.cons p ps) = (p, ps)

  pub any-cons : {x : A} {xs : List A} → P x ⊎ Any P xs → Any P (x ∷ xs)
  any-cons = ⊎_elim Any.here Any.there

  pub cons-any : {x : A} {xs : List A} → Any P (x ∷ xs) → P x ⊎ Any P xs
  cons-any (Any.here p) = inl p
  cons-any (Any.there ps) = inr ps

  any_some : {xs : List A} → Any P xs → NotNil xs
  any_some (Any.here p) = tt
  any_some (Any.there ps) = tt

module _ {A : Type 0} {P : A → Type 0} {p : A → Bool} (h : (x : A) → Decides (p x) (P x)) where
  pub all-dec : (l : List A) → Decides (all p l) (All P l)
  all-dec [] = yes-dec All.nil
  all-dec (x ∷ l) = by-dec all_cons cons-all (and-dec (h x) (all-dec l))

  pub any-dec : (l : List A) → Decides (any p l) (Any P l)
  any-dec [] = no-dec any_some
  any-dec (x ∷ l) = by-dec any-cons cons-any (or-dec (h x) (any-dec l))

-- ---- pairs of elements
module _ {A : Type 0} {P : A → A → Type 0} where
  pairwise_cons : {x : A} {xs : List A} → All (P x) xs × Pairwise P xs → Pairwise P (x ∷ xs)
  pairwise_cons h = Pairwise.cons h.0 h.1

  cons-pairwise : {x : A} {xs : List A} → Pairwise P (x ∷ xs) → All (P x) xs × Pairwise P xs
  cons-pairwise (Pairwise.cons p ps) = (p, ps)

  pub pairwise-dec : {p : A → A → Bool} → ((x y : A) → Decides (p x y) (P x y)) → (l : List A) → Decides (pairwise p l) (Pairwise P l)
  pairwise-dec h [] = yes-dec Pairwise.nil
  pairwise-dec h (x ∷ l) = by-dec pairwise_cons cons-pairwise (and-dec (all-dec (h x) l) (pairwise-dec h l))

-- ---- two lists side by side
module _ {A B : Type 0} {P : A → B → Type 0} where
  pub each-cons : {x : A} {y : B} {xs : List A} {ys : List B} → P x y × Each P xs ys → Each P (x ∷ xs) (y ∷ ys)
  each-cons h = Each.cons h.0 h.1

  pub cons-each : {x : A} {y : B} {xs : List A} {ys : List B} → Each P (x ∷ xs) (y ∷ ys) → P x y × Each P xs ys
  cons-each (Each.cons p ps) = (p, ps)

  pub each-length : {xs : List A} {ys : List B} → Each P xs ys → length ys ≡ length xs
  each-length Each.nil = refl
  each-length (Each.cons p ps) = ap suc (each-length ps)

  pub each-dec : {p : A → B → Bool} → ((x : A) (y : B) → Decides (p x y) (P x y)) → (xs : List A) (ys : List B) → Decides (each p xs ys) (Each P xs ys)
  each-dec h [] [] = yes-dec Each.nil
  each-dec h [] (y ∷ ys) = no-dec (λ e. let l = each-length e in omega arith)
  each-dec h (x ∷ xs) [] = no-dec (λ e. let l = each-length e in omega arith)
  each-dec h (x ∷ xs) (y ∷ ys) = by-dec each-cons cons-each (and-dec (h x y) (each-dec h xs ys))
