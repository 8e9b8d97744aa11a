-- Lists of what a function gives below a number. Assumes nothing.
use mathlib.Core.Path.{◌≡◌, refl, ap, sym, ◌∙◌}
use mathlib.Core.Logic.{⊎_elim}
use mathlib.Core.List.{List, [], ◌∷◌, ◌++◌, map}
use Prim.Native.Nat.{ℕ, zero, suc, ◌<◌}
use native.Mathlib.Nat.{eq-or-lt_of_le, le_of_suc-le-suc}
use native.Mathlib.Omega.{arith}
use lib.Dec.{eqb}
use lib.ListN.{length, get_or, set, drop, length-append, length-map, length-set, get_or-append}
use lib.Seq.{get_or_at, get_or-set_same, get_or-set_other, ext_get_or, set_at}
use borrow.Author.Tests.{eqb-true, eqb-false}
use Rattle.value.proofs.Decides.{by-test}
use Rattle.meaning.specs.Lists.{listed}
use Rattle.meaning.proofs.ListSteps.{map_at}

module _ {A : Type 0} where
  pub listed_same : (f g : ℕ → A) (n : ℕ) → ((k : ℕ) → k < n → f k ≡ g k) → listed f n ≡ listed g n
  unfolding listed
  listed_same f g zero h = refl
  listed_same f g (suc n) h = rw (listed_same f g n (λ k l. h k (omega arith)), h n (omega arith))

  pub length-listed : (f : ℕ → A) (n : ℕ) → length (listed f n) ≡ n
  unfolding listed
  length-listed f zero = refl
  length-listed f (suc n) = simp (length-append, length-listed f n) (omega arith)

  pub get_d-listed : (f : ℕ → A) (n k : ℕ) (d : A) → k < n → get_or (listed f n) k d ≡ f k
  unfolding listed
  get_d-listed f zero k d h = absurd (omega arith)
  get_d-listed f (suc n) k d h =
      let e : length (listed f n) ≡ n = length-listed f n in
      ⊎_elim (λ (q : k ≡ n). rw q (get_or_at (listed f n) (f n) [] d n e))
      (λ l. get_or-append (listed f n) (f n ∷ []) d k (omega arith) ∙ get_d-listed f n k d l)
      (eq-or-lt_of_le (le_of_suc-le-suc h))

  -- a list is what it gives below its length
  pub listed-get_d : (l : List A) (d : A) (n : ℕ) → length l ≡ n → listed (λ k. get_or l k d) n ≡ l
  listed-get_d l d n e =
      ext_get_or d (listed (λ k. get_or l k d) n) l (length-listed (λ k. get_or l k d) n ∙ sym e)
      (λ k h. get_d-listed (λ k. get_or l k d) n k d (omega (arith, length-listed (λ k. get_or l k d) n)))

  -- the last of them becomes v
  pub set_last : (f : ℕ → A) (n : ℕ) (v : A) → set (listed f (suc n)) n v ≡ listed f n ++ (v ∷ [])
  unfolding listed
  set_last f n v = set_at (listed f n) (f n) [] v n (length-listed f n)

  -- number c of them becomes v
  pub set-listed : (f g : ℕ → A) (n c : ℕ) (v : A) → g c ≡ v → ((k : ℕ) → (k ≡ c → ⊥) → g k ≡ f k) → listed g n ≡ set (listed f n) c v
  set-listed f g n c v e h =
      ext_get_or v (listed g n) (set (listed f n) c v) (length-listed g n ∙ sym (length-set (listed f n) c v ∙ length-listed f n))
      (λ k l. let m : k < n = omega (arith, length-listed g n) in
      get_d-listed g n k v m ∙ by-test (eqb k c)
      (λ t. let q : k ≡ c = eqb-true k c t in rw q (e ∙ sym (get_or-set_same (listed f n) c v v (omega (arith, length-listed f n)))))
      (λ t. h k (eqb-false k c t) ∙ sym (get_or-set_other (listed f n) c k v v (eqb-false k c t) ∙ get_d-listed f n k v m)))

  pub drop-set : (l : List A) (m : ℕ) (u : A) → m < length l → drop m (set l m u) ≡ u ∷ drop (suc m) l
  drop-set [] m u t = absurd (omega arith)
  drop-set (y ∷ l) zero u t = refl
  drop-set (y ∷ l) (suc m) u t = drop-set l m u (omega arith)

module _ {A B : Type 0} (f : A → B) where
  pub map-set : (l : List A) (k : ℕ) (a : A) → map f (set l k a) ≡ set (map f l) k (f a)
  map-set [] k a = refl
  map-set (x ∷ l) zero a = refl
  map-set (x ∷ l) (suc k) a = ap (λ t. f x ∷ t) (map-set l k a)

  -- the images of a list, by number
  pub map-listed : (l : List A) (d : A) (g : ℕ → B) (n : ℕ) → length l ≡ n → ((i : ℕ) → i < n → f (get_or l i d) ≡ g i) → map f l ≡ listed g n
  map-listed l d g n e h =
      sym (listed-get_d (map f l) (f d) n (length-map l f ∙ e))
      ∙ listed_same (λ i. get_or (map f l) i (f d)) g n (λ i k. map_at f l i d (f d) (omega arith) ∙ h i k)
