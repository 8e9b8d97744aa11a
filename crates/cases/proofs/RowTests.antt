-- Tests of the rows of a relation, one row more each time, and of two lists by index. Assumes nothing.
use mathlib.Core.Path.{◌≡◌, refl, sym, ap, ap₂, ◌∙◌}
use mathlib.Core.Bool.{Bool, not, ◌&&◌, ◌||◌, not-not, and-true, and_assoc, or-false}
use mathlib.Core.List.{List, [], ◌∷◌, ◌++◌}
use Prim.Native.Nat.{ℕ, zero, suc, ◌+◌, ◌<◌}
use native.Mathlib.Omega.{arith}
use lib.IntN.{ℤ}
use lib.ListN.{length, get_or}
use Rattle.std.proofs.Common.{int_eq}
use Rattle.std.specs.List.{list_all, list_any, range_with_len}
use Rattle.std.proofs.lemmas.List.Folds.{list_all-append, list_any-append}
use Rattle.value.specs.Machine.{value_of}
use Rattle.value.specs.Value.{value_test}
use Rattle.value.specs.declared.datum.Datum.{Datum}
use Rattle.value.proofs.Values.{datum_eq}
use Rattle.value.proofs.Decides.{by-test, and-cross}
use Rattle.meaning.specs.Lists.{all, any, pairwise, each}
use Rattle.meaning.specs.Syntax.{Row}
use Rattle.meaning.proofs.ListSteps.{all_snoc}
use Rattle.store.specs.Rows.{row_in, rows_in}
use Rattle.store.proofs.RowLaws.{rows_none, rows_more}
use Rattle.cases.specs.Validity.{all_below, any_below}

-- ---- the code's != of values

pub ne-same : (x y : Datum) (b : Bool) {r : Bool} → r ≡ not (int_eq x.n y.n) → r ≡ not b → value_test.same (value_of x) (value_of y) ≡ b
ne-same x y b e f = sym (datum_eq x y) ∙ sym (not-not (int_eq x.n y.n)) ∙ ap not (sym e ∙ f) ∙ not-not b

-- ---- one element more at the end

module _ {A : Type 0} where
  any_snoc : (p : A → Bool) (l : List A) (x : A) → any p (l ++ (x ∷ [])) ≡ (any p l || p x)
  any_snoc p [] x = by-test (p x) (λ e. rw e) (λ e. rw e)
  any_snoc p (y ∷ l) x = by-test (p y) (λ e. rw e) (λ e. rw e (any_snoc p l x))

  -- the last one is later than each other
  pairwise-snoc : (p : A → A → Bool) (l : List A) (x : A) → pairwise p (l ++ (x ∷ [])) ≡ (pairwise p l && all (λ y. p y x) l)
  pairwise-snoc p [] x = refl
  pairwise-snoc p (y ∷ l) x =
      ap₂ (λ (a b : Bool). a && b) (all_snoc (p y) l x) (pairwise-snoc p l x) ∙ and-cross (all (p y) l) (p y x) (pairwise p l) (all (λ z. p z x) l)

-- ---- the numbers of a range, in the library's words

range_snoc : (a n j : ℕ) → a + n ≡ j → range_with_len a (suc n) ≡ range_with_len a n ++ (j ∷ [])
range_snoc a zero j e = ap (λ k. k ∷ []) (omega arith)
range_snoc a (suc n) j e = ap (λ l. a ∷ l) (range_snoc (a + 1) n j (omega arith))

module _ (p : ℕ → Bool) where
  pub all-in-range : (n : ℕ) → list_all p (range_with_len 0 n) ≡ all_below p n
  unfolding all_below
  all-in-range zero = refl
  all-in-range (suc n) =
      ap (list_all p) (range_snoc 0 n n (omega arith)) ∙ list_all-append p (range_with_len 0 n) (n ∷ [])
      ∙ ap₂ (λ (a b : Bool). a && b) (all-in-range n) (and-true (p n))

  pub any-in-range : (n : ℕ) → list_any p (range_with_len 0 n) ≡ any_below p n
  unfolding any_below
  any-in-range zero = refl
  any-in-range (suc n) =
      ap (list_any p) (range_snoc 0 n n (omega arith)) ∙ list_any-append p (range_with_len 0 n) (n ∷ [])
      ∙ ap₂ (λ (a b : Bool). a || b) (any-in-range n) (or-false (p n))

-- ---- the rows of a relation

module _ (work : List ℤ) (r w : ℕ) where
  -- a test of each row, by its number
  pub all-rows : (p : ℕ → Bool) (q : Row → Bool) → ((i : ℕ) → p i ≡ q (row_in work r w i)) → (n : ℕ) → all_below p n ≡ all q (rows_in work r w n)
  unfolding all_below
  all-rows p q e zero = sym (ap (all q) (rows_none work r w))
  all-rows p q e (suc n) =
      ap₂ (λ (a b : Bool). a && b) (all-rows p q e n) (e n) ∙ sym (ap (all q) (rows_more work r w n) ∙ all_snoc q (rows_in work r w n) (row_in work r w n))

  pub any-rows : (p : ℕ → Bool) (q : Row → Bool) → ((i : ℕ) → p i ≡ q (row_in work r w i)) → (n : ℕ) → any_below p n ≡ any q (rows_in work r w n)
  unfolding any_below
  any-rows p q e zero = sym (ap (any q) (rows_none work r w))
  any-rows p q e (suc n) =
      ap₂ (λ (a b : Bool). a || b) (any-rows p q e n) (e n) ∙ sym (ap (any q) (rows_more work r w n) ∙ any_snoc q (rows_in work r w n) (row_in work r w n))

  -- each row with each earlier one
  pub pairwise-rows : (p : Row → Row → Bool) (n : ℕ)
      → all_below (λ j. all (λ μ. p μ (row_in work r w j)) (rows_in work r w j)) n ≡ pairwise p (rows_in work r w n)
  unfolding all_below
  pairwise-rows p zero = sym (ap (pairwise p) (rows_none work r w))
  pairwise-rows p (suc n) =
      ap (λ b. b && all (λ μ. p μ (row_in work r w n)) (rows_in work r w n)) (pairwise-rows p n)
      ∙ sym (ap (pairwise p) (rows_more work r w n) ∙ pairwise-snoc p (rows_in work r w n) (row_in work r w n))

-- ---- two lists of one length, by index

all-below-first : (q : ℕ → Bool) (n : ℕ) → all_below q (suc n) ≡ (q 0 && all_below (λ i. q (suc i)) n)
unfolding all_below
all-below-first q zero = sym (and-true (q 0))
all-below-first q (suc n) = ap (λ b. b && q (suc n)) (all-below-first q n) ∙ and_assoc (q 0) (all_below (λ i. q (suc i)) n) (q (suc n))

module _ {A B : Type 0} (p : A → B → Bool) (a : A) (b : B) where
  pub all-each : (q : ℕ → Bool) (xs : List A) (ys : List B) → length ys ≡ length xs → ((i : ℕ) → i < length xs → q i ≡ p (get_or xs i a) (get_or ys i b))
      → all_below q (length xs) ≡ each p xs ys
  unfolding all_below
  all-each q [] [] e h = refl
  all-each q [] (y ∷ ys) e h = absurd (omega arith)
  all-each q (x ∷ xs) [] e h = absurd (omega arith)
  all-each q (x ∷ xs) (y ∷ ys) e h =
      all-below-first q (length xs)
      ∙ ap₂ (λ (u v : Bool). u && v) (h 0 (omega arith)) (all-each (λ i. q (suc i)) xs ys (omega arith) (λ i l. h (suc i) (omega arith)))
