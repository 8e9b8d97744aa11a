-- How long the lists are that a view's rows are made of. Assumes nothing.
use mathlib.Core.Path.{◌≡◌, sym}
use mathlib.Core.Bool.{Bool, true, not, true≢false}
use mathlib.Core.List.{List, [], ◌∷◌, map, foldr}
use Prim.Native.Nat.{ℕ, suc, ◌*◌, ◌≤◌, ◌<◌, min}
use native.Mathlib.Nat.{mul-le-mul}
use native.Mathlib.Omega.{arith}
use lib.ListN.{length}
use Rattle.value.specs.Bag.{Test, All, count, remove}
use Rattle.value.proofs.Decides.{by-test}
use Rattle.range.specs.declared.Range.{Range}
use Rattle.meaning.proofs.ListSteps.{length_pairs}
use Rattle.meaning.specs.Lists.{Any, is_pos, keep, firsts, common, combinations}
use Rattle.meaning.specs.Syntax.{SetOperation}
use Rattle.meaning.specs.Bounds.{hulls, set_bound, set_ranges}

-- the product of the bounds bounds the combinations
pub combinations-bound : {A B : Type 0} (f : A → List B) (n : A → ℕ) {xs : List A} → All (λ x. length (f x) ≤ n x) xs
    → length (combinations (map f xs)) ≤ foldr ◌*◌ 1 (map n xs)
combinations-bound f n All.nil = omega arith
combinations-bound f n (All.cons {x} {xs} h hs) = rw (length_pairs (f x) (combinations (map f xs))) (mul-le-mul h (combinations-bound f n hs))

-- one hull for each pair of ranges
pub length-hulls : (as' bs : List Range) → length (hulls as' bs) ≡ min (length as') (length bs)
length-hulls [] bs = omega arith
length-hulls (a ∷ as') [] = omega arith
length-hulls (a ∷ as') (b ∷ bs) = omega (arith, length-hulls as' bs)

-- as many columns as the left, unless the right has fewer
pub length-set_ranges : (op : SetOperation) (as' bs : List Range)
    → (length (set_ranges op as' bs) ≤ length as') × (length as' ≤ length bs → length (set_ranges op as' bs) ≡ length as')
length-set_ranges SetOperation.union as' bs = let h = length-hulls as' bs in (omega arith, λ l. omega arith)
length-set_ranges SetOperation.intersection as' bs = (omega arith, λ l. omega arith)

-- a row bound grows with those that it is made of
pub set_bound-more : (op : SetOperation) {a b c d : ℕ} → a ≤ c → b ≤ d → set_bound op a b ≤ set_bound op c d
set_bound-more SetOperation.union h k = omega arith
set_bound-more SetOperation.intersection h k = omega arith

module _ {A : Type 0} where
  pub length-keep : (p : A → Bool) (xs : List A) → length (keep p xs) ≤ length xs
  length-keep p [] = omega arith
  length-keep p (x ∷ xs) = let h = length-keep p xs in by-test (p x) (λ e. rw e (omega arith)) (λ e. rw e (omega arith))

  -- an element that passes the test is kept
  pub keep_some : (p : A → Bool) {xs : List A} → Any (λ x. p x ≡ true) xs → 0 < length (keep p xs)
  keep_some p (Any.here e) = rw e (omega arith)
  keep_some p (Any.there {x} a) = let h = keep_some p a in by-test (p x) (λ e. rw e (omega arith)) (λ e. rw e h)

  module _ (E : Test A) where
    pub length-firsts : (xs : List A) → length (firsts E xs) ≤ length xs
    length-firsts [] = omega arith
    length-firsts (x ∷ xs) = omega (arith, length-keep (λ y. not (E.same x y)) (firsts E xs), length-firsts xs)

    length-remove : (x : A) (ys : List A) → is_pos (count E x ys) ≡ true → suc (length (remove E x ys)) ≡ length ys
    length-remove x [] h = absurd (true≢false (sym h))
    length-remove x (y ∷ ys) h = by-test (E.same x y)
        (λ e. rw e)
        (λ e. let k : is_pos (count E x ys) ≡ true = rw e at h in rw e (let l = length-remove x ys k in omega arith))

    pub length-common : (xs ys : List A) → length (common E xs ys) ≤ min (length xs) (length ys)
    length-common [] ys = omega arith
    length-common (x ∷ xs) ys = by-test (is_pos (count E x ys))
        (λ e. rw e (omega (arith, length-remove x ys e, length-common xs (remove E x ys))))
        (λ e. rw e (omega (arith, length-common xs ys)))
