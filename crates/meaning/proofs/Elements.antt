-- What holds of each element, of some element and of two lists element by element. Assumes nothing.
use mathlib.Core.Path.{◌≡◌, refl}
use mathlib.Core.Bool.{Bool, true, not}
use mathlib.Core.List.{List, [], ◌∷◌, ◌++◌, map}
use Prim.Native.Nat.{ℕ, zero, suc, ◌<◌}
use native.Mathlib.Omega.{arith}
use lib.ListN.{length, get_or, take}
use Rattle.value.specs.Bag.{Test, All, count, remove}
use Rattle.value.proofs.Decides.{by-test, and_parts}
use Rattle.value.proofs.Values.{all_map}
use Rattle.meaning.specs.Lists.{Any, Each, all, is_pos, joined, keep, firsts, common, pairs, combinations}

-- ---- each element

pub all-test : {A : Type 0} (p : A → Bool) (xs : List A) → all p xs ≡ true → All (λ x. p x ≡ true) xs
all-test p [] e = All.nil
all-test p (x ∷ xs) e = let (h, k) = and_parts (p x) (all p xs) e in All.cons h (all-test p xs k)

pub all-given : {A : Type 0} {P : A → Type 0} → ((x : A) → P x) → (xs : List A) → All P xs
all-given f [] = All.nil
all-given f (x ∷ xs) = All.cons (f x) (all-given f xs)

pub all_both : {A : Type 0} {P Q : A → Type 0} {xs : List A} → All P xs → All Q xs → All (λ x. P x × Q x) xs
all_both All.nil All.nil = All.nil
all_both (All.cons p ps) (All.cons q qs) = All.cons (p, q) (all_both ps qs)

-- of the images under a function
pub all-image : {A B : Type 0} (f : A → B) {P : A → Type 0} {Q : B → Type 0} {xs : List A} → ((x : A) → P x → Q (f x)) → All P xs → All Q (map f xs)
all-image f g All.nil = All.nil
all-image f g (All.cons {x} p ps) = All.cons (g x p) (all-image f g ps)

-- functions that agree on each element
pub map_same : {A B : Type 0} (f g : A → B) {xs : List A} → All (λ x. f x ≡ g x) xs → map f xs ≡ map g xs
map_same f g All.nil = refl
map_same f g (All.cons e es) = rw (e, map_same f g es)

module _ {A : Type 0} {P : A → Type 0} where
  pub all_append : {xs ys : List A} → All P xs → All P ys → All P (xs ++ ys)
  all_append All.nil qs = qs
  all_append (All.cons p ps) qs = All.cons p (all_append ps qs)

  pub all-before : (xs ys : List A) → All P (xs ++ ys) → All P xs
  all-before [] ys ps = All.nil
  all-before (x ∷ xs) ys (All.cons p ps) = All.cons p (all-before xs ys ps)

  pub all-behind : (xs : List A) {ys : List A} → All P (xs ++ ys) → All P ys
  all-behind [] ps = ps
  all-behind (x ∷ xs) (All.cons p ps) = all-behind xs ps

  pub all_here : (xs : List A) (x : A) (ys : List A) → All P (xs ++ (x ∷ ys)) → P x
  all_here [] x ys (All.cons p ps) = p
  all_here (y ∷ xs) x ys (All.cons p ps) = all_here xs x ys ps

  -- by number
  pub all-at : {xs : List A} → All P xs → (d : A) (i : ℕ) → i < length xs → P (get_or xs i d)
  all-at All.nil d i h = absurd (omega arith)
  all-at (All.cons p ps) d zero h = p
  all-at (All.cons p ps) d (suc i) h = all-at ps d i (omega arith)

  pub all_take : (n : ℕ) {xs : List A} → All P xs → All P (take n xs)
  all_take zero ps = All.nil
  all_take (suc n) All.nil = All.nil
  all_take (suc n) (All.cons p ps) = All.cons p (all_take n ps)

  pub all_keep : (p : A → Bool) {xs : List A} → All P xs → All P (keep p xs)
  all_keep p All.nil = All.nil
  all_keep p (All.cons {x} q qs) = by-test (p x) (λ e. rw e (All.cons q (all_keep p qs))) (λ e. rw e (all_keep p qs))

  pub all_firsts : (E : Test A) {xs : List A} → All P xs → All P (firsts E xs)
  all_firsts E All.nil = All.nil
  all_firsts E (All.cons {x} q qs) = All.cons q (all_keep (λ y. not (E.same x y)) (all_firsts E qs))

  pub all-common : (E : Test A) {xs : List A} (ys : List A) → All P xs → All P (common E xs ys)
  all-common E ys All.nil = All.nil
  all-common E ys (All.cons {x} q qs) = by-test (is_pos (count E x ys))
      (λ e. rw e (All.cons q (all-common E (remove E x ys) qs)))
      (λ e. rw e (all-common E ys qs))

-- of lists one behind the other
pub all-joined : {A B : Type 0} {f : A → List B} {P : B → Type 0} {xs : List A} → All (λ x. All P (f x)) xs → All P (joined (map f xs))
all-joined All.nil = All.nil
all-joined (All.cons p ps) = all_append p (all-joined ps)

-- ---- some element

pub any-map : {A : Type 0} {P Q : A → Type 0} {xs : List A} → ((x : A) → P x → Q x) → Any P xs → Any Q xs
any-map f (Any.here {x} p) = Any.here (f x p)
any-map f (Any.there a) = Any.there (any-map f a)

module _ {A : Type 0} where
  -- what holds of each holds of the one that is found
  pub any-all : {P Q : A → Type 0} {C : Type 0} {xs : List A} → All P xs → Any Q xs → ((x : A) → P x → Q x → C) → C
  any-all (All.cons {x} p ps) (Any.here q) f = f x p q
  any-all (All.cons p ps) (Any.there a) f = any-all ps a f
  any-all All.nil a f = elim a [ ]

  -- each element is in the list
  pub all-self : (xs : List A) → All (λ x. Any (◌≡◌ x) xs) xs
  all-self [] = All.nil
  all-self (x ∷ xs) = All.cons (Any.here refl) (all_map (λ y a. Any.there a) (all-self xs))

  -- what holds of each element holds of those that come from them
  pub all_from : {P : A → Type 0} {xs ys : List A} → All P xs → All (λ y. Any (◌≡◌ y) xs) ys → All P ys
  all_from {P} ps as' = all_map (λ y a. any-all ps a (λ x p e. rw e p)) as'

-- ---- two lists, element by element

module _ {A B : Type 0} {P : A → B → Type 0} where
  pub each_append : {xs xs' : List A} {ys ys' : List B} → Each P xs ys → Each P xs' ys' → Each P (xs ++ xs') (ys ++ ys')
  each_append Each.nil q = q
  each_append (Each.cons p ps) q = Each.cons p (each_append ps q)

  -- past the end too, where it holds of what stands for a missing element
  pub each_at : (a : A) (b : B) → P a b → {xs : List A} {ys : List B} → Each P xs ys → (i : ℕ) → P (get_or xs i a) (get_or ys i b)
  each_at a b d Each.nil i = d
  each_at a b d (Each.cons p ps) zero = p
  each_at a b d (Each.cons p ps) (suc i) = each_at a b d ps i

pub each-image : {A A' B : Type 0} (f : A → A') {P : A → B → Type 0} {Q : A' → B → Type 0} → ((x : A) (y : B) → P x y → Q (f x) y)
    → {xs : List A} {ys : List B} → Each P xs ys → Each Q (map f xs) ys
each-image f g Each.nil = Each.nil
each-image f g (Each.cons {x} {y} p ps) = Each.cons (g x y p) (each-image f g ps)

-- of one list under two functions
pub each-images : {A B C : Type 0} {P : B → C → Type 0} (f : A → B) (g : A → C) {xs : List A} → All (λ x. P (f x) (g x)) xs → Each P (map f xs) (map g xs)
each-images f g All.nil = Each.nil
each-images f g (All.cons p ps) = Each.cons p (each-images f g ps)

-- ---- combinations

module _ {A B : Type 0} {P : A → B → Type 0} where
  all-pairs : {x : A} {xs : List A} {R : List B} {C : List (List B)} → All (P x) R → All (Each P xs) C → All (Each P (x ∷ xs)) (pairs R C)
  all-pairs All.nil cs = All.nil
  all-pairs (All.cons {x = r} p ps) cs = all_append (all-image (◌∷◌ r) (λ m q. Each.cons p q) cs) (all-pairs ps cs)

  -- the elements of a combination lie where those of its lists lie
  pub all-combinations : {xs : List A} {Rs : List (List B)} → Each (λ x R. All (P x) R) xs Rs → All (Each P xs) (combinations Rs)
  all-combinations Each.nil = All.cons Each.nil All.nil
  all-combinations (Each.cons p ps) = all-pairs p (all-combinations ps)
