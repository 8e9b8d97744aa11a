-- Lists of any elements: what the definitions of views, keys and candidates are made of. Assumes nothing: these are definitions.
use Rattle.std.specs.Prelude.{◌≡◌, refl, Bool, true, false, not, ◌&&◌, ◌||◌, cond, ℕ, zero, suc}
use Rattle.std.proofs.Common.{sym, ap₂, true≢false}
use mathlib.Core.List.{List, [], ◌∷◌, ◌++◌, foldr, map}
use Rattle.value.specs.Bag.{Test, All, count, remove}

-- ---- tests of a list, and what they say

abbrev pub is_pos : ℕ → Bool
is_pos zero = false
is_pos (suc n) = true

-- n if the test holds, else 0
abbrev pub gate : Bool → ℕ → ℕ
gate true n = n
gate false n = zero

abbrev pub all : {A : Type 0} → (A → Bool) → List A → Bool
all p = foldr (λ x. ◌&&◌ (p x)) true

abbrev pub any : {A : Type 0} → (A → Bool) → List A → Bool
any p = foldr (λ x. ◌||◌ (p x)) false

-- some element has the property
pub data Any {A : Type 0} (P : A → Type 0) : List A → Type 0 where
  here : {x : A} {xs : List A} → P x → Any P (x ∷ xs)
  there : {x : A} {xs : List A} → Any P xs → Any P (x ∷ xs)

-- each element with each later one
pub data Pairwise {A : Type 0} (P : A → A → Type 0) : List A → Type 0 where
  nil : Pairwise P []
  cons : {x : A} {xs : List A} → All (P x) xs → Pairwise P xs → Pairwise P (x ∷ xs)

abbrev pub pairwise : {A : Type 0} → (A → A → Bool) → List A → Bool
pairwise p [] = true
pairwise p (x ∷ xs) = all (p x) xs && pairwise p xs

-- two lists of one length, element by element
pub data Each {A B : Type 0} (P : A → B → Type 0) : List A → List B → Type 0 where
  nil : Each P [] []
  cons : {x : A} {y : B} {xs : List A} {ys : List B} → P x y → Each P xs ys → Each P (x ∷ xs) (y ∷ ys)

abbrev pub each : {A B : Type 0} → (A → B → Bool) → List A → List B → Bool
each p [] [] = true
each p [] (y ∷ ys) = false
each p (x ∷ xs) [] = false
each p (x ∷ xs) (y ∷ ys) = p x y && each p xs ys

-- ---- lists compared element by element

and-true : (a b : Bool) → (a && b) ≡ true → (a ≡ true) × (b ≡ true)
and-true true true e = (refl, refl)
and-true true false e = absurd (true≢false (sym e))
and-true false b e = absurd (true≢false (sym e))

module _ {A : Type 0} (E : Test A) where
  pub list-sound : (s t : List A) → each E.same s t ≡ true → s ≡ t
  list-sound [] [] e = refl
  list-sound [] (b ∷ t) e = absurd (true≢false (sym e))
  list-sound (a ∷ s) [] e = absurd (true≢false (sym e))
  list-sound (a ∷ s) (b ∷ t) e =
      let h = and-true (E.same a b) (each E.same s t) e in ap₂ ◌∷◌ (E.sound a b h.0) (list-sound s t h.1)

  pub list-self : (s : List A) → each E.same s s ≡ true
  list-self [] = refl
  list-self (a ∷ s) = rw (E.self a) (list-self s)

  abbrev pub list_test : Test (List A)
  list_test = record { same = each E.same; sound = list-sound; self = list-self }

-- ---- parts of lists

-- the elements that pass a test, in their order
abbrev pub keep : {A : Type 0} → (A → Bool) → List A → List A
keep p [] = []
keep p (x ∷ xs) = cond (p x) (x ∷ keep p xs) (keep p xs)

module _ {A : Type 0} (E : Test A) where
  -- each element once, in order of its first occurrence
  abbrev pub firsts : List A → List A
  firsts [] = []
  firsts (x ∷ xs) = x ∷ keep (λ y. not (E.same x y)) (firsts xs)

  -- each element as often as in both lists, being the earliest of the left
  abbrev pub common : List A → List A → List A
  common [] S = []
  common (r ∷ R) S = cond (is_pos (count E r S)) (r ∷ common R (remove E r S)) (common R S)

-- ---- combinations

-- each element of R before each of C
abbrev pub pairs : {A : Type 0} → List A → List (List A) → List (List A)
pairs [] C = []
pairs (r ∷ R) C = map (◌∷◌ r) C ++ pairs R C

-- one element of each list, the first list slowest
abbrev pub combinations : {A : Type 0} → List (List A) → List (List A)
combinations [] = [] ∷ []
combinations (R ∷ Rs) = pairs R (combinations Rs)

-- ---- a stack

-- each element in turn gives one more, by a step that sees what stands before it
abbrev pub stack : {A B : Type 0} → (List B → A → B) → List A → List B → List B
stack f [] bs = bs
stack f (x ∷ xs) bs = stack f xs (bs ++ (f bs x ∷ []))

-- a test of each element with what stands before it
abbrev pub stack_all : {A B : Type 0} → (List B → A → B) → (List B → A → Bool) → List A → List B → Bool
stack_all f p [] bs = true
stack_all f p (x ∷ xs) bs = p bs x && stack_all f p xs (bs ++ (f bs x ∷ []))

-- f 0, f 1, .., f (n - 1), as a loop that appends makes them
unfoldable pub listed : {A : Type 0} → (ℕ → A) → ℕ → List A
listed f zero = []
listed f (suc n) = listed f n ++ (f n ∷ [])

-- lists one behind the other
abbrev pub joined : {A : Type 0} → List (List A) → List A
joined = foldr ◌++◌ []

-- n copies of a list, one behind the other
abbrev pub copies : {A : Type 0} → ℕ → List A → List A
copies zero xs = []
copies (suc n) xs = xs ++ copies n xs
