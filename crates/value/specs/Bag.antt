-- Lists counted as bags: of a bag only the multiplicities of its elements count. Assumes nothing: these are definitions.
use Rattle.std.specs.Prelude.{◌≡◌, Bool, true, false, cond, ℕ, zero, suc}
use mathlib.Core.List.{List, [], ◌∷◌, foldr}

-- a test of equality that computes
pub record Test (A : Type 0) : Type 0 where
  pub same : A → A → Bool
  pub sound : (a b : A) → same a b ≡ true → a ≡ b
  pub self : (a : A) → same a a ≡ true

-- each element has the property
pub data All {A : Type 0} (P : A → Type 0) : List A → Type 0 where
  nil : All P []
  cons : {x : A} {xs : List A} → P x → All P xs → All P (x ∷ xs)

-- one more if the test holds
abbrev pub tick : Bool → ℕ → ℕ
tick true n = suc n
tick false n = n

-- how many elements pass a test
abbrev pub count_if : {A : Type 0} → (A → Bool) → List A → ℕ
count_if p = foldr (λ x. tick (p x)) zero

module _ {A : Type 0} (E : Test A) where
  -- the multiplicity of an element
  abbrev pub count : A → List A → ℕ
  count a = count_if (E.same a)

  -- two lists are one bag
  pub record Same (R S : List A) : Type 0 where
    pub at : (a : A) → count a R ≡ count a S

  -- without the first occurrence of a
  abbrev pub remove : A → List A → List A
  remove a [] = []
  remove a (x ∷ xs) = cond (E.same a x) xs (x ∷ remove a xs)
