-- Laws of bags. The one that the others rest on: a fold whose steps commute depends only on the multiplicities (`fold-bag`). Assumes nothing.
use mathlib.Core.Path.{◌≡◌, refl, ap, ◌∙◌}
use mathlib.Core.Bool.{Bool, true, false, cond}
use mathlib.Core.List.{List, [], ◌∷◌, ◌++◌, foldr}
use Prim.Native.Nat.{ℕ, zero, suc, ◌<◌}
use native.Mathlib.Omega.{arith}
use Rattle.value.specs.Bag.{Test, tick, count, Same, remove}
use Rattle.value.proofs.Decides.{by-test}

pub tick-comm : (a b : Bool) (n : ℕ) → tick a (tick b n) ≡ tick b (tick a n)
tick-comm true true n = refl
tick-comm true false n = refl
tick-comm false true n = refl
tick-comm false false n = refl

-- one more than nothing
pub tick-one : (b : Bool) → tick b 0 ≡ cond b 1 0
tick-one true = refl
tick-one false = refl

tick-inj : (b : Bool) {m n : ℕ} → tick b m ≡ tick b n → m ≡ n
tick-inj true e = omega arith
tick-inj false e = e

-- the steps of a fold may be taken in any order
abbrev pub Commutes : {A B : Type 0} → (A → B → B) → Type 0
Commutes {A} {B} f = (a b : A) (z : B) → f a (f b z) ≡ f b (f a z)

-- one element more at the end, as a loop takes it
pub fold-snoc : {A B : Type 0} (f : A → B → B) → Commutes f → (z : B) (xs : List A) (x : A) → foldr f z (xs ++ (x ∷ [])) ≡ f x (foldr f z xs)
fold-snoc f c z [] x = refl
fold-snoc f c z (y ∷ xs) x = rw (fold-snoc f c z xs x) (c y x (foldr f z xs))

module _ {A : Type 0} (E : Test A) where
  -- an element that occurs can be taken out of a fold
  pub pulled : {B : Type 0} (f : A → B → B) → Commutes f → (z : B) (a : A) (S : List A) → 0 < count E a S
      → foldr f z S ≡ f a (foldr f z (remove E a S))
  pulled f c z a [] h = absurd (omega arith)
  pulled f c z a (x ∷ S) h = by-test (E.same a x)
      (λ e. let ax : a ≡ x = E.sound a x e in rw e (rw ax))
      (λ e. let h' : 0 < count E a S = rw e at h in rw e (rw (pulled f c z a S h') (c x a _)))

  pub nil-only : {S : List A} → Same E [] S → S ≡ []
  nil-only {S = []} h = refl
  nil-only {S = x ∷ S} h = absurd (let e : ◌≡◌ {A = ℕ} 0 (suc (count E x S)) = rw (E.self x) at (h.at x) in omega arith)

  -- the first element is in the other list, and the rest are the rest
  pub same-tail : {x : A} {R S : List A} → Same E (x ∷ R) S → (0 < count E x S) × Same E R (remove E x S)
  same-tail {x} {R} {S} h =
      let e : suc (count E x R) ≡ count E x S = rw (E.self x) at (h.at x) in
      let in-S : 0 < count E x S = omega arith in
      (in-S, record { at = λ a. tick-inj (E.same a x) (h.at a ∙ pulled (λ y. tick (E.same a y)) (λ y w. tick-comm (E.same a y) (E.same a w)) zero x S in-S) })

module _ {A : Type 0} {E : Test A} where
  pub fold-bag : {B : Type 0} (f : A → B → B) → Commutes f → (z : B) {R S : List A} → Same E R S → foldr f z R ≡ foldr f z S
  fold-bag f c z {R = []} {S} h = rw (nil-only E h)
  fold-bag f c z {R = x ∷ R} {S} h =
      let (in-S, rest) = same-tail E h in
      rw (pulled E f c z x S in-S) (ap (f x) (fold-bag f c z {R = R} rest))
