-- What stands at a place of a list, and what follows it; of bytes, whose default is 0. Assumes nothing.
use mathlib.Core.Path.{◌≡◌, refl, sym, ap, ◌∙◌}
use mathlib.Core.List.{List, ◌∷◌}
use Prim.Native.Nat.{ℕ, zero, suc, ◌+◌, ◌<◌}
use native.Mathlib.Numerals.{add-one}
use native.Mathlib.Omega.{arith}
use lib.ListN.{length, get_or, drop, replicate}
use lib.Seq.{drop-cons, drop-drop, get_or-drop}

module _ {A : Type 0} where
  pub first-behind : (l : List A) (i : ℕ) (d : A) → get_or (drop i l) 0 d ≡ get_or l i d
  first-behind l i d = get_or-drop i l 0 d ∙ ap (λ k. get_or l k d) (omega arith)

  pub element-here : (l : List A) (i : ℕ) (d : A) {x : A} {xs : List A} → drop i l ≡ x ∷ xs → (get_or l i d ≡ x) × (drop (i + 1) l ≡ xs)
  element-here l i d e = (sym (first-behind l i d) ∙ ap (λ (t : List A). get_or t 0 d) e, sym (drop-drop 1 i l) ∙ ap (drop 1) e)

  -- the same element throughout
  pub get_d-all : (n k : ℕ) (a : A) → get_or (replicate n a) k a ≡ a
  get_d-all zero k a = refl
  get_d-all (suc n) zero a = refl
  get_d-all (suc n) (suc k) a = get_d-all n k a

module _ (bytes : List ℕ) (i : ℕ) where
  pub from_byte : i < length bytes → drop i bytes ≡ get_or bytes i 0 ∷ drop (i + 1) bytes
  from_byte h = rw (add-one, drop-cons bytes i 0)

  pub byte-here : {b : ℕ} {l : List ℕ} → drop i bytes ≡ b ∷ l → (get_or bytes i 0 ≡ b) × (drop (i + 1) bytes ≡ l)
  byte-here e = element-here bytes i 0 e

-- two bytes
pub two_here : (bytes : List ℕ) (i : ℕ) {a b : ℕ} {l : List ℕ} → drop i bytes ≡ a ∷ b ∷ l
    → (get_or bytes i 0 ≡ a) × (get_or bytes (i + 1) 0 ≡ b) × (drop (i + 2) bytes ≡ l)
two_here bytes i e =
    let f = byte-here bytes i e in
    let g = byte-here bytes (i + 1) f.1 in
    let k : i + 2 ≡ i + 1 + 1 = omega arith in
    (f.0, g.0, ap (λ j. drop j bytes) k ∙ g.1)
