-- Digits by cases and back, and the byte at a place of a text. Assumes nothing.
use mathlib.Core.Path.{◌≡◌, refl, ap, ◌∙◌}
use mathlib.Core.Bool.{Bool, true, false, cond}
use mathlib.Core.List.{List, [], ◌∷◌}
use Prim.Native.Nat.{ℕ, suc, ◌+◌, ◌*◌, ◌-◌, ◌/◌, ◌%◌, ◌≤◌, ◌<◌}
use native.Mathlib.Numerals.{add-one, add-two}
use native.Mathlib.Omega.{arith}
use lib.Dec.{ltb, eqb}
use lib.ListN.{length, get_or, drop}
use lib.Seq.{drop-cons}
use borrow.Author.Tests.{lt-ltb, le-ltb, ne_eqb, ltb-true, ltb-false}
use Rattle.value.proofs.Places.{from_byte}
use Rattle.text.specs.Text.{hex_value, hex_digit}
use Rattle.text.specs.Pair.{PairRead, pair_of}

module _ (c : ℕ) where
  pub digit_low : c < 48 → hex_value c ≡ 16
  unfolding hex_value
  digit_low h = simp (lt-ltb c 48 h)

  pub digit-ten : 48 ≤ c → c < 58 → hex_value c ≡ c - 48
  unfolding hex_value
  digit-ten h k = simp (le-ltb c 48 h, lt-ltb c 58 k)

  pub digit-mid : 58 ≤ c → c < 97 → hex_value c ≡ 16
  unfolding hex_value
  digit-mid h k = simp (le-ltb c 48 (omega arith), le-ltb c 58 h, lt-ltb c 97 k)

  pub digit-six : 97 ≤ c → c < 103 → hex_value c ≡ c - 87
  unfolding hex_value
  digit-six h k = simp (le-ltb c 48 (omega arith), le-ltb c 58 (omega arith), le-ltb c 97 h, lt-ltb c 103 k)

  pub digit-high : 103 ≤ c → hex_value c ≡ 16
  unfolding hex_value
  digit-high h = simp (le-ltb c 48 (omega arith), le-ltb c 58 (omega arith), le-ltb c 97 (omega arith), le-ltb c 103 h)

module _ (d : ℕ) where
  pub hex-ten : d < 10 → hex_digit d ≡ d + 48
  unfolding hex_digit
  hex-ten h = simp (lt-ltb d 10 h)

  pub hex-six : 10 ≤ d → hex_digit d ≡ d + 87
  unfolding hex_digit
  hex-six h = simp (le-ltb d 10 h)

-- ---- a digit written is read

module _ (d : ℕ) (h : d < 16) where
  pub digit-of-hex : hex_value (hex_digit d) ≡ d
  unfolding hex_digit
  digit-of-hex = go (ltb d 10) refl
    where
      go : (t : Bool) → ltb d 10 ≡ t → hex_value (cond t (d + 48) (d + 87)) ≡ d
      go true e = let k : d < 10 = ltb-true d 10 e in digit-ten (d + 48) (omega arith) (omega arith) ∙ omega arith
      go false e = let k : 10 ≤ d = ltb-false d 10 e in digit-six (d + 87) (omega arith) (omega arith) ∙ omega arith

  pub hex-no-lf : eqb (hex_digit d) 10 ≡ false
  unfolding hex_digit
  hex-no-lf = go (ltb d 10)
    where
      go : (t : Bool) → eqb (cond t (d + 48) (d + 87)) 10 ≡ false
      go true = ne_eqb (d + 48) 10 (omega arith)
      go false = ne_eqb (d + 87) 10 (omega arith)

pub hex-of-digit : (c : ℕ) → hex_value c < 16 → hex_digit (hex_value c) ≡ c
unfolding hex_value hex_digit
hex-of-digit c = go (ltb c 48) refl (ltb c 58) refl (ltb c 97) refl (ltb c 103) refl
  where
    go : (p : Bool) → ltb c 48 ≡ p → (q : Bool) → ltb c 58 ≡ q → (r : Bool) → ltb c 97 ≡ r → (s : Bool) → ltb c 103 ≡ s
        → let d = cond p 16 (cond q (c - 48) (cond r 16 (cond s (c - 87) 16))) in d < 16 → cond (ltb d 10) (d + 48) (d + 87) ≡ c
    go true e q f r g s i h = absurd (omega arith)
    go false e true f r g s i h = rw (lt-ltb (c - 48) 10 (omega (arith, ltb-true c 58 f))) (omega (arith, ltb-false c 48 e))
    go false e false f true g s i h = absurd (omega arith)
    go false e false f false g true i h = rw (le-ltb (c - 87) 10 (omega (arith, ltb-false c 97 g))) (omega (arith, ltb-false c 97 g))
    go false e false f false g false i h = absurd (omega arith)

-- ---- what stands at a place

module _ (text : List ℕ) (at : ℕ) where
  pub drop-two : at + 1 < length text → drop at text ≡ get_or text at 0 ∷ get_or text (at + 1) 0 ∷ drop (at + 2) text
  drop-two h =
      let k : at < length text = omega arith in
      let l : suc at < length text = omega arith in
      from_byte text at k ∙ ap (λ (r : List ℕ). get_or text at 0 ∷ r) (rw (add-one, add-two, drop-cons text (suc at) 0))

pub pair-short : (text : List ℕ) → length text < 2 → pair_of text ≡ PairRead.refused 2
unfolding pair_of
pair-short [] h = refl
pair-short (a ∷ []) h = refl
pair-short (a ∷ b ∷ rest) h = absurd (omega arith)

module _ (text : List ℕ) (at : ℕ) (long : at + 1 < length text) where
  pair-two : pair_of (drop at text) ≡ pair_of (get_or text at 0 ∷ get_or text (at + 1) 0 ∷ drop (at + 2) text)
  pair-two = ap pair_of (drop-two text at long)

  pub pair-high : 16 ≤ hex_value (get_or text at 0) → pair_of (drop at text) ≡ PairRead.refused 2
  unfolding pair_of
  pair-high h = pair-two ∙ simp (le-ltb _ 16 h)

  pub pair-low : hex_value (get_or text at 0) < 16 → 16 ≤ hex_value (get_or text (at + 1) 0) → pair_of (drop at text) ≡ PairRead.refused 2
  unfolding pair_of
  pair-low h k = pair-two ∙ simp (lt-ltb _ 16 h, le-ltb _ 16 k)

  pub pair-both : hex_value (get_or text at 0) < 16 → hex_value (get_or text (at + 1) 0) < 16
      → pair_of (drop at text) ≡ PairRead.byte (16 * hex_value (get_or text at 0) + hex_value (get_or text (at + 1) 0))
  unfolding pair_of
  pair-both h k = pair-two ∙ simp (lt-ltb _ 16 h, lt-ltb _ 16 k)

pub pair-of-hex : (b : ℕ) (rest : List ℕ) → b < 256 → pair_of (hex_digit (b / 16) ∷ hex_digit (b % 16) ∷ rest) ≡ PairRead.byte b
unfolding pair_of
pair-of-hex b rest h =
    rw (digit-of-hex (b / 16) (omega arith), digit-of-hex (b % 16) (omega arith), lt-ltb (b / 16) 16 (omega arith), lt-ltb (b % 16) 16 (omega arith))
    (ap PairRead.byte (omega arith))
