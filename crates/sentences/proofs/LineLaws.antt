-- The first line of a text and what stands behind it, by the place of the first LF. Assumes nothing.
use mathlib.Core.Path.{◌≡◌, refl, sym, ap, ◌∙◌}
use mathlib.Core.Bool.{Bool, true, false, cond}
use mathlib.Core.List.{List, [], ◌∷◌}
use Prim.Native.Nat.{ℕ, zero, suc, ◌+◌, ◌≤◌}
use native.Mathlib.Omega.{arith}
use borrow.Author.Tests.{ltb-false}
use lib.Dec.{ltb, eqb}
use lib.ListN.{length, take, drop}
use Rattle.std.specs.Prelude.{Option, Some, None}
use Rattle.std.specs.List.{position_or_len}
use Rattle.std.proofs.lemmas.List.Recursion.{is_position_or_len}
use Rattle.value.proofs.Decides.{by-test}
use Rattle.sentences.specs.SheetOf.{first_line, past_line}
use Rattle.sentences.specs.Pieces.{past_lines}

-- ---- by recursion

break_at : List ℕ → ℕ
break_at [] = 0
break_at (c ∷ cs) = cond (eqb c 10) 0 (1 + break_at cs)

taken : (t : List ℕ) → take (break_at t) t ≡ first_line t
unfolding first_line break_at
taken [] = refl
taken (c ∷ cs) = by-test (eqb c 10) (λ e. rw e refl) (λ e. let n : 1 + break_at cs ≡ suc (break_at cs) = omega arith in rw (e, n) (ap (λ (l : List ℕ). c ∷ l) (taken cs)))

passed : (t : List ℕ) → drop (suc (break_at t)) t ≡ past_line t
unfolding past_line break_at
passed [] = refl
passed (c ∷ cs) = by-test (eqb c 10) (λ e. rw e refl) (λ e. let n : 1 + break_at cs ≡ suc (break_at cs) = omega arith in rw (e, n) (passed cs))

take-whole : (t : List ℕ) (n : ℕ) → length t ≤ n → take n t ≡ t
take-whole [] zero h = refl
take-whole [] (suc n) h = refl
take-whole (c ∷ cs) zero h = absurd (omega arith)
take-whole (c ∷ cs) (suc n) h = ap (λ (l : List ℕ). c ∷ l) (take-whole cs n (omega arith))

drop-whole : (t : List ℕ) (n : ℕ) → length t ≤ n → drop n t ≡ []
drop-whole [] zero h = refl
drop-whole [] (suc n) h = refl
drop-whole (c ∷ cs) zero h = absurd (omega arith)
drop-whole (c ∷ cs) (suc n) h = drop-whole cs n (omega arith)

-- ---- as `position` answers

abbrev pub is_break : ℕ → Bool
is_break b = eqb b 10

abbrev pub found : List ℕ → Option ℕ
found t = cond (ltb (position_or_len is_break t) (length t)) (Some (position_or_len is_break t)) None

module _ (t : List ℕ) where
  here : position_or_len is_break t ≡ break_at t
  unfolding break_at
  here = sym (is_position_or_len break_at is_break refl (λ x xs. refl) t)

  placed : {i : ℕ} (b : Bool) → cond b (Some (position_or_len is_break t)) None ≡ Some i → i ≡ break_at t
  placed true e = sym (cc) ∙ here
  placed false e = absurd (cc)

  lacking : (b : Bool) → ltb (position_or_len is_break t) (length t) ≡ b → cond b (Some (position_or_len is_break t)) None ≡ None → length t ≤ break_at t
  lacking true s e = absurd (cc)
  lacking false s e = omega (arith, ltb-false _ _ s, here)

  module _ {i : ℕ} (e : found t ≡ Some i) where
    at : i ≡ break_at t
    at = placed _ e

    pub line-taken : take i t ≡ first_line t
    line-taken = rw at (taken t)

    pub line-passed : drop (i + 1) t ≡ past_line t
    line-passed = let n : i + 1 ≡ suc (break_at t) = omega (arith, at) in rw n (passed t)

  module _ (e : found t ≡ None) where
    pub line-whole : t ≡ first_line t
    line-whole = sym (take-whole t (break_at t) (lacking _ refl e)) ∙ taken t

    pub line-last : [] ≡ past_line t
    line-last = let h = lacking _ refl e in sym (drop-whole t (suc (break_at t)) (omega arith)) ∙ passed t

-- ---- no text, no lines

pub past-nothing : (k : ℕ) → past_lines k [] ≡ []
unfolding past_lines past_line
past-nothing zero = refl
past-nothing (suc k) = past-nothing k
