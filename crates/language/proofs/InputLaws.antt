-- The first 8,193 bytes of a text settle its output, and no fewer do. Assumes nothing.
use mathlib.Core.Path.{◌≡◌, refl, sym, ap, ◌∙◌}
use mathlib.Core.List.{List, [], ◌∷◌}
use Prim.Native.Nat.{ℕ, zero, suc, ◌≤◌, ◌<◌}
use native.Mathlib.Omega.{arith}
use borrow.Author.Tests.{ltb-true, ltb-false}
use lib.Dec.{ltb}
use lib.ListN.{length, take, replicate, length-take, length-replicate}
use lib.Seq.{take_all}
use Rattle.value.proofs.Decides.{by-test}
use Rattle.text.specs.Text.{lines_of}
use Rattle.text.proofs.Refusals.{empty-refused, long-refused, lines-within}
use Rattle.text.proofs.Runs.{run-empty}
use Rattle.language.specs.Check.{Outcome}
use Rattle.language.specs.FileOf.{file_of, outcome_of}
use Rattle.language.specs.OutputOf.{output_of, input_room}
use Rattle.language.specs.Told.{Told, read_back, Says}
use Rattle.language.proofs.Program.{says-only}

-- a text over 8,192 bytes, whatever they are
long-text : (text : List ℕ) → 8192 < length text → file_of text ≡ Outcome.refused 1 0
unfolding file_of
long-text text h = ap outcome_of (long-refused text h)

no_text : (text : List ℕ) → length text ≡ 0 → file_of text ≡ Outcome.refused 1 0
unfolding file_of
no_text text h = ap outcome_of (empty-refused text h)

-- a text cut behind 8,193 bytes or more has the same output
pub input-cut : (n : ℕ) (text : List ℕ) → input_room ≤ n → output_of (take n text) ≡ output_of text
input-cut n text h =
    by-test (ltb 8192 (length text))
    (λ t.
    let long : 8192 < length text = ltb-true _ _ t in
    let cut : 8192 < length (take n text) = omega (arith, length-take n text) in
    (says-only (take n text) (Says.refused (long-text (take n text) cut))).0 ∙ sym (says-only text (Says.refused (long-text text long))).0)
    (λ t. ap output_of (take_all n text (omega (arith, ltb-false 8192 (length text) t))))

-- ---- and no fewer would do

-- an empty line at the front
empty-line : (xs : List ℕ) → length xs < 8192 → file_of (10 ∷ xs) ≡ Outcome.refused 2 1
unfolding file_of lines_of
empty-line xs h = ap outcome_of (lines-within (10 ∷ xs) (λ e. omega arith) (omega arith) ∙ run-empty [] [] 10 xs refl refl)

apart : (s t : List ℕ) → file_of s ≡ Outcome.refused 2 1 → file_of t ≡ Outcome.refused 1 0 → output_of s ≡ output_of t → ⊥
apart s t a b e =
    let (p, x) = says-only s (Says.refused a) in
    let (q, y) = says-only t (Says.refused b) in
    let same : Told.refused 2 1 ≡ Told.refused 1 0 = sym x ∙ ap read_back (sym p ∙ e ∙ q) ∙ y in
    let z : ◌≡◌ {A = ℕ} 2 1 = cc in
    omega arith

-- each shorter cut changes some output: that of an empty line, which is then not seen, or of a text that is too long
pub input-least : (n : ℕ) → n < input_room → (text : List ℕ) × ¬ (output_of (take n text) ≡ output_of text)
input-least zero h = (10 ∷ [], λ e. apart (10 ∷ []) [] (empty-line [] (omega arith)) (no_text [] refl) (sym e))
input-least (suc n) h =
    let rest : List ℕ = replicate 8192 10 in
    (10 ∷ rest, apart (10 ∷ take n rest) (10 ∷ rest) (empty-line (take n rest) (omega (arith, length-take n rest))) (long-text (10 ∷ rest) (omega (arith, length-replicate {A = ℕ} 8192 10))))
