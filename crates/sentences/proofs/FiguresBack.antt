-- Figures are read back: the number that they are of, and what stands behind them. Assumes nothing.
use mathlib.Core.Path.{◌≡◌, refl, sym, ap, ◌∙◌}
use mathlib.Core.Bool.{Bool, true, false, true≢false}
use mathlib.Core.List.{List, [], ◌∷◌, ◌++◌, append_assoc}
use Prim.Native.Nat.{ℕ, zero, suc, ◌+◌, ◌*◌, ◌/◌, ◌%◌, ◌^◌, ◌<◌}
use native.Mathlib.Omega.{arith}
use borrow.Author.Tests.{ltb-true, lt-ltb, le-ltb, eqb-true}
use lib.Dec.{ltb, eqb}
use Rattle.value.proofs.Decides.{by-test}
use Rattle.sentences.specs.Sentence.{figures_of, figure_value, value_from, past_figures}

-- ---- one figure

figure-value : (d : ℕ) → d < 10 → figure_value (d + 48) ≡ d
figure-value d h = rw (le-ltb (d + 48) 48 (omega arith), lt-ltb (d + 48) 58 (omega arith)) (omega arith)

value-cons : (n d : ℕ) (rest : List ℕ) → d < 10 → value_from n ((d + 48) ∷ rest) ≡ value_from (n * 10 + d) rest
unfolding value_from
value-cons n d rest h = rw (figure-value d h, lt-ltb d 10 h)

past-cons : (d : ℕ) (rest : List ℕ) → d < 10 → past_figures ((d + 48) ∷ rest) ≡ past_figures rest
unfolding past_figures
past-cons d rest h = rw (figure-value d h, lt-ltb d 10 h)

-- ---- all of a number

-- the last figure moves to what stands behind
pub value-figures : (k n : ℕ) (rest : List ℕ) → n < 10 ^ k → value_from 0 (figures_of k n ++ rest) ≡ value_from n rest
unfolding figures_of
value-figures zero n rest h = let e : n ≡ 0 = omega arith in rw e
value-figures (suc k) n rest h =
    by-test (ltb n 10) (λ t. rw t (value-cons 0 n rest (ltb-true n 10 t) ∙ ap (λ (m : ℕ). value_from m rest) (omega arith)))
    (λ t. rw (t, append_assoc) (value-figures k (n / 10) ((n % 10 + 48) ∷ rest) (omega arith)
    ∙ value-cons (n / 10) (n % 10) rest (omega arith) ∙ ap (λ (m : ℕ). value_from m rest) (omega arith)))

pub past-figures : (k n : ℕ) (rest : List ℕ) → past_figures (figures_of k n ++ rest) ≡ past_figures rest
unfolding figures_of
past-figures zero n rest = refl
past-figures (suc k) n rest =
    by-test (ltb n 10) (λ t. rw t (past-cons n rest (ltb-true n 10 t)))
    (λ t. rw (t, append_assoc) (past-figures k (n / 10) ((n % 10 + 48) ∷ rest) ∙ past-cons (n % 10) rest (omega arith)))

-- ---- where figures end

-- a first byte that is no figure
unfoldable pub stops : List ℕ → Bool
stops [] = false
stops (c ∷ cs) = eqb (figure_value c) 10

pub value-stops : (n : ℕ) (p rest : List ℕ) → stops p ≡ true → value_from n (p ++ rest) ≡ n
unfolding stops value_from
value-stops n [] rest e = absurd (true≢false (sym e))
value-stops n (c ∷ p) rest e = rw (eqb-true (figure_value c) 10 e)

pub past-stops : (p rest : List ℕ) → stops p ≡ true → past_figures (p ++ rest) ≡ p ++ rest
unfolding stops past_figures
past-stops [] rest e = absurd (true≢false (sym e))
past-stops (c ∷ p) rest e = rw (eqb-true (figure_value c) 10 e)
