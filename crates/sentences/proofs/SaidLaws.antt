-- The parts of a sentence, in the order in which they are put. Assumes nothing.
use mathlib.Core.Path.{◌≡◌, refl, ap, ◌∙◌}
use mathlib.Core.Bool.{Bool, true, false, ◌&&◌, cond}
use mathlib.Core.List.{List, [], ◌++◌}
use Prim.Native.Nat.{ℕ, ◌<◌}
use borrow.Author.Tests.{ltb-true, eq-eqb, ne_eqb}
use lib.Dec.{ltb}
use lib.ListN.{length, get_or}
use Rattle.value.proofs.Decides.{and_parts}
use Rattle.sentences.specs.Words.{Language}
use Rattle.sentences.specs.Sentence.{figures, said, sentence}
use Rattle.sentences.specs.Languages.{language_in, texts_in}
use Rattle.sentences.specs.declared.Language.{Language as Tongue}
use Rattle.sentences.specs.declared.Place.{Place}
use Rattle.sentences.proofs.PieceLaws.{entries}

-- ---- the sentence of a refusal

module _ (t : Tongue) (p : Place) (n : ℕ) where
  abbrev own : List (List ℕ)
  own = texts_in p (language_in t)

  abbrev known : Bool
  known = ltb 0 n && ltb n 19

  pub known_small : known ≡ true → n < 19
  known_small e = ltb-true n 19 (and_parts (ltb 0 n) (ltb n 19) e).1

  said-by : {b : Bool} → known ≡ b → said (language_in t) own n ≡ cond b (get_or own n []) (get_or own 0 [] ++ figures n ++ (language_in t).close)
  said-by {b} e =
      let l : (ltb 0 n && ltb n (length own)) ≡ b = ap (λ (k : ℕ). ltb 0 n && ltb n k) (entries t p) ∙ e in
      rw l refl

  pub said-known : known ≡ true → said (language_in t) own n ≡ get_or own n []
  said-known e = said-by e

  pub said-other : known ≡ false → said (language_in t) own n ≡ get_or own 0 [] ++ figures n ++ (language_in t).close
  said-other e = said-by e

-- ---- with a line, and without

module _ (w : Language) (n l : ℕ) where
  pub sentence-alone : l ≡ 0 → sentence w n l ≡ said w w.alone n
  unfolding sentence
  sentence-alone e = rw (eq-eqb l 0 e) refl

  pub sentence-there : (l ≡ 0 → ⊥) → sentence w n l ≡ w.line ++ figures l ++ w.colon ++ said w w.there n
  unfolding sentence
  sentence-there e = rw (ne_eqb l 0 e) refl
