-- The refusals of texts.
--     refused-when           a text is refused by a number at a line exactly when `Refused` says so
--     refused-once           no text has two refusals
--     accepted-otherwise     a text that has none is accepted
--     refusal-limits         numbers are from 1 to 10, and two bytes hold a line
-- Assumes nothing.
use mathlib.Core.Path.{◌≡◌, refl, sym, ap, subst, subst₂, ◌∙◌}
use mathlib.Core.List.{List, [], ◌∷◌, ◌++◌, append-nil}
use mathlib.Core.Logic.{◌↔◌}
use mathlib.Core.Option.{Option, none, some}
use Prim.Native.Nat.{ℕ, suc, ◌+◌, ◌≤◌, ◌<◌}
use native.Mathlib.Omega.{arith}
use lib.Dec.{leb}
use lib.ListN.{length, length-append}
use borrow.Author.Tests.{lt-leb, leb-false}
use Rattle.value.specs.Bag.{All}
use Rattle.value.proofs.Decides.{by-test}
use Rattle.value.proofs.Values.{all_map}
use Rattle.meaning.specs.Syntax.{Goal, File}
use Rattle.meaning.specs.Candidates.{candidates}
use Rattle.text.specs.Text.{Lines, Gives}
use Rattle.text.proofs.Complete.{gives, gives-only, wrong-few, frames-few}
use Rattle.language.specs.Draft.{Draft, empty, file_at}
use Rattle.language.specs.Check.{Outcome, Checked, Reached, candidate_limit, finished, onward, reach, concluded, check_all}
use Rattle.language.specs.FileOf.{file_of, outcome_of}
use Rattle.language.specs.Legal.{Limits}
use Rattle.language.specs.Refused.{Fault, Sound, Reaches, Refused}
use Rattle.language.proofs.Steps.{Looked, looked, fault-limits, fault-checked, sound-checked}

-- ---- frames in turn, with the lines counted from l

data Ends (d : Draft) (l : ℕ) (fs : List (List ℕ)) : Reached → Type 0 where
  in_frame : (before after : List (List ℕ)) {f : List ℕ} {e : Draft} {n : ℕ} (m : ℕ) → fs ≡ before ++ (f ∷ after) → Reaches d before e → Fault e f n
      → m ≡ length before + l → Ends d l fs (Reached.stopped n m)
  whole : {e : Draft} → Reaches d fs e → Ends d l fs (Reached.came e)

ends-later : {d e : Draft} {l : ℕ} {f : List ℕ} {fs : List (List ℕ)} {x : Reached} → Sound d f e → Ends e (suc l) fs x → Ends d l (f ∷ fs) x
ends-later {f = f} s (Ends.in_frame before after m cut r h q) =
    Ends.in_frame (f ∷ before) after m (ap (λ (gs : List (List ℕ)). f ∷ gs) cut) (Reaches.next s r) h (omega arith)
ends-later s (Ends.whole r) = Ends.whole (Reaches.next s r)

ends-onward : {d : Draft} {f : List ℕ} {c : Checked} {fs : List (List ℕ)} (further : Draft → Reached) (l : ℕ) → 1 ≤ length f → Looked d f c
    → ((e : Draft) → Ends e (suc l) fs (further e)) → Ends d l (f ∷ fs) (onward further l c)
ends-onward {fs = fs} further l full (Looked.fault h k) p = Ends.in_frame [] fs l refl Reaches.here (k full) (omega arith)
ends-onward further l full (Looked.next {i} t) p = ends-later t.sound (p _)

ends : {fs : List (List ℕ)} → All (λ f. 1 ≤ length f) fs → (d : Draft) (l : ℕ) → Ends d l fs (reach fs d l)
unfolding reach
ends All.nil d l = Ends.whole Reaches.here
ends (All.cons {x = f} {xs = fs} h hs) d l = ends-onward (λ e. reach fs e (suc l)) l h (looked d f) (λ e. ends hs e (suc l))

-- frames without a fault lead on
passed : {d e : Draft} {before : List (List ℕ)} → Reaches d before e → (rest : List (List ℕ)) (l m : ℕ) → length before + l ≡ m
    → reach (before ++ rest) d l ≡ reach rest e m
unfolding reach
passed {d = d} Reaches.here rest l m q = let p : l ≡ m = omega arith in ap (reach rest d) p
passed (Reaches.next {d = d} s r) rest l m q = rw (sound-checked d s) (passed r rest (suc l) m (omega arith))

-- a fault stops
stopped : {d : Draft} {f : List ℕ} {n : ℕ} → Fault d f n → (after : List (List ℕ)) (l : ℕ) → reach (f ∷ after) d l ≡ Reached.stopped n l
unfolding reach
stopped {d = d} h after l = rw (fault-checked d h)

-- the end of the frames
module _ {d : Draft} {fs : List (List ℕ)} (r : Reaches empty fs d) where
  all-passed : reach fs empty 1 ≡ Reached.came d
  unfolding reach
  all-passed = ap (λ (gs : List (List ℕ)). reach gs empty 1) (sym (append-nil fs)) ∙ passed r [] 1 (length fs + 1) refl

  finishes : (o : Option Goal) → d.goal ≡ o → check_all fs ≡ finished d o
  finishes o p = ap concluded all-passed ∙ ap (finished d) p

-- ---- texts

module _ (text : List ℕ) where
  from-finished : {fs : List (List ℕ)} {d : Draft} {n l : ℕ} (o : Option Goal) → Gives text (Lines.frames fs) → Reaches empty fs d → d.goal ≡ o
      → finished d o ≡ Outcome.refused n l → Refused text n l
  from-finished {n = n} {l = l} none g r p e = let a : 3 ≡ n = cc in let b : 0 ≡ l = cc in subst₂ (Refused text) a b (Refused.no-goal g r p)
  from-finished {d = d} {n = n} {l = l} (some goal) g r p e = by-test (leb (candidates (file_at d goal)) candidate_limit)
      (λ t. let q : Outcome.accepted (file_at d goal) ≡ Outcome.refused n l = rw t at e in let z : ◌≡◌ {A = ℕ} 0 1 = cc in absurd (omega arith))
      (λ t. let q : Outcome.refused 10 0 ≡ Outcome.refused n l = rw t at e in
      let a : 10 ≡ n = cc in
      let b : 0 ≡ l = cc in
      subst₂ (Refused text) a b (Refused.too_many g r p (leb-false (candidates (file_at d goal)) candidate_limit t)))

  from-ends : {fs : List (List ℕ)} {n l : ℕ} {x : Reached} → Gives text (Lines.frames fs) → Ends empty 1 fs x → concluded x ≡ Outcome.refused n l → Refused text n l
  from-ends {n = n} {l = l} g (Ends.in_frame before after {n = n'} m cut r h q) e =
      let p : n' ≡ n = cc in
      let place : length before + 1 ≡ l = cc in
      subst₂ (Refused text) p place (Refused.in_frame before after (subst (λ (gs : List (List ℕ)). Gives text (Lines.frames gs)) cut g) r h)
  from-ends g (Ends.whole {e = d} r) e = from-finished d.goal g r refl e

  refused-of : {lines : Lines} {n l : ℕ} → Gives text lines → outcome_of lines ≡ Outcome.refused n l → Refused text n l
  refused-of {lines = Lines.frames fs} (Gives.accepted t good one few) e =
      from-ends (Gives.accepted t good one few) (ends (all_map (λ f h. h.some) good) empty 1) e
  refused-of {lines = Lines.refused n' l'} {n = n} {l = l} g e =
      let a : n' ≡ n = cc in
      let b : l' ≡ l = cc in
      subst₂ (Refused text) a b (Refused.in-text g)

  lines_are : {lines : Lines} → Gives text lines → file_of text ≡ outcome_of lines
  unfolding file_of
  lines_are g = ap outcome_of (gives-only g)

  refused-so : {n l : ℕ} → Refused text n l → file_of text ≡ Outcome.refused n l
  refused-so (Refused.in-text g) = lines_are g
  refused-so (Refused.in_frame before after {f} g r h) =
      lines_are g ∙ ap concluded (passed r (f ∷ after) 1 (length before + 1) refl ∙ stopped h after (length before + 1))
  refused-so (Refused.no-goal g r p) = lines_are g ∙ finishes r none p
  refused-so (Refused.too_many {d = d} {g = goal} g r p q) =
      lines_are g ∙ finishes r (some goal) p ∙ rw (lt-leb (candidates (file_at d goal)) candidate_limit q)

  pub refused-when : (n l : ℕ) → (file_of text ≡ Outcome.refused n l) ↔ Refused text n l
  unfolding file_of
  refused-when n l = (refused-of (gives text), refused-so)

  -- one number and one line
  pub refused-once : {n l m k : ℕ} → Refused text n l → Refused text m k → (n ≡ m) × (l ≡ k)
  refused-once {n} {l} {m} {k} a b =
      let p = refused-so a in
      let q = refused-so b in
      (cc, cc)

  -- "A call that meets none of these conditions is accepted"
  pub accepted-otherwise : ((n l : ℕ) → Refused text n l → ⊥) → (F : File) × (file_of text ≡ Outcome.accepted F)
  accepted-otherwise h = go (file_of text) refl
    where
      go : (o : Outcome) → file_of text ≡ o → (F : File) × (file_of text ≡ Outcome.accepted F)
      go (Outcome.accepted F) e = (F, e)
      go (Outcome.refused n l) e = absurd (h n l ((refused-when n l).0 e))

-- ---- their numbers and lines

-- "a line from 1, or line 0 where none is said": a text has at most 8,192
limits : {text : List ℕ} {n l : ℕ} → Refused text n l → Limits 1 10 n × (l ≤ 8192)
limits (Refused.in-text (Gives.empty h)) = (omega arith, omega arith)
limits (Refused.in-text (Gives.long h)) = (omega arith, omega arith)
limits (Refused.in-text (Gives.wrong-line w few)) = (omega arith, omega (arith, wrong-few w))
limits (Refused.in_frame before after {f} {d} g r h) =
    (omega (arith, fault-limits d h), omega (arith, frames-few g, length-append before (f ∷ after)))
limits (Refused.no-goal g r p) = (omega arith, omega arith)
limits (Refused.too_many g r p q) = (omega arith, omega arith)

pub refusal-limits : (text : List ℕ) (n l : ℕ) → file_of text ≡ Outcome.refused n l → (1 ≤ n) × (n ≤ 10) × (l < 65536)
refusal-limits text n l e = let (number, line) = limits ((refused-when text n l).0 e) in (number.least, number.most, omega arith)
