-- The sheet of any text: nothing where it is accepted, and else two lines, of which each gives number and line back. Assumes nothing.
use mathlib.Core.Path.{◌≡◌, refl, sym, ap, ◌∙◌}
use mathlib.Core.Bool.{◌&&◌}
use mathlib.Core.List.{List, [], ◌∷◌, ◌++◌}
use Prim.Native.Nat.{ℕ, zero, suc, ◌+◌, ◌/◌, ◌%◌, ◌≤◌, ◌<◌}
use native.Mathlib.Omega.{arith}
use borrow.Author.Tests.{ne_eqb}
use lib.Dec.{ltb, eqb}
use lib.ListN.{length, get_or, take, length-append}
use Rattle.value.specs.Bag.{All}
use Rattle.value.proofs.Decides.{by-test}
use Rattle.meaning.proofs.Elements.{all_append, all-before, all-behind}
use Rattle.meaning.specs.Syntax.{File}
use Rattle.text.specs.Text.{text_of}
use Rattle.language.specs.Check.{Outcome}
use Rattle.language.specs.FileOf.{file_of}
use Rattle.language.specs.OutputOf.{refusal_frame, output_of, input_room}
use Rattle.language.specs.Told.{Told, read_back, Says}
use Rattle.language.proofs.Refusals.{refusal-limits}
use Rattle.language.proofs.ReadBack.{refusal-back}
use Rattle.language.proofs.Program.{says, says-only}
use Rattle.language.proofs.InputLaws.{input-cut}
use Rattle.sentences.specs.Words.{Language}
use Rattle.sentences.specs.English.{english}
use Rattle.sentences.specs.French.{french}
use Rattle.sentences.specs.Sentence.{figures_of, said, sentence, back}
use Rattle.sentences.specs.SheetOf.{in_lines, both_sentences, sheet_by, sheet_of, first_line, past_line, SheetSays}
use Rattle.sentences.specs.Pieces.{pieces}
use Rattle.sentences.proofs.PieceLaws.{Unbroken, english-unbroken, french-unbroken, line_of}
use Rattle.sentences.proofs.SentenceBack.{sentence-back}
use Rattle.sentences.proofs.RoomLaws.{both-room}

-- ---- no sentence has a LF in it

figure-unbroken : (d : ℕ) → Unbroken ((d + 48) ∷ [])
figure-unbroken d = All.cons {x = d + 48} (rw (ne_eqb (d + 48) 10 (λ e. omega arith)) refl) All.nil

figures-unbroken : (k n : ℕ) → Unbroken (figures_of k n)
unfolding figures_of
figures-unbroken zero n = All.nil
figures-unbroken (suc k) n =
    by-test (ltb n 10) (λ t. rw t (figure-unbroken n)) (λ t. rw t (all_append (figures-unbroken k (n / 10)) (figure-unbroken (n % 10))))

-- an entry that is not there is empty
entry-unbroken : {ts : List (List ℕ)} → All Unbroken ts → (i : ℕ) → Unbroken (get_or ts i [])
entry-unbroken All.nil i = All.nil
entry-unbroken (All.cons h hs) zero = h
entry-unbroken (All.cons h hs) (suc i) = entry-unbroken hs i

module _ (w : Language) (n : ℕ) where
  said-unbroken : {ts : List (List ℕ)} → All Unbroken ts → Unbroken w.close → Unbroken (said w ts n)
  said-unbroken {ts} h c =
      by-test (ltb 0 n && ltb n (length ts)) (λ k. rw k (entry-unbroken h n))
      (λ k. rw k (all_append (all_append (entry-unbroken h 0) (figures-unbroken 5 n)) c))

  sentence-unbroken : All Unbroken (pieces w) → (l : ℕ) → Unbroken (sentence w n l)
  unfolding sentence
  sentence-unbroken (All.cons a (All.cons b (All.cons c ts))) l =
      by-test (eqb l 0) (λ k. rw k (said-unbroken (all-before w.alone w.there ts) c))
      (λ k. rw k (all_append (all_append (all_append a (figures-unbroken 5 l)) b) (said-unbroken (all-behind w.alone ts) c)))

-- ---- both sentences, line by line

module _ (n l : ℕ) where
  english-line : let s = both_sentences n l in (first_line s ≡ sentence english n l) × (past_line s ≡ sentence french n l ++ 10 ∷ [])
  unfolding both_sentences in_lines
  english-line = line_of (sentence french n l ++ 10 ∷ []) (sentence-unbroken english n english-unbroken l)

  first-sentence : first_line (both_sentences n l) ≡ sentence english n l
  first-sentence = english-line.0

  second-sentence : first_line (past_line (both_sentences n l)) ≡ sentence french n l
  second-sentence = ap first_line english-line.1 ∙ (line_of [] (sentence-unbroken french n french-unbroken l)).0

  both_some : both_sentences n l ≡ [] → ⊥
  unfolding both_sentences in_lines
  both_some e = omega (arith, sym (length-append (sentence english n l) (10 ∷ (sentence french n l ++ 10 ∷ []))) ∙ ap length e)

-- ---- the sheet of a text

module _ (text : List ℕ) where
  sheet-by : {out : List ℕ} {x : Told} → Says text out x → sheet_of text ≡ sheet_by x
  unfolding sheet_of
  sheet-by s = let (p, q) = says-only text s in ap (λ (o : List ℕ). sheet_by (read_back o)) p ∙ ap sheet_by q

  pub sheet-refused : {n l : ℕ} → file_of text ≡ Outcome.refused n l → sheet_of text ≡ both_sentences n l
  sheet-refused e = sheet-by (Says.refused e)

  not-both : {n l : ℕ} {F : File} → file_of text ≡ Outcome.refused n l → file_of text ≡ Outcome.accepted F → ⊥
  not-both e f = let z : ◌≡◌ {A = ℕ} 0 1 = cc in omega arith

  none_said : {out : List ℕ} {x : Told} {F : File} → Says text out x → file_of text ≡ Outcome.accepted F → sheet_of text ≡ []
  none_said (Says.refused e) f = absurd (not-both e f)
  none_said (Says.none e g) f = sheet-by (Says.none e g)
  none_said (Says.first e g) f = sheet-by (Says.first e g)

  pub sheet-accepted : {F : File} → file_of text ≡ Outcome.accepted F → sheet_of text ≡ []
  sheet-accepted e = none_said (says text) e

  -- a text with that output is refused so
  printed-refused : {n l : ℕ} → n < 256 → l < 65536 → output_of text ≡ text_of (refusal_frame n l ∷ []) → sheet_of text ≡ both_sentences n l
  unfolding sheet_of
  printed-refused {n} {l} h k e = ap (λ (o : List ℕ). sheet_by (read_back o)) e ∙ ap sheet_by (refusal-back n l h k)

  backs : {n l : ℕ} → n < 256 → l < 65536 → sheet_of text ≡ both_sentences n l
      → (back english (first_line (sheet_of text)) ≡ (n, l)) × (back french (first_line (past_line (sheet_of text))) ≡ (n, l))
  backs {n} {l} h k e = (
    ap (λ (s : List ℕ). back english (first_line s)) e ∙ ap (back english) (first-sentence n l) ∙ sentence-back 0 n l h k,
    ap (λ (s : List ℕ). back french (first_line (past_line s))) e ∙ ap (back french) (second-sentence n l) ∙ sentence-back 1 n l h k,
  )

  sheet-of : (o : Outcome) → file_of text ≡ o → SheetSays text
  sheet-of (Outcome.accepted F) e =
      let z : sheet_of text ≡ [] = sheet-accepted e in
      record {
        empty = (λ _. (F, e), λ _. z);
        printed = λ {n} {l} h k p. absurd (both_some n l (sym (printed-refused h k p) ∙ z));
        gives_back = λ f. absurd (f z);
      }
  sheet-of (Outcome.refused n l) e =
      let (low, high, k) = refusal-limits text n l e in
      let h : n < 256 = omega arith in
      let z : sheet_of text ≡ both_sentences n l = sheet-refused e in
      let b : back english (first_line (sheet_of text)) ≡ (n, l) = (backs h k z).0 in
      record {
        empty = (λ s. absurd (both_some n l (sym z ∙ s)), λ f. absurd (not-both e f.1));
        printed = λ h' k' p. let s = printed-refused h' k' p in let (x, y) = backs h' k' s in (s, x, y);
        gives_back = λ f. (says-only text (Says.refused e)).0 ∙ ap (λ (x : ℕ × ℕ). text_of (refusal_frame x.0 x.1 ∷ [])) (sym b);
      }

  pub sheet-says : SheetSays text
  sheet-says = sheet-of (file_of text) refl

-- the first 8,193 bytes of a text settle its sheet
pub sheet-cut : (n : ℕ) (text : List ℕ) → input_room ≤ n → sheet_of (take n text) ≡ sheet_of text
unfolding sheet_of
sheet-cut n text h = ap (λ (o : List ℕ). sheet_by (read_back o)) (input-cut n text h)

-- room for any sheet
pub sheet-room : (text : List ℕ) → length (sheet_of text) ≤ 1026
sheet-room text = go (file_of text) refl
  where
    go : (o : Outcome) → file_of text ≡ o → length (sheet_of text) ≤ 1026
    go (Outcome.accepted F) e = omega (arith, ap length (sheet-accepted text e))
    go (Outcome.refused n l) e = omega (arith, ap length (sheet-refused text e), both-room n l)
