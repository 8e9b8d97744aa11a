-- "Within one language, the sentence alone must give back the pair of number and line, for every refusal number, later ones too, and
-- every line from 0 to 65,535"; and no sentence is one of both languages. Assumes nothing.
use mathlib.Core.Path.{◌≡◌, refl, sym, ap, ap₂, ◌∙◌}
use mathlib.Core.Bool.{Bool, true, false, ◌&&◌, cond, true≢false}
use mathlib.Core.List.{List, [], ◌∷◌, ◌++◌, append_assoc, append-nil}
use Prim.Native.Nat.{ℕ, zero, suc, ◌<◌}
use native.Mathlib.Omega.{arith}
use borrow.Author.Tests.{ltb-true, eqb-true, eq-eqb, ne_eqb}
use lib.Dec.{ltb, eqb}
use lib.ListN.{length, get_or}
use lib.Seq.{drop-append_seam}
use Rattle.value.proofs.Decides.{by-test, and_parts}
use Rattle.meaning.specs.Lists.{all, pairwise}
use Rattle.meaning.proofs.Elements.{all-test, all-at}
use Rattle.sentences.specs.Words.{Language}
use Rattle.sentences.specs.English.{english}
use Rattle.sentences.specs.French.{french}
use Rattle.sentences.specs.Sentence.{figures, said, sentence, value_from, past_figures, begins, place_of, number_back, line_back, back}
use Rattle.sentences.specs.SheetOf.{language_of}
use Rattle.sentences.proofs.FiguresBack.{value-figures, past-figures, stops, value-stops, past-stops}

-- ---- pieces that differ

-- at some place both have a byte, and these differ
unfoldable pub differ : List ℕ → List ℕ → Bool
differ [] q = false
differ (a ∷ p) [] = false
differ (a ∷ p) (b ∷ q) = cond (eqb a b) (differ p q) true

begins-self : (p s : List ℕ) → begins p (p ++ s) ≡ true
unfolding begins
begins-self [] s = refl
begins-self (a ∷ p) s = rw (eq-eqb a a refl) (begins-self p s)

begins-other : (p q s : List ℕ) → differ p q ≡ true → begins p (q ++ s) ≡ false
unfolding differ begins
begins-other [] q s e = absurd (true≢false (sym e))
begins-other (a ∷ p) [] s e = absurd (true≢false (sym e))
begins-other (a ∷ p) (b ∷ q) s e = by-test (eqb a b) (λ t. rw t (begins-other p q s (rw t at e))) (λ t. rw t)

differ-apart : (p q s t : List ℕ) → differ p q ≡ true → p ++ s ≡ q ++ t → ⊥
differ-apart p q s t e f = true≢false (sym (begins-self p s) ∙ ap (begins p) f ∙ begins-other p q t e)

-- ---- the place of a piece

place-back : (ts : List (List ℕ)) (i : ℕ) (more : List ℕ) → pairwise differ ts ≡ true → i < length ts → place_of ts (get_or ts i [] ++ more) ≡ i
unfolding place_of
place-back [] i more e h = absurd (omega arith)
place-back (t ∷ ts) zero more e h = rw (begins-self t more)
place-back (t ∷ ts) (suc i) more e h =
    let (d, r) = and_parts (all (differ t) ts) (pairwise differ ts) e in
    rw (begins-other t (get_or ts i []) more (all-at (all-test (differ t) ts d) [] i (omega arith))) (ap suc (place-back ts i more r (omega arith)))

-- ---- the test of a language, computed for each

-- the pieces that may come first differ, the colon and the close begin with no figure, and there is a first entry in each list
unfoldable pub fine : Language → Bool
fine w =
    pairwise differ (w.line ∷ w.alone) && (pairwise differ w.there
    && (stops w.colon && (stops w.close && (ltb 0 (length w.alone) && ltb 0 (length w.there)))))

-- what it says
record Parts (w : Language) : Type 0 where
  line-apart : all (differ w.line) w.alone ≡ true
  alone-apart : pairwise differ w.alone ≡ true
  there-apart : pairwise differ w.there ≡ true
  colon-stops : stops w.colon ≡ true
  close-stops : stops w.close ≡ true
  some_alone : 0 < length w.alone
  some-there : 0 < length w.there

fine-parts : (w : Language) → fine w ≡ true → Parts w
unfolding fine
fine-parts w e =
    let (a, e1) = and_parts (pairwise differ (w.line ∷ w.alone)) _ e in
    let (l, a2) = and_parts (all (differ w.line) w.alone) _ a in
    let (t, e2) = and_parts (pairwise differ w.there) _ e1 in
    let (c, e3) = and_parts (stops w.colon) _ e2 in
    let (d, e4) = and_parts (stops w.close) _ e3 in
    let (m, n) = and_parts (ltb 0 (length w.alone)) _ e4 in
    record {
      line-apart = l;
      alone-apart = a2;
      there-apart = t;
      colon-stops = c;
      close-stops = d;
      some_alone = ltb-true 0 (length w.alone) m;
      some-there = ltb-true 0 (length w.there) n;
    }

-- ---- number and line back

-- a piece of the list, and the rest
record Piece (ts : List (List ℕ)) (s : List ℕ) : Type 0 where
  place : ℕ
  rest : List ℕ
  listed : place < length ts
  parts : s ≡ get_or ts place [] ++ rest

module _ (w : Language) (ts : List (List ℕ)) (some : 0 < length ts) (n : ℕ) where
  said-piece : Piece ts (said w ts n)
  said-piece = by-test (ltb 0 n && ltb n (length ts))
      (λ t. let (_, b) = and_parts (ltb 0 n) (ltb n (length ts)) t in
      rw t (record { place = n; rest = []; listed = ltb-true n (length ts) b; parts = sym (append-nil (get_or ts n [])) }))
      (λ t. rw t (record { place = 0; rest = figures n ++ w.close; listed = some; parts = append_assoc (get_or ts 0 []) (figures n) w.close }))

  number-back : pairwise differ ts ≡ true → stops w.close ≡ true → n < 100000 → number_back ts (said w ts n) ≡ n
  number-back d c h = by-test (ltb 0 n && ltb n (length ts))
      (λ t.
      let (a, b) = and_parts (ltb 0 n) (ltb n (length ts)) t in
      let e : place_of ts (get_or ts n []) ≡ n = ap (place_of ts) (sym (append-nil (get_or ts n []))) ∙ place-back ts n [] d (ltb-true n (length ts) b) in
      rw (t, e, ne_eqb n 0 (λ z. let k : 0 < n = ltb-true 0 n a in omega arith)))
      (λ t. rw (t, append_assoc, place-back ts 0 (figures n ++ w.close) d some, drop-append_seam)
      (value-figures 5 n w.close h ∙ ap (value_from n) (sym (append-nil w.close)) ∙ value-stops n w.close [] c))

module _ (w : Language) (n l : ℕ) where
  no_line : eqb l 0 ≡ true → sentence w n l ≡ said w w.alone n
  unfolding sentence
  no_line t = rw t

  with-line : eqb l 0 ≡ false → sentence w n l ≡ w.line ++ (figures l ++ (w.colon ++ said w w.there n))
  unfolding sentence
  with-line t = rw t (simp append_assoc)

  -- the word for a line, or a sentence that names none
  sentence-piece : fine w ≡ true → Piece (w.line ∷ w.alone) (sentence w n l)
  sentence-piece f = by-test (eqb l 0)
      (λ t. let p = said-piece w w.alone (fine-parts w f).some_alone n in
      record { place = suc p.place; rest = p.rest; listed = omega (arith, p.listed); parts = no_line t ∙ p.parts })
      (λ t. record { place = 0; rest = figures l ++ (w.colon ++ said w w.there n); listed = omega arith; parts = with-line t })

-- what is read of any bytes
module _ (w : Language) (s : List ℕ) where
  read-alone : begins w.line s ≡ false → back w s ≡ (number_back w.alone s, 0)
  unfolding back
  read-alone e = rw e

  read-line : back w (w.line ++ s) ≡ line_back w s
  unfolding back
  read-line = rw (begins-self w.line s, drop-append_seam)

  read-figures : stops w.colon ≡ true → (l : ℕ) → l < 100000 → line_back w (figures l ++ (w.colon ++ s)) ≡ (number_back w.there s, l)
  read-figures c l h =
      let e : past_figures (figures l ++ (w.colon ++ s)) ≡ w.colon ++ s = past-figures 5 l (w.colon ++ s) ∙ past-stops w.colon s c in
      let v : value_from 0 (figures l ++ (w.colon ++ s)) ≡ l = value-figures 5 l (w.colon ++ s) h ∙ value-stops l w.colon s c in
      rw (e, v, drop-append_seam)

module _ (w : Language) (f : fine w ≡ true) (n l : ℕ) (h : n < 100000) where
  back_alone : eqb l 0 ≡ true → back w (sentence w n l) ≡ (n, l)
  back_alone t =
      let P = fine-parts w f in
      let s = said w w.alone n in
      let p = said-piece w w.alone P.some_alone n in
      let d = all-at (all-test (differ w.line) w.alone P.line-apart) [] p.place p.listed in
      let e : begins w.line s ≡ false = ap (begins w.line) p.parts ∙ begins-other w.line (get_or w.alone p.place []) p.rest d in
      let m : number_back w.alone s ≡ n = number-back w w.alone P.some_alone n P.alone-apart P.close-stops h in
      ap (back w) (no_line w n l t) ∙ read-alone w s e ∙ ap₂ {C = ℕ × ℕ} (λ a b. (a, b)) m (sym (eqb-true l 0 t))

  back-there : eqb l 0 ≡ false → l < 100000 → back w (sentence w n l) ≡ (n, l)
  back-there t k =
      let P = fine-parts w f in
      let s = said w w.there n in
      let m : number_back w.there s ≡ n = number-back w w.there P.some-there n P.there-apart P.close-stops h in
      ap (back w) (with-line w n l t) ∙ read-line w (figures l ++ (w.colon ++ s))
      ∙ read-figures w s P.colon-stops l k ∙ ap {B = ℕ × ℕ} (λ a. (a, l)) m

pub back-of : (w : Language) → fine w ≡ true → (n l : ℕ) → n < 100000 → l < 100000 → back w (sentence w n l) ≡ (n, l)
back-of w f n l h k = by-test (eqb l 0) (back_alone w f n l h) (λ t. back-there w f n l h t k)

-- ---- both languages

pub english-fine : fine english ≡ true
unfolding fine differ stops
english-fine = refl

pub french-fine : fine french ≡ true
unfolding fine differ stops
french-fine = refl

either-fine : (b : Bool) → fine (cond b english french) ≡ true
either-fine true = english-fine
either-fine false = french-fine

pub sentence-back : (code n l : ℕ) → n < 256 → l < 65536 → back (language_of code) (sentence (language_of code) n l) ≡ (n, l)
sentence-back code n l h k = back-of (language_of code) (either-fine (eqb code 0)) n l (omega arith) (omega arith)

-- so two of one language are never the same
pub sentence-once : (code n l m k : ℕ) → n < 256 → l < 65536 → m < 256 → k < 65536
    → sentence (language_of code) n l ≡ sentence (language_of code) m k → (n ≡ m) × (l ≡ k)
sentence-once code n l m k hn hl hm hk e =
    let w = language_of code in
    let q : ◌≡◌ {A = ℕ × ℕ} (n, l) (m, k) = sym (sentence-back code n l hn hl) ∙ ap (back w) e ∙ sentence-back code m k hm hk in
    (ap (λ x. x.0) q, ap (λ x. x.1) q)

-- ---- one language or the other

unfoldable pub apart : Language → Language → Bool
apart v w = all (λ p. all (differ p) (w.line ∷ w.alone)) (v.line ∷ v.alone)

apart-sentences : (v w : Language) → fine v ≡ true → fine w ≡ true → apart v w ≡ true → (n l m k : ℕ) → sentence v n l ≡ sentence w m k → ⊥
unfolding apart
apart-sentences v w f g a n l m k e =
    let p = sentence-piece v n l f in
    let q = sentence-piece w m k g in
    let r = get_or (v.line ∷ v.alone) p.place [] in
    let h = all-at (all-test (λ x. all (differ x) (w.line ∷ w.alone)) (v.line ∷ v.alone) a) [] p.place p.listed in
    let d = all-at (all-test (differ r) (w.line ∷ w.alone) h) [] q.place q.listed in
    differ-apart r (get_or (w.line ∷ w.alone) q.place []) p.rest q.rest d (sym p.parts ∙ e ∙ q.parts)

pub english-french : apart english french ≡ true
unfolding apart differ
english-french = refl

pub languages-apart : (n l m k : ℕ) → sentence english n l ≡ sentence french m k → ⊥
languages-apart = apart-sentences english french english-fine french-fine english-french
