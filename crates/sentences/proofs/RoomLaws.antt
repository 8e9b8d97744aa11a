-- Room for every sentence, and for both. Assumes nothing.
use mathlib.Core.Path.{◌≡◌, refl, sym, ap, subst}
use mathlib.Core.Bool.{Bool, true, false, ◌&&◌}
use mathlib.Core.List.{List, [], ◌∷◌, ◌++◌, append_assoc}
use Prim.Native.Nat.{ℕ, ◌≤◌, ◌<◌}
use native.Mathlib.Omega.{arith}
use borrow.Author.Tests.{leb-true, le-ltb, eqb-true, eqb-false}
use lib.Dec.{ltb, leb, eqb}
use lib.ListN.{length, get_or, take, length-append}
use Rattle.value.proofs.Decides.{by-test, and_parts}
use Rattle.meaning.specs.Lists.{all}
use Rattle.meaning.proofs.Elements.{all-test, all-at}
use Rattle.language.proofs.PrintedLaws.{front-whole, front-within}
use Rattle.sentences.specs.Words.{Language}
use Rattle.sentences.specs.English.{english}
use Rattle.sentences.specs.French.{french}
use Rattle.sentences.specs.Sentence.{figures, said, sentence}
use Rattle.sentences.specs.SheetOf.{sentence_in, in_lines, both_sentences}
use Rattle.sentences.specs.Languages.{language_in, number_in, texts_in}
use Rattle.sentences.specs.declared.Language.{Language as Tongue}
use Rattle.sentences.specs.declared.Language.TheVariants.{English, French}
use Rattle.sentences.specs.declared.Place.{Place}
use Rattle.sentences.specs.declared.Place.TheVariants.{Alone, There}
use Rattle.sentences.specs.declared.TheConstants.{ROOM}
use Rattle.sentences.specs.Answers.{Put}
use Rattle.sentences.proofs.PieceLaws.{entries}
use Rattle.sentences.proofs.FigureLaws.{few-figures}
use Rattle.sentences.proofs.SaidLaws.{known_small, said-known, said-other, sentence-alone, sentence-there}

-- ---- the test of a language, computed for each

abbrev pub within : ℕ → List ℕ → Bool
within n t = leb (length t) n

-- each sentence has at most 420 bytes, and the other pieces have few
unfoldable pub short : Language → Bool
short w =
    all (within 420) w.alone && (all (within 420) w.there
    && (within 60 (get_or w.alone 0 []) && (within 60 (get_or w.there 0 []) && (within 10 w.line && (within 10 w.colon && within 60 w.close)))))

english-short : short english ≡ true
unfolding short
english-short = refl

french-short : short french ≡ true
unfolding short
french-short = refl

both-short : (t : Tongue) → short (language_in t) ≡ true
both-short English = english-short
both-short French = french-short

record Lengths (w : Language) : Type 0 where
  texts : (p : Place) → all (within 420) (texts_in p w) ≡ true
  first : (p : Place) → length (get_or (texts_in p w) 0 []) ≤ 60
  line : length w.line ≤ 10
  colon : length w.colon ≤ 10
  close : length w.close ≤ 60

lengths : (w : Language) → short w ≡ true → Lengths w
unfolding short
lengths w e =
    let (a, e1) = and_parts (all (within 420) w.alone) _ e in
    let (b, e2) = and_parts (all (within 420) w.there) _ e1 in
    let (c, e3) = and_parts (within 60 (get_or w.alone 0 [])) _ e2 in
    let (d, e4) = and_parts (within 60 (get_or w.there 0 [])) _ e3 in
    let (f, e5) = and_parts (within 10 w.line) _ e4 in
    let (g, h) = and_parts (within 10 w.colon) _ e5 in
    record {
      texts = λ p. at-place (λ x. all (within 420) (texts_in x w) ≡ true) p a b;
      first = λ p. at-place (λ x. length (get_or (texts_in x w) 0 []) ≤ 60) p (leb-true _ _ c) (leb-true _ _ d);
      line = leb-true _ _ f;
      colon = leb-true _ _ g;
      close = leb-true _ _ h;
    }
  where
    at-place : (P : Place → Type 0) (x : Place) → P Alone → P There → P x
    at-place P Alone p q = p
    at-place P There p q = q

-- ---- every sentence

module _ (t : Tongue) (n : ℕ) where
  lengths-of : Lengths (language_in t)
  lengths-of = lengths (language_in t) (both-short t)

  said-room : (p : Place) → length (said (language_in t) (texts_in p (language_in t)) n) ≤ 420
  said-room p =
      let L = lengths-of in
      let own = texts_in p (language_in t) in
      by-test (ltb 0 n && ltb n 19)
      (λ e.
      let k : n < length own = omega (arith, known_small t p n e, entries t p) in
      let m : length (get_or own n []) ≤ 420 = leb-true _ _ (all-at (all-test (within 420) own (L.texts p)) [] n k) in
      omega (arith, ap length (said-known t p n e)))
      (λ e.
      let first = get_or own 0 [] in
      let close = (language_in t).close in
      omega (arith, ap length (said-other t p n e), length-append (first ++ figures n) close, length-append first (figures n), few-figures 5 n, L.first p, L.close))

  pub sentence-room : (l : ℕ) → length (sentence (language_in t) n l) ≤ 512
  sentence-room l =
      let L = lengths-of in
      let w = language_in t in
      by-test (eqb l 0)
      (λ e. omega (arith, said-room Alone, ap length (sentence-alone w n l (eqb-true l 0 e))))
      (λ e.
      let rest = said w w.there n in
      let s : length (sentence w n l) ≡ length (w.line ++ figures l ++ w.colon ++ rest) = ap length (sentence-there w n l (eqb-false l 0 e)) in
      omega (
        arith,
        length-append (w.line ++ figures l ++ w.colon) rest,
        length-append (w.line ++ figures l) w.colon,
        length-append w.line (figures l),
        few-figures 5 l,
        said-room There,
        L.line,
        L.colon,
      ))

-- the constant that callers take for it
pub room-enough : (t : Tongue) (n l : ℕ) → length (sentence (language_in t) n l) ≤ ROOM
room-enough t n l = sentence-room t n l

-- ---- a language by its number

pub sentence-named : (t : Tongue) {code : ℕ} (n l : ℕ) → number_in t ≡ code → sentence_in code n l ≡ sentence (language_in t) n l
unfolding sentence_in
sentence-named English n l e = rw (← e) refl
sentence-named French n l e = rw (← e) refl

pub sentence-none : (code n l : ℕ) → 1 < code → sentence_in code n l ≡ []
unfolding sentence_in
sentence-none code n l h = rw (le-ltb code 2 (omega arith)) refl

-- ---- both sentences

pub both-are : (n l : ℕ) → both_sentences n l ≡ (sentence english n l ++ 10 ∷ []) ++ (sentence french n l ++ 10 ∷ [])
unfolding both_sentences in_lines
both-are n l = sym (append_assoc (sentence english n l) (10 ∷ []) (sentence french n l ++ 10 ∷ []))

pub both-room : (n l : ℕ) → length (both_sentences n l) ≤ 1026
unfolding both_sentences in_lines
both-room n l =
    omega (
      arith,
      sentence-room English n l,
      sentence-room French n l,
      length-append (sentence english n l) (10 ∷ (sentence french n l ++ 10 ∷ [])),
      length-append (sentence french n l) (10 ∷ []),
    )

-- ---- what stays of a buffer

-- an empty text
pub whole-none : (out : List ℕ) → Put [] out 0 out
whole-none out = let t : ltb (length out) 0 ≡ false = le-ltb (length out) 0 (omega arith) in record { length-is = rw t refl; left = rw t refl }

pub put_same : {s t out out' : List ℕ} {r : ℕ} → s ≡ t → Put s out r out' → Put t out r out'
put_same {s} {t} {out} {out'} {r} e p = subst (λ (x : List ℕ). Put x out r out') e p

-- ---- what a caller reads in its buffer

module _ {text out out' : List ℕ} {r : ℕ} (p : Put text out r out') where
  pub put_whole : length text ≤ length out → take r out' ≡ text
  put_whole h = front-whole text out (ltb (length out) (length text)) p.length-is p.left (le-ltb (length out) (length text) h)

  pub put-within : length out' ≡ length out → r ≤ length out'
  put-within same = front-within text out (ltb (length out) (length text)) p.length-is p.left same
