-- A language's pieces, each closed by LF, one after the other: line k of that text is piece k. Assumes nothing.
use mathlib.Core.Path.{◌≡◌, refl, ap, ◌∙◌}
use mathlib.Core.Bool.{Bool, true, not}
use mathlib.Core.List.{List, [], ◌∷◌, ◌++◌}
use Prim.Native.Nat.{ℕ, zero, suc, ◌+◌, ◌<◌}
use native.Mathlib.Omega.{arith}
use borrow.Author.Tests.{not-true}
use lib.Dec.{eqb}
use lib.ListN.{length, get_or}
use lib.Seq.{get_or-append-add}
use Rattle.value.specs.Bag.{All}
use Rattle.value.proofs.Values.{all_map}
use Rattle.meaning.specs.Lists.{all}
use Rattle.meaning.proofs.Elements.{all-test}
use Rattle.sentences.specs.Words.{Language}
use Rattle.sentences.specs.English.{english}
use Rattle.sentences.specs.French.{french}
use Rattle.sentences.specs.SheetOf.{in_lines, first_line, past_line}
use Rattle.sentences.specs.Pieces.{pieces, past_lines}
use Rattle.sentences.specs.Languages.{language_in, texts_in, first_in}
use Rattle.sentences.specs.declared.Language.{Language as Tongue}
use Rattle.sentences.specs.declared.Language.TheVariants.{English, French}
use Rattle.sentences.specs.declared.Place.{Place}
use Rattle.sentences.specs.declared.Place.TheVariants.{Alone, There}
use Rattle.sentences.proofs.LineLaws.{past-nothing}

-- ---- pieces in which no LF stands

abbrev is_other : ℕ → Bool
is_other b = not (eqb b 10)

abbrev pub Unbroken : List ℕ → Type 0
Unbroken = All (λ b. is_other b ≡ true)

-- the first line, and what stands behind it
pub line_of : (rest : List ℕ) {p : List ℕ} → Unbroken p → (first_line (p ++ 10 ∷ rest) ≡ p) × (past_line (p ++ 10 ∷ rest) ≡ rest)
unfolding first_line past_line
line_of rest All.nil = (refl, refl)
line_of rest (All.cons {x = b} h hs) =
    let (e, f) = line_of rest hs in
    rw (not-true (eqb b 10) h) (ap (λ (q : List ℕ). b ∷ q) e, f)

pub piece-line : {ps : List (List ℕ)} → All Unbroken ps → (k : ℕ) → first_line (past_lines k (in_lines ps)) ≡ get_or ps k []
unfolding in_lines past_lines first_line
piece-line All.nil k = ap first_line (past-nothing k)
piece-line (All.cons {xs = ps} h hs) zero = (line_of (in_lines ps) h).0
piece-line (All.cons {xs = ps} h hs) (suc k) = ap (λ (l : List ℕ). first_line (past_lines k l)) (line_of (in_lines ps) h).1 ∙ piece-line hs k

-- one computed test of each table
tested : (w : Language) → all (all is_other) (pieces w) ≡ true → All Unbroken (pieces w)
tested w e = all_map (λ p t. all-test is_other p t) (all-test (all is_other) (pieces w) e)

pub english-unbroken : All Unbroken (pieces english)
english-unbroken = tested english refl

pub french-unbroken : All Unbroken (pieces french)
french-unbroken = tested french refl

unbroken : (t : Tongue) → All Unbroken (pieces (language_in t))
unbroken English = english-unbroken
unbroken French = french-unbroken

-- line k of the text, and piece k of the language
pub piece-at : (t : Tongue) (k : ℕ) → first_line (past_lines k (in_lines (pieces (language_in t)))) ≡ get_or (pieces (language_in t)) k []
piece-at t k = piece-line (unbroken t) k

-- ---- where a language's sentences stand among its pieces

get_d-left : (xs ys : List (List ℕ)) (n : ℕ) → n < length xs → get_or (xs ++ ys) n [] ≡ get_or xs n []
get_d-left [] ys n h = absurd (omega arith)
get_d-left (x ∷ xs) ys zero h = refl
get_d-left (x ∷ xs) ys (suc n) h = get_d-left xs ys n (omega arith)

-- both lists of each language have 19 entries
pub entries : (t : Tongue) (p : Place) → length (texts_in p (language_in t)) ≡ 19
entries English Alone = refl
entries English There = refl
entries French Alone = refl
entries French There = refl

pub own-piece : (t : Tongue) (p : Place) (n : ℕ) → n < 19 → get_or (pieces (language_in t)) (first_in p + n) [] ≡ get_or (texts_in p (language_in t)) n []
own-piece t Alone n h =
    let w = language_in t in
    let e : 3 + n ≡ suc (suc (suc n)) = omega arith in
    rw e (get_d-left w.alone w.there n (omega (arith, entries t Alone)))
own-piece t There n h =
    let w = language_in t in
    let e : 22 + n ≡ suc (suc (suc (length w.alone + n))) = omega (arith, entries t Alone) in
    rw e (get_or-append-add w.alone w.there n [])
