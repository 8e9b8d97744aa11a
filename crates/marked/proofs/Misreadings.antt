-- Misreadings of document 01, refuted on real texts. Assumes nothing.
use mathlib.Core.Path.{◌≡◌, refl}
use mathlib.Core.List.{List, [], ◌∷◌}
use Prim.Native.Nat.{ℕ}
use lib.IntN.{ℤ}
use Rattle.meaning.specs.Syntax.{File}
use Rattle.meaning.specs.Candidates.{database}
use Rattle.meaning.specs.Look.{Answer}
use Rattle.meaning.specs.Looks.{CaseAt, NoDatabase}
use Rattle.meaning.proofs.Elements.{all_here}
use Rattle.language.specs.Check.{Outcome}
use Rattle.language.specs.FileOf.{file_of}
use Rattle.marked.specs.Table.{Entry, LookGives, Right, program}
use Rattle.marked.specs.Samples.{single}
use Rattle.marked.proofs.Marked.{m1}
use Rattle.marked.proofs.Samples.{later-starts}

-- "Holding "no case" from a start above 0 for the whole file": a look from a later start answers "no case", whatever buffers that are long
-- enough are lent, and candidate k of the same file is a case, so that some database is one
abbrev pub NoCaseHeld : List ℕ → ℕ → ℕ → ℕ → Type 0
NoCaseHeld text start count k =
    (F : File) × (file_of text ≡ Outcome.accepted F) × LookGives text start count Answer.no_case [] F × CaseAt F k × ¬ (NoDatabase F)

-- by an entry with a case and one with "no case"
held : (text : List ℕ) (s c k : ℕ) (shows : List ℤ) (start count : ℕ) → Right (Entry.looked text s c (Answer.case k) shows)
    → Right (Entry.looked text start count Answer.no_case []) → NoCaseHeld text start count k
unfolding Right
held text s c k shows start count (F, e, g, (none, hit, all)) (G, h, l, n) =
    let same : G ≡ F = cc in
    let case-k : CaseAt F k = hit k refl in
    (F, e, rw same at l, case-k, λ no. no (database F k) case-k)

-- M1 from 13, which is its number of candidates: candidate 9 is a case
pub held-m1 : NoCaseHeld (program "070200") 13 3 9
held-m1 = held _ _ _ _ _ _ _ (all_here (_ ∷ []) _ _ m1) (all_here (_ ∷ _ ∷ _ ∷ []) _ _ m1)

-- where 9 alone is a case, from 10
pub held-single : NoCaseHeld single 10 3 9
held-single = held _ _ _ _ _ _ _ (all_here [] _ _ later-starts) (all_here (_ ∷ []) _ _ later-starts)
