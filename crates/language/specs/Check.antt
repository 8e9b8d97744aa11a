-- `check_all`: frames in turn, to the refusal of the first wrong one with its line, or to the file. Assumes nothing: these are definitions,
-- and they compute.
use Rattle.std.specs.Prelude.{cond, List, [], ◌∷◌, ℕ, suc, ◌^◌, leb, eqb}
use Rattle.std.proofs.Math.Option.{Option, none, some}
use Rattle.meaning.specs.Syntax.{Goal, File}
use Rattle.language.specs.Reading.{Read}
use Rattle.meaning.specs.Candidates.{candidates}
use Rattle.language.specs.Draft.{Draft, Item, empty, added, file_at, in_order, has_room}
use Rattle.language.specs.Frames.{frame, whole_fault}

-- a refusal with its line, or the file
pub data Outcome : Type 0 where
  refused : ℕ → ℕ → Outcome
  accepted : File → Outcome

-- one frame: a refusal's number, or the file with what the frame adds
pub data Checked : Type 0 where
  fault : ℕ → Checked
  next : Draft → Checked

-- "then whole-frame rules"
abbrev pub whole_checked : Draft → Item → Checked
whole_checked d i = cond (eqb (whole_fault d i) 0) (Checked.next (added d i)) (Checked.fault (whole_fault d i))

-- "bytes left to right for 4, 5, 6", and then those
abbrev pub read_checked : Draft → Read Item → Checked
read_checked d (Read.ok i rest) = whole_checked d i
read_checked d (Read.refused n) = Checked.fault n

-- "Within a frame, 3, then a 17th relation or key, then bytes left to right for 4, 5, 6, a surplus byte last; then whole-frame rules"
unfoldable pub check_frame : Draft → List ℕ → Checked
check_frame d [] = Checked.fault 4
check_frame d (kind ∷ bs) =
    cond (in_order d kind) (cond (has_room d kind) (read_checked d (frame d kind bs)) (Checked.fault 5)) (Checked.fault 3)

-- "The number N of candidates is .. at most 2^24"
abbrev pub candidate_limit : ℕ
candidate_limit = 2 ^ 24

-- "then 3 for no goal, 10"
abbrev pub finished : Draft → Option Goal → Outcome
finished d none = Outcome.refused 3 0
finished d (some g) = cond (leb (candidates (file_at d g)) candidate_limit) (Outcome.accepted (file_at d g)) (Outcome.refused 10 0)

-- "frames in turn", each with its line: the refusal of the first wrong one, or the draft of them all
pub data Reached : Type 0 where
  stopped : ℕ → ℕ → Reached
  came : Draft → Reached

abbrev pub onward : (Draft → Reached) → ℕ → Checked → Reached
onward further line (Checked.fault n) = Reached.stopped n line
onward further line (Checked.next d) = further d

unfoldable pub reach : List (List ℕ) → Draft → ℕ → Reached
reach [] d line = Reached.came d
reach (f ∷ fs) d line = onward (λ e. reach fs e (suc line)) line (check_frame d f)

abbrev pub concluded : Reached → Outcome
concluded (Reached.stopped n line) = Outcome.refused n line
concluded (Reached.came d) = finished d d.goal

-- the frames of a whole text
abbrev pub check_all : List (List ℕ) → Outcome
check_all fs = concluded (reach fs empty 1)
