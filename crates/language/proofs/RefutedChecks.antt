-- Wrong checkers, of none of which `refused-when` holds: one that tries row bounds before the rule on 07, and one that counts candidates
-- before it misses the goal. Assumes nothing.
use mathlib.Core.Path.{◌≡◌, refl, ap, ◌∙◌}
use mathlib.Core.Bool.{false, cond}
use mathlib.Core.List.{List, [], ◌∷◌}
use mathlib.Core.Logic.{◌↔◌}
use mathlib.Core.Option.{Option, none, some}
use Prim.Native.Nat.{ℕ, suc}
use native.Mathlib.Omega.{arith}
use lib.Dec.{leb, eqb}
use Rattle.value.specs.Integer.{signed_of}
use Rattle.value.specs.Value.{size}
use Rattle.text.specs.Text.{Lines, frames_of, lines_of, read_on, step, hex_value, text_of, line, hex, hex_digit}
use Rattle.meaning.specs.Syntax.{Goal}
use Rattle.language.specs.Reading.{Read, deep_e, deep_c, read_e, read_c}
use Rattle.meaning.specs.Bounds.{same_width, aggregates_fit, bounded, ranges_fit}
use Rattle.meaning.specs.Candidates.{candidates}
use Rattle.language.specs.Draft.{Draft, Item, empty, added, file_at, schemas_of, in_order, has_room}
use Rattle.language.specs.Frames.{frame, whole_fault}
use Rattle.language.specs.Check.{Outcome, Checked, Reached, candidate_limit, finished, onward, read_checked, check_frame, reach, concluded}
use Rattle.language.specs.FileOf.{file_of, outcome_of}
use Rattle.language.specs.Refused.{Refused}
use Rattle.language.proofs.Refusals.{refused-when}

-- what `refused-when` says, of any checker
abbrev Refuses : (List ℕ → Outcome) → Type 0
Refuses check = (text : List ℕ) (n l : ℕ) → (check text ≡ Outcome.refused n l) ↔ Refused text n l

-- there is no other: it refuses what `file_of` refuses, as `file_of` does
no_other : (check : List ℕ → Outcome) → Refuses check → (text : List ℕ) (n l : ℕ) → check text ≡ Outcome.refused n l → file_of text ≡ Outcome.refused n l
no_other check h text n l e = (refused-when text n l).1 ((h text n l).0 e)

-- ---- a checker by its rules on whole frames and its end

module _ (whole : Draft → Item → ℕ) (end : Draft → Option Goal → Outcome) where
  abbrev read_by : Draft → Read Item → Checked
  read_by d (Read.ok i rest) = cond (eqb (whole d i) 0) (Checked.next (added d i)) (Checked.fault (whole d i))
  read_by d (Read.refused n) = Checked.fault n

  abbrev frame_by : Draft → List ℕ → Checked
  frame_by d [] = Checked.fault 4
  frame_by d (kind ∷ bs) = cond (in_order d kind) (cond (has_room d kind) (read_by d (frame d kind bs)) (Checked.fault 5)) (Checked.fault 3)

  abbrev reach_by : List (List ℕ) → Draft → ℕ → Reached
  reach_by [] d line = Reached.came d
  reach_by (f ∷ fs) d line = onward (λ e. reach_by fs e (suc line)) line (frame_by d f)

  abbrev concluded_by : Reached → Outcome
  concluded_by (Reached.stopped n line) = Outcome.refused n line
  concluded_by (Reached.came d) = end d d.goal

  abbrev lines_by : Lines → Outcome
  lines_by (Lines.frames fs) = concluded_by (reach_by fs empty 1)
  lines_by (Lines.refused n k) = Outcome.refused n k

  abbrev check_by : List ℕ → Outcome
  check_by text = lines_by (frames_of text)

-- with the right rules and the right end it is the right one
onward-same : {more then : Draft → Reached} (l : ℕ) (c : Checked) → ((d : Draft) → more d ≡ then d) → onward more l c ≡ onward then l c
onward-same l (Checked.fault n) h = refl
onward-same l (Checked.next d) h = h d

read_same : (d : Draft) (r : Read Item) → read_by whole_fault finished d r ≡ read_checked d r
read_same d (Read.ok i rest) = refl
read_same d (Read.refused n) = refl

frame_same : (d : Draft) (f : List ℕ) → frame_by whole_fault finished d f ≡ check_frame d f
unfolding check_frame
frame_same d [] = refl
frame_same d (k ∷ bs) = rw (read_same d (frame d k bs))

reach-same : (fs : List (List ℕ)) (d : Draft) (l : ℕ) → reach_by whole_fault finished fs d l ≡ reach fs d l
unfolding reach
reach-same [] d l = refl
reach-same (f ∷ fs) d l =
    onward-same l (frame_by whole_fault finished d f) (λ e. reach-same fs e (suc l))
    ∙ ap (onward (λ e. reach fs e (suc l)) l) (frame_same d f)

concluded-same : (x : Reached) → concluded_by whole_fault finished x ≡ concluded x
concluded-same (Reached.stopped n line) = refl
concluded-same (Reached.came d) = refl

lines_same : (lines : Lines) → lines_by whole_fault finished lines ≡ outcome_of lines
lines_same (Lines.frames fs) = concluded-same (reach_by whole_fault finished fs empty 1) ∙ ap concluded (reach-same fs empty 1)
lines_same (Lines.refused n k) = refl

right : (text : List ℕ) → check_by whole_fault finished text ≡ file_of text
unfolding file_of
right text = lines_same (frames_of text)

-- ---- 8 before 7

-- the rules on whole frames, row bounds before the rule on 07
abbrev bound_first : Draft → Item → ℕ
bound_first d (Item.view q) =
    let ss = schemas_of d in
    cond (same_width ss q) (cond (bounded ss q) (cond (aggregates_fit ss q) (cond (ranges_fit ss q) 0 9) 7) 8) 6
bound_first d (Item.table t) = whole_fault d (Item.table t)
bound_first d (Item.key k) = whole_fault d (Item.key k)
bound_first d (Item.goal g) = whole_fault d (Item.goal g)

-- a table of 8 rows, and a basic view of three of it that selects a count
abbrev view-of-both : List ℕ
view-of-both =
    text_of ((0x01 ∷ 0x08 ∷ 0x01 ∷ 0x00 ∷ 0x00 ∷ 0x00 ∷ 0x00 ∷ 0x01 ∷ [])
    ∷ (0x03 ∷ 0x03 ∷ 0x00 ∷ 0x00 ∷ 0x00 ∷ 0x01 ∷ 0x10 ∷ 0x07 ∷ 0x00 ∷ 0x00 ∷ 0x00 ∷ 0x00 ∷ [])
    ∷ [])

by-aggregate : file_of view-of-both ≡ Outcome.refused 7 2
unfolding file_of frames_of lines_of read_on step hex_value text_of line hex hex_digit reach check_frame read_e read_c deep_e deep_c signed_of
by-aggregate = refl

by-bound : check_by bound_first finished view-of-both ≡ Outcome.refused 8 2
unfolding frames_of lines_of read_on step hex_value text_of line hex hex_digit read_e read_c deep_e deep_c signed_of
by-bound = refl

bound-first : Refuses (check_by bound_first finished) → ⊥
bound-first h =
    let e : file_of view-of-both ≡ Outcome.refused 8 2 = no_other (check_by bound_first finished) h view-of-both 8 2 by-bound in
    let z : ◌≡◌ {A = ℕ} 7 8 = cc by-aggregate in
    omega arith

-- ---- 10 before 3 for no goal

abbrev count_first : Draft → Option Goal → Outcome
count_first d none = cond (leb (candidates (file_at d (record { view = 0; negative = false }))) candidate_limit) (Outcome.refused 3 0) (Outcome.refused 10 0)
count_first d (some g) = finished d (some g)

-- one table of 8 rows, with every value of 16 bits
abbrev table-alone : List ℕ
table-alone = text_of ((0x01 ∷ 0x08 ∷ 0x01 ∷ 0x00 ∷ 0x80 ∷ 0x00 ∷ 0x7f ∷ 0xff ∷ []) ∷ [])

by-goal : file_of table-alone ≡ Outcome.refused 3 0
unfolding file_of frames_of lines_of read_on step hex_value text_of line hex hex_digit reach check_frame signed_of
by-goal = refl

by_count : check_by whole_fault count_first table-alone ≡ Outcome.refused 10 0
unfolding frames_of lines_of read_on step hex_value text_of line hex hex_digit candidates size signed_of
by_count = refl

count-first : Refuses (check_by whole_fault count_first) → ⊥
count-first h =
    let e : file_of table-alone ≡ Outcome.refused 10 0 = no_other (check_by whole_fault count_first) h table-alone 10 0 by_count in
    let z : ◌≡◌ {A = ℕ} 3 10 = cc by-goal in
    omega arith
