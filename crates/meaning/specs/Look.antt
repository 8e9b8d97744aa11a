-- The answers of a look, and what it leaves. Assumes nothing: these are definitions.
use Rattle.std.specs.Prelude.{List, [], ◌∷◌, ℕ, ℤ, pos, length, replicate}

-- "case k", "no case", "spent" with next, or a refusal: "its number and a line from 1, or line 0 where none is said"
pub data Answer : Type 0 where
  case : ℕ → Answer
  no_case : Answer
  spent : ℕ → Answer
  refused : ℕ → ℕ → Answer

-- the document's number for each answer, and its values: frames 80 and k, 82, and 8f with number and line. "spent" is no frame: its
-- number here is 0, and its value next
abbrev pub number_of : Answer → ℕ
number_of (Answer.case k) = 0x80
number_of Answer.no_case = 0x82
number_of (Answer.spent next) = 0
number_of (Answer.refused n l) = 0x8f

abbrev pub values_of : Answer → List ℕ
values_of (Answer.case k) = k ∷ []
values_of Answer.no_case = []
values_of (Answer.spent next) = next ∷ []
values_of (Answer.refused n l) = n ∷ l ∷ []

-- an answer with the work area and the instance buffer as they are afterwards
pub data After : Type 0 where
  after : Answer → List ℤ → List ℤ → After

abbrev pub answer_in : After → Answer
answer_in (After.after a work inst) = a

abbrev pub work_in : After → List ℤ
work_in (After.after a work inst) = work

abbrev pub inst_in : After → List ℤ
inst_in (After.after a work inst) = inst

-- "After an accepted look the work area is all zero"
abbrev pub zeros : List ℤ → List ℤ
zeros work = replicate (length work) (pos 0)

-- "at least 9,216"
abbrev pub work_size : ℕ
work_size = 9216
