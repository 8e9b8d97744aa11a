-- "The program": what it prints for a text. "It searches from 0 to the end. Output, one frame a line: 80 and k in four bytes, then for
-- each table 81, relation, rows, values row by row in two bytes; or 82 for no case; or 8f, number, line in two bytes." Assumes nothing:
-- these are definitions, and they compute.
use Rattle.std.specs.Prelude.{◌≡◌, cond, List, [], ◌∷◌, ◌++◌, map, ℕ, suc, ◌/◌, ◌%◌, ltb, ℤ, length, drop}
use Rattle.value.specs.Integer.{high_byte, low_byte}
use Rattle.value.specs.Value.{Value, shown}
use Rattle.meaning.specs.Lists.{joined}
use Rattle.meaning.specs.Syntax.{File, Row, Database}
use Rattle.meaning.specs.Candidates.{candidates, database}
use Rattle.meaning.specs.Look.{Answer, answer_in}
use Rattle.meaning.specs.Decided.{searched}
use Rattle.text.specs.Text.{text_of}
use Rattle.language.specs.Check.{Outcome}
use Rattle.language.specs.FileOf.{file_of}

-- ---- numbers as bytes: "Sixteen-bit fields are high byte first"

abbrev pub in_two_bytes : ℕ → List ℕ
in_two_bytes n = n / 256 % 256 ∷ n % 256 ∷ []

abbrev pub in_four_bytes : ℕ → List ℕ
in_four_bytes n = in_two_bytes (n / 65536) ++ in_two_bytes n

-- the two bytes of each number
unfoldable pub number_bytes : List ℤ → List ℕ
number_bytes [] = []
number_bytes (z ∷ zs) = high_byte z ∷ low_byte z ∷ number_bytes zs

-- the two bytes of each value, as an instance buffer shows it
abbrev pub value_bytes : List Value → List ℕ
value_bytes vs = number_bytes (map shown vs)

-- ---- frames

-- "80 and k in four bytes"
abbrev pub case_frame : ℕ → List ℕ
case_frame k = 0x80 ∷ in_four_bytes k

-- "81, relation, rows, values row by row in two bytes"
unfoldable pub rows_frame : ℕ → List Row → List ℕ
rows_frame t rs = 0x81 ∷ t ∷ length rs ∷ value_bytes (joined rs)

-- "for each table", from table t on
abbrev pub rows_frames : ℕ → Database → List (List ℕ)
rows_frames t [] = []
rows_frames t (rs ∷ d) = rows_frame t rs ∷ rows_frames (suc t) d

-- "82 for no case"
abbrev pub no_case_frame : List ℕ
no_case_frame = 0x82 ∷ []

-- "8f, number, line in two bytes"
abbrev pub refusal_frame : ℕ → ℕ → List ℕ
refusal_frame n l = 0x8f ∷ n ∷ in_two_bytes l

-- ---- the program

-- the frames of an answer to a look at a file; "spent" is no frame, since the program searches to the end
abbrev pub answer_frames : File → Answer → List (List ℕ)
answer_frames F (Answer.case k) = case_frame k ∷ rows_frames 0 (database F k)
answer_frames F Answer.no_case = no_case_frame ∷ []
answer_frames F (Answer.spent next) = []
answer_frames F (Answer.refused n l) = refusal_frame n l ∷ []

-- "It searches from 0 to the end": the answer of a look from 0 at all candidates, whatever it is lent
unfoldable pub searched_all : File → Answer
searched_all F = answer_in (searched F 0 (candidates F) [] [])

abbrev pub outcome_frames : Outcome → List (List ℕ)
outcome_frames (Outcome.refused n l) = refusal_frame n l ∷ []
outcome_frames (Outcome.accepted F) = answer_frames F (searched_all F)

-- what the program prints
unfoldable pub output_of : List ℕ → List ℕ
output_of text = text_of (outcome_frames (file_of text))

-- how many bytes of a text settle its output: one more than the 8,192 of a rule file, so that a longer text is seen to be too long
abbrev pub input_room : ℕ
input_room = 8193

-- room for any output: a line of 11 bytes for the case, and for each of 16 tables one of at most 135, with 32 cells
abbrev pub output_room : ℕ
output_room = 2171

-- the whole output at the front of a buffer with that room, and its length; a shorter buffer is left as it is, and the answer is 0
pub record Printed (text out : List ℕ) (r : ℕ) (out' : List ℕ) : Type 0 where
  pub length-is : r ≡ cond (ltb (length out) output_room) 0 (length (output_of text))
  pub left : out' ≡ cond (ltb (length out) output_room) out (output_of text ++ drop (length (output_of text)) out)
