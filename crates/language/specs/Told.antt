-- What the output tells: a reader of the frames 80, 81, 82 and 8f, by the document's words and apart from the definitions that write them;
-- and `Says`, the one statement on the program's output. Assumes nothing: these are definitions, and the reader computes.
use Rattle.std.specs.Prelude.{◌≡◌, cond, List, [], ◌∷◌, map, ℕ, suc, ◌+◌, ◌*◌, ◌/◌, eqb, length, get_or, drop}
use Rattle.value.specs.Integer.{bytes_z}
use Rattle.value.specs.Value.{Value}
use Rattle.meaning.specs.Syntax.{File, Row, Database}
use Rattle.meaning.specs.Candidates.{cut_rows, database}
use Rattle.meaning.specs.Looks.{First, NoDatabase}
use Rattle.text.specs.Text.{Lines, frames_of, text_of}
use Rattle.language.specs.Check.{Outcome}
use Rattle.language.specs.FileOf.{file_of}
use Rattle.language.specs.OutputOf.{case_frame, rows_frames, no_case_frame, refusal_frame}

-- ---- what an output can tell

-- a table of a case: its relation number and its rows
pub record Shown : Type 0 where
  pub relation : ℕ
  pub rows : List Row

pub data Told : Type 0 where
  -- number and line of a refusal
  refused : ℕ → ℕ → Told
  none : Told
  -- k and the tables of case k
  case : ℕ → List Shown → Told
  -- the program prints no such text
  unreadable : Told

-- ---- the reader

-- "high byte first": the number of the two bytes at a place of a frame, and that of four
abbrev pub two_at : List ℕ → ℕ → ℕ
two_at f i = get_or f i 0 * 256 + get_or f (i + 1) 0

abbrev pub four_at : List ℕ → ℕ → ℕ
four_at f i = two_at f i * 65536 + two_at f (i + 2)

-- "values .. in two bytes", "a value .. is two's complement"
unfoldable pub values_in : List ℕ → List Value
values_in [] = []
values_in (high ∷ []) = []
values_in (high ∷ low ∷ bs) = Value.number (bytes_z high low) ∷ values_in bs

-- "81, relation, rows, values row by row": each row has as many values
unfoldable pub table_in : List ℕ → Shown
table_in f =
    let n = get_or f 2 0 in
    let vs = values_in (drop 3 f) in
    record { relation = get_or f 1 0; rows = cut_rows n (length vs / n) vs }

-- "80 and k in four bytes, then for each table 81 ..; or 82 for no case; or 8f, number, line in two bytes"
unfoldable pub told_by : List (List ℕ) → Told
told_by [] = Told.unreadable
told_by (f ∷ fs) =
    cond (eqb (get_or f 0 0) 0x80) (Told.case (four_at f 1) (map table_in fs))
    (cond (eqb (get_or f 0 0) 0x82) Told.none
    (cond (eqb (get_or f 0 0) 0x8f) (Told.refused (get_or f 1 0) (two_at f 2))
    Told.unreadable))

abbrev pub told_lines : Lines → Told
told_lines (Lines.frames fs) = told_by fs
told_lines (Lines.refused n k) = Told.unreadable

-- "Output, one frame a line": what an output tells
unfoldable pub read_back : List ℕ → Told
read_back out = told_lines (frames_of out)

-- ---- what the program says of a text

-- the tables of a database with their relation numbers, from table t on
abbrev pub numbered_from : ℕ → Database → List Shown
numbered_from t [] = []
numbered_from t (rs ∷ d) = record { relation = t; rows = rs } ∷ numbered_from (suc t) d

-- the output of a text, and what it tells: the refusal of the text; or that no database with the file's row counts, value ranges and keys
-- is a case; or the first case, k and every cell
pub data Says (text : List ℕ) : List ℕ → Told → Type 0 where
  refused : {n l : ℕ} → file_of text ≡ Outcome.refused n l → Says text (text_of (refusal_frame n l ∷ [])) (Told.refused n l)
  none : {F : File} → file_of text ≡ Outcome.accepted F → NoDatabase F → Says text (text_of (no_case_frame ∷ [])) Told.none
  first : {F : File} {k : ℕ} → file_of text ≡ Outcome.accepted F → First F k
      → Says text (text_of (case_frame k ∷ rows_frames 0 (database F k))) (Told.case k (numbered_from 0 (database F k)))
