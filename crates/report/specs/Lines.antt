-- What the functions of this crate leave in a lent buffer. Assumes nothing: these are definitions.
use Rattle.std.specs.Prelude.{◌≡◌, List, [], ◌∷◌, ◌++◌, map, ℕ, ◌+◌, ◌*◌, ◌≤◌, ◌<◌, ℤ, length, take, drop}
use Rattle.value.specs.Value.{Value, shown}
use Rattle.meaning.specs.Syntax.{File}
use Rattle.meaning.specs.Candidates.{cell_count, cut, cells}
use Rattle.meaning.specs.Look.{Answer}
use Rattle.text.specs.Text.{text_of}
use Rattle.catalog.specs.Relations.{width_at, bound_at}
use Rattle.language.specs.Legal.{Legal, table_at}
use Rattle.language.specs.OutputOf.{number_bytes, rows_frames, answer_frames, output_room}
use Rattle.catalog.specs.declared.relation.Relation.{Relation}

-- ---- lines one after the other

-- behind what stood before `at` stand the lines of fs, and behind these what stood there
pub record Grown (fs : List (List ℕ)) (at : ℕ) (out : List ℕ) (r : ℕ) (out' : List ℕ) : Type 0 where
  pub next : r ≡ at + length (text_of fs)
  pub front : take r out' ≡ take at out ++ text_of fs
  pub back : drop r out' ≡ drop r out
  pub size : length out' ≡ length out

-- the bytes of cells behind the first three of a frame
pub record CellsPut (cells : List ℤ) (frame frame' : List ℕ) : Type 0 where
  pub size : length frame' ≡ length frame
  pub put : take (3 + 2 * length cells) frame' ≡ take 3 frame ++ number_bytes cells

-- the line of a table with these cells
pub record TableLined (t rows : ℕ) (cells : List ℤ) (at : ℕ) (out : List ℕ) (r : ℕ) (out' : List ℕ) : Type 0 where
  pub size : length out' ≡ length out
  pub near : r ≤ at + 135
  pub lined : length cells ≤ 32 → at + 135 ≤ length out → Grown ((0x81 ∷ t ∷ rows ∷ number_bytes cells) ∷ []) at out r out'

-- the cells of a file's tables are vs, and `cells` begins with them; `relations` has the tables' sizes
pub record Tabled (F : File) (vs : List Value) (relations : List Relation) (tables : ℕ) (cells : List ℤ) : Type 0 where
  pub legal : Legal F
  pub number : tables ≡ length F.tables
  pub rows : (t : ℕ) → t < tables → bound_at relations t ≡ (table_at F.tables t).rows
  pub columns : (t : ℕ) → t < tables → width_at relations t ≡ length (table_at F.tables t).columns
  pub count : length vs ≡ cell_count F
  pub room : length vs ≤ length cells
  pub shows : take (length vs) cells ≡ map shown vs

pub record TablesLined (relations : List Relation) (tables : ℕ) (cells : List ℤ) (at : ℕ) (out : List ℕ) (r : ℕ) (out' : List ℕ) : Type 0 where
  pub lined : (F : File) (vs : List Value) → Tabled F vs relations tables cells → at + 2160 ≤ length out → Grown (rows_frames 0 (cut F.tables vs)) at out r out'

-- the lines of case k of a file, whose cells these are
pub record CaseLined (relations : List Relation) (tables k : ℕ) (shown_cells : List ℤ) (out : List ℕ) (r : ℕ) (out' : List ℕ) : Type 0 where
  pub lined : (F : File) → Tabled F (cells F k) relations tables shown_cells → output_room ≤ length out → Grown (answer_frames F (Answer.case k)) 0 out r out'
