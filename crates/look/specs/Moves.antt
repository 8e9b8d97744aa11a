-- The cells of a candidate in the work area, and moves to another candidate. Assumes nothing: these are definitions.
use Rattle.std.specs.Prelude.{◌≡◌, List, map, ℕ, ◌/◌, ◌%◌, ◌≤◌, ◌<◌, ℤ, length, get_or}
use Rattle.value.specs.Bag.{All}
use Rattle.value.specs.Value.{Column, size, digit, narrowed}
use Rattle.meaning.specs.Syntax.{File}
use Rattle.meaning.specs.Candidates.{cell_columns, sizes_product, values, cells}
use Rattle.catalog.specs.Relations.{no_column, column_at}
use Rattle.language.specs.Legal.{Legal}
use Rattle.store.specs.Layout.{area, column_limit, put_cell, OnlyCells}
use Rattle.store.specs.Rows.{row_of}
use Rattle.look.specs.declared.cells.Cell.{Cell}
use Rattle.look.specs.declared.moves.Places.{Places}
use Rattle.look.specs.Cells.{file_cells, cells_in, CellTable}
use Rattle.look.specs.declared.moves.Quotients.{Quotients}
use Rattle.look.specs.declared.moves.TakenRow.{TakenRow}
use Rattle.catalog.specs.declared.relation.Relation.{Relation}

-- the column of a cell
abbrev pub cell_column : List Relation → Cell → Column
cell_column relations x = column_at relations x.table x.column

-- cells, and the relations that say the column of each
pub record CellPlaces : Type 0 where
  pub relations : List Relation
  pub cells : List Cell

abbrev pub places_from : List Relation → List Cell → CellPlaces
places_from relations cells = record { relations = relations; cells = cells }

-- the same of what the code is lent
abbrev pub places_in : Places → CellPlaces
places_in p = places_from p.relations.now p.cells.now

-- the cells are the file's, and the relations say the column of each
pub record Digits (F : File) (p : CellPlaces) : Type 0 where
  pub legal : Legal F
  pub cells-are : p.cells ≡ file_cells F
  pub columns : map (cell_column p.relations) (file_cells F) ≡ cell_columns F.tables
  pub number : length (cell_columns F.tables) ≡ length p.cells

-- the cells of the tables of the cells may change, and no other number. Of cells, ranges and numbers that are of no file no more is said of
-- these cells: each look at a file puts cells and ranges of that file
abbrev pub OnlyTables : CellPlaces → List ℤ → List ℤ → Type 0
OnlyTables p = OnlyCells (CellTable p.cells)

-- of a cell whose column is c, and which has no other digits than those of c
pub record DigitPut (relations : List Relation) (x : Cell) (q : Quotients) (work : List ℤ) (r : Quotients) (work' : List ℤ) : Type 0 where
  pub only : OnlyCells (λ t. t ≡ x.table) work work'
  pub put : (c : Column) → cell_column relations x ≡ c → 0 < size c
      → (work' ≡ put_cell work x.table x.row x.column (narrowed (digit c (q.new % size c)))) × (r.old ≡ q.old / size c) × (r.new ≡ q.new / size c)

-- of a row whose columns are cs, none without digits: the last digits of q, and what is left of q
pub record TakesRow (relations : List Relation) (table width q : ℕ) (r : TakenRow) : Type 0 where
  pub takes : (cs : List Column) → length cs ≡ width → width ≤ column_limit → ((c : ℕ) → c < width → column_at relations table c ≡ get_or cs c no_column)
      → All (λ c. 0 < size c) cs → (row_of r.row width ≡ map narrowed (values cs q)) × (r.left ≡ q / sizes_product cs)

pub record CandidatePut (p : CellPlaces) (k : ℕ) (work work' : List ℤ) : Type 0 where
  pub only : OnlyTables p work work'
  pub placed : (F : File) → Digits F p → area ≤ length work → cells_in work' (file_cells F) ≡ cells F k

pub record Moved (p : CellPlaces) (k next : ℕ) (work work' : List ℤ) : Type 0 where
  pub only : OnlyTables p work work'
  pub moved : (F : File) → Digits F p → area ≤ length work → cells_in work (file_cells F) ≡ cells F k → cells_in work' (file_cells F) ≡ cells F next
