-- "The cells of tables, rows, columns, in that order", and what cells the work area has. Assumes nothing: these are definitions, and they
-- compute.
use Rattle.std.specs.Prelude.{◌≡◌, List, [], ◌++◌, map, ℕ, zero, suc, ◌+◌, ◌*◌, ◌≤◌, ◌<◌, ℤ, length, get_or, take}
use Rattle.value.specs.Value.{Value}
use Rattle.meaning.specs.Syntax.{File}
use Rattle.catalog.specs.Relations.{width_at, bound_at}
use Rattle.language.specs.Legal.{table_at}
use Rattle.store.specs.Layout.{cell_in}
use Rattle.store.specs.Rows.{listed}
use Rattle.look.specs.declared.cells.Cell.{Cell}
use Rattle.catalog.specs.declared.relation.Relation.{Relation}

abbrev pub cell_of : ℕ → ℕ → ℕ → Cell
cell_of t i c = record { table = t; row = i; column = c }

-- what stands for a cell behind the last
abbrev pub no_cell : Cell
no_cell = cell_of 0 0 0

-- the cells of a row of w columns, of n such rows of a table, and of n tables, of which `rows` and `columns` say the sizes
unfoldable pub row_cells : ℕ → ℕ → ℕ → List Cell
row_cells t i w = listed (cell_of t i) w

unfoldable pub table_cells : ℕ → ℕ → ℕ → List Cell
table_cells t w zero = []
table_cells t w (suc n) = table_cells t w n ++ row_cells t n w

unfoldable pub all_cells : (ℕ → ℕ) → (ℕ → ℕ) → ℕ → List Cell
all_cells rows columns zero = []
all_cells rows columns (suc n) = all_cells rows columns n ++ table_cells n (columns n) (rows n)

-- the cells of a file
unfoldable pub file_cells : File → List Cell
file_cells F = all_cells (λ t. (table_at F.tables t).rows) (λ t. length (table_at F.tables t).columns) (length F.tables)

-- what the work area has of a cell
unfoldable pub cell_at : List ℤ → Cell → Value
cell_at work x = cell_in work x.table x.row x.column

-- the cells that the work area has
unfoldable pub cells_in : List ℤ → List Cell → List Value
cells_in work xs = map (cell_at work) xs

-- ---- what the code gives

-- the first n cells are xs
pub record FirstCells (cells : List Cell) (n : ℕ) (xs : List Cell) : Type 0 where
  pub number : length xs ≡ n
  pub there : take n cells ≡ xs

-- only entries from n on and before r change
pub record OnlyFrom (n r : ℕ) (cells cells' : List Cell) : Type 0 where
  pub size : length cells' ≡ length cells
  pub before : (i : ℕ) → i < n → get_or cells' i no_cell ≡ get_or cells i no_cell
  pub behind : (i : ℕ) → r ≤ i → get_or cells' i no_cell ≡ get_or cells i no_cell

-- relation r is that of one of the cells
pub record CellTable (cells : List Cell) (r : ℕ) : Type 0 where
  pub place : ℕ
  pub there : place < length cells
  pub table_is : (get_or cells place no_cell).table ≡ r

pub record RowAdded (table row columns n : ℕ) (cells : List Cell) (r : ℕ) (cells' : List Cell) : Type 0 where
  pub only : OnlyFrom n r cells cells'
  pub total : r ≡ n + columns
  pub added : (xs : List Cell) → FirstCells cells n xs → r ≤ length cells → FirstCells cells' r (xs ++ row_cells table row columns)

pub record TableAdded (table rows columns n : ℕ) (cells : List Cell) (r : ℕ) (cells' : List Cell) : Type 0 where
  pub only : OnlyFrom n r cells cells'
  pub total : r ≡ n + rows * columns
  pub added : (xs : List Cell) → FirstCells cells n xs → r ≤ length cells → FirstCells cells' r (xs ++ table_cells table columns rows)

pub record CellsOf (relations : List Relation) (tables : ℕ) (cells : List Cell) (r : ℕ) (cells' : List Cell) : Type 0 where
  pub only : OnlyFrom 0 r cells cells'
  pub total : r ≡ length (all_cells (bound_at relations) (width_at relations) tables)
  pub added : r ≤ length cells → FirstCells cells' r (all_cells (bound_at relations) (width_at relations) tables)
