-- Cells and rows of relations in a work area of any sizes: any number of relations, of rows of each and of columns of a row. Only `position`
-- says where a cell lies; every other definition, and every law on rows, speaks of cells by relation, row and column, so that another
-- layout changes it and the proofs that open it. Assumes nothing: these are definitions, and they compute.
use Rattle.std.specs.Prelude.{◌≡◌, Bool, true, ◌&&◌, cond, List, [], ◌∷◌, ◌++◌, ℕ, zero, suc, ◌+◌, ◌*◌, ◌≤◌, ltb, leb, ℤ, pos, length, get_or, set}
use Rattle.value.specs.Value.{Value, stored}
use Rattle.meaning.specs.Syntax.{Row}
use Rattle.meaning.specs.Evaluation.{missing}
unfoldable pub use Rattle.meaning.specs.Lists.{listed}

-- how many relations, rows of each and columns of a row there are, and numbers kept free behind a relation's rows
pub record Sizes : Type 0 where
  pub relations : ℕ
  pub rows : ℕ
  pub columns : ℕ
  pub free : ℕ

module _ (s : Sizes) where
  -- "Each relation's rows go into its own stretch of the work area"
  abbrev pub stretch : ℕ
  stretch = s.rows * s.columns + s.free

  -- the stretches of all relations
  abbrev pub area : ℕ
  area = s.relations * stretch

  unfoldable pub inside : ℕ → ℕ → ℕ → Bool
  inside r i c = ltb r s.relations && (ltb i s.rows && ltb c s.columns)

  -- a relation's rows lie one after the other
  unfoldable pub position : ℕ → ℕ → ℕ → ℕ
  position r i c = stretch * r + (s.columns * i + c)

  -- a cell by relation, row and column; 0 where there is none
  unfoldable pub cell_in : List ℤ → ℕ → ℕ → ℕ → Value
  cell_in work r i c = cond (inside r i c) (Value.number (get_or work (position r i c) (pos 0))) missing

  -- the work area after one cell becomes v
  unfoldable pub put_cell : List ℤ → ℕ → ℕ → ℕ → Value → List ℤ
  put_cell work r i c v = cond (inside r i c) (set work (position r i c) (stored v)) work

  -- the first w cells of row i of relation r
  unfoldable pub row_in : List ℤ → ℕ → ℕ → ℕ → Row
  row_in work r w i = listed (cell_in work r i) w

  -- the first n rows of relation r, each of width w
  unfoldable pub rows_in : List ℤ → ℕ → ℕ → ℕ → List Row
  rows_in work r w n = listed (row_in work r w) n

  -- the work area after the first w values of a row, one after the other, become the cells of row i
  unfoldable pub put_cells : List ℤ → ℕ → ℕ → ℕ → Row → List ℤ
  put_cells work r i zero row = work
  put_cells work r i (suc c) row = put_cell (put_cells work r i c row) r i c (get_or row c missing)

  -- the work area has a row i of width w of relation r
  unfoldable pub room : List ℤ → ℕ → ℕ → ℕ → Bool
  room work r i w = ltb r s.relations && (ltb i s.rows && (leb w s.columns && leb area (length work)))

  -- the work area after a row of width w becomes row i of relation r; as it was where it has no room
  unfoldable pub put_row : List ℤ → ℕ → ℕ → ℕ → Row → List ℤ
  put_row work r i w row = cond (room work r i w) (put_cells work r i w row) work

  -- a row became row n of relation r: it stands behind the rows before it, and rows before it and those of other relations stay
  pub record RowPut (work : List ℤ) (r n : ℕ) (row : Row) (work' : List ℤ) : Type 0 where
    pub there : rows_in work' r (length row) (suc n) ≡ rows_in work r (length row) n ++ (row ∷ [])
    pub earlier : (r' w' n' : ℕ) → n' ≤ n → rows_in work' r' w' n' ≡ rows_in work r' w' n'
    pub others : (r' w' n' : ℕ) → (r' ≡ r → ⊥) → rows_in work' r' w' n' ≡ rows_in work r' w' n'

  -- ---- what may change

  -- number k of the work area is a cell of relation r
  pub record CellOf (r k : ℕ) : Type 0 where
    pub row : ℕ
    pub column : ℕ
    pub there : inside r row column ≡ true
    pub number : k ≡ position r row column

  -- cells of the relations that P has may change, and no other number: those kept free and those behind the area stay
  pub record OnlyCells (P : ℕ → Type 0) (work work' : List ℤ) : Type 0 where
    pub size : length work' ≡ length work
    pub kept : (k : ℕ) → ((r : ℕ) → P r → CellOf r k → ⊥) → get_or work' k (pos 0) ≡ get_or work k (pos 0)
