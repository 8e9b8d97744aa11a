-- The work area of a look: cells at its sizes. Assumes nothing: these are definitions, and they compute.
use Rattle.std.specs.Prelude.{Bool, List, ℕ, ℤ}
use Rattle.value.specs.Value.{Value}
use Rattle.store.specs.Strides
use Rattle.store.specs.Strides.{Sizes}

-- how many relations, rows of each and columns of a row there are
abbrev pub relation_limit : ℕ
relation_limit = 16

abbrev pub row_limit : ℕ
row_limit = 64

abbrev pub column_limit : ℕ
column_limit = 8

abbrev pub sizes : Sizes
sizes = record { relations = relation_limit; rows = row_limit; columns = column_limit; free = 64 }

-- a relation has its rows, and 64 numbers kept free
abbrev pub stretch : ℕ
stretch = Strides.stretch sizes

-- the stretches of all relations
abbrev pub area : ℕ
area = Strides.area sizes

abbrev pub inside : ℕ → ℕ → ℕ → Bool
inside = Strides.inside sizes

abbrev pub position : ℕ → ℕ → ℕ → ℕ
position = Strides.position sizes

abbrev pub cell_in : List ℤ → ℕ → ℕ → ℕ → Value
cell_in = Strides.cell_in sizes

abbrev pub put_cell : List ℤ → ℕ → ℕ → ℕ → Value → List ℤ
put_cell = Strides.put_cell sizes

abbrev pub CellOf : ℕ → ℕ → Type 0
CellOf = Strides.CellOf sizes

abbrev pub OnlyCells : (ℕ → Type 0) → List ℤ → List ℤ → Type 0
OnlyCells = Strides.OnlyCells sizes
