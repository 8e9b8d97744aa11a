-- The rows of a relation in the work area of a look: "the relation at r has the rows rs" is the equation rows_in work r w n ≡ rs. Assumes
-- nothing: these are definitions, and they compute.
use Rattle.std.specs.Prelude.{Bool, cond, List, map, ℕ, ltb, ℤ, get_or, set}
use Rattle.value.specs.Value.{Value}
use Rattle.value.specs.Machine.{value_of}
use Rattle.meaning.specs.Syntax.{Row}
use Rattle.meaning.specs.Evaluation.{missing}
use Rattle.store.specs.Strides
unfoldable pub use Rattle.store.specs.Strides.{listed}
use Rattle.store.specs.Layout.{sizes, column_limit}
use Rattle.store.specs.declared.Row.{Row as Values}

-- the first w cells of row i of relation r
unfoldable pub row_in : List ℤ → ℕ → ℕ → ℕ → Row
unfolding Strides.row_in
row_in = Strides.row_in sizes

-- the first n rows of relation r, each of width w
unfoldable pub rows_in : List ℤ → ℕ → ℕ → ℕ → List Row
unfolding Strides.rows_in row_in
rows_in = Strides.rows_in sizes

abbrev pub put_cells : List ℤ → ℕ → ℕ → ℕ → Row → List ℤ
put_cells = Strides.put_cells sizes

abbrev pub room : List ℤ → ℕ → ℕ → ℕ → Bool
room = Strides.room sizes

abbrev pub put_row : List ℤ → ℕ → ℕ → ℕ → Row → List ℤ
put_row = Strides.put_row sizes

-- ---- rows by value

-- the first w values; 0 past the last
unfoldable pub row_of : Values → ℕ → Row
row_of row w = listed (λ c. get_or (map value_of row.values) c missing) w

-- a row with v at column c; past the last column the row as it is
unfoldable pub with_value : Row → ℕ → Value → Row
with_value row c v = cond (ltb c column_limit) (set row c v) row
