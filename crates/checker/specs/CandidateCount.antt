-- The number of candidates, worked out from the relations. Assumes nothing: these are definitions.
use Rattle.std.specs.Prelude.{◌≡◌, cond, leb, Option, Some, None, List, [], ◌∷◌, ◌++◌, ℕ, zero, suc, ◌+◌, ◌*◌, min, length}
use Rattle.value.specs.Value.{Column, size}
use Rattle.meaning.specs.Lists.{copies}
use Rattle.meaning.specs.Syntax.{Table}
use Rattle.meaning.specs.Candidates.{sizes_product, cell_columns}
use Rattle.language.specs.Check.{candidate_limit}
use Rattle.catalog.specs.Relations.{width_at, bound_at, column_at}
use Rattle.catalog.specs.FileIn.{TablesKnown}
use Rattle.catalog.specs.declared.relation.Relation.{Relation}

-- the first number that is too large stands for all of them
abbrev pub too_many : ℕ
too_many = candidate_limit + 1

-- n times the sizes of the columns, one after the other
unfoldable pub capped_product : ℕ → List Column → ℕ
capped_product n [] = n
capped_product n (c ∷ cs) = capped_product (min (n * size c) too_many) cs

-- ---- the cells that the relations tell

-- n columns of table t, from column c on
unfoldable pub columns_from : List Relation → ℕ → ℕ → ℕ → List Column
columns_from relations t c zero = []
columns_from relations t c (suc n) = column_at relations t c ∷ columns_from relations t (c + 1) n

-- the columns of the cells of table t
unfoldable pub table_cells : List Relation → ℕ → List Column
table_cells relations t = copies (bound_at relations t) (columns_from relations t 0 (width_at relations t))

-- and of n tables from t on
unfoldable pub cells_from : List Relation → ℕ → ℕ → List Column
cells_from relations t zero = []
cells_from relations t (suc n) = table_cells relations t ++ cells_from relations (t + 1) n

-- a number that is not too large
unfoldable pub within_limit : ℕ → Option ℕ
within_limit n = cond (leb n candidate_limit) (Some n) None

-- on any relations; and for tables that the relations stand for
pub record CandidatesOf (relations : List Relation) (tables : ℕ) (r : Option ℕ) : Type 0 where
  pub here : r ≡ within_limit (capped_product 1 (cells_from relations 0 tables))
  pub counted : (ts : List Table) → TablesKnown ts relations → tables ≡ length ts → r ≡ within_limit (sizes_product (cell_columns ts))
