-- What is known of each relation: its numbers of columns and rows, its key mask, the place of its frame and the ranges of its columns. Past
-- the last relation everything is 0. Assumes nothing: these are definitions.
use Rattle.std.specs.Prelude.{◌≡◌, List, [], ◌∷◌, map, ℕ, pos, get_or, set, length}
use Rattle.value.specs.Integer.{narrow16}
use Rattle.value.specs.Value.{Column}
use Rattle.range.specs.declared.Range.{Range}
use Rattle.range.specs.Ranges.{constant_of}
use Rattle.meaning.specs.Bounds.{Schema}
use Rattle.meaning.specs.Lists.{listed}
use Rattle.catalog.specs.declared.relation.Relation.{Relation}

-- the range of a column that is not there
abbrev pub no_range : Range
no_range = constant_of (pos 0)

-- a relation that is not there
abbrev pub no_relation : Relation
no_relation = record {
  width = 0;
  bound = 0;
  mask = 0;
  start = 0;
  ranges = no_range ∷ no_range ∷ no_range ∷ no_range ∷ no_range ∷ no_range ∷ no_range ∷ no_range ∷ [];
}

abbrev pub relation_at : List Relation → ℕ → Relation
relation_at rs r = get_or rs r no_relation

abbrev pub width_at : List Relation → ℕ → ℕ
width_at rs r = (relation_at rs r).width

abbrev pub bound_at : List Relation → ℕ → ℕ
bound_at rs r = (relation_at rs r).bound

abbrev pub mask_at : List Relation → ℕ → ℕ
mask_at rs r = (relation_at rs r).mask

-- the place of its frame
abbrev pub start_at : List Relation → ℕ → ℕ
start_at rs r = (relation_at rs r).start

-- the first n ranges of a list, 0 to 0 past its last
abbrev pub first_ranges : List Range → ℕ → List Range
first_ranges xs n = listed (λ c. get_or xs c no_range) n

-- the ranges of a relation's columns, and its schema
abbrev pub ranges_of : Relation → List Range
ranges_of x = first_ranges x.ranges x.width

abbrev pub ranges_in : List Relation → ℕ → List Range
ranges_in rs r = ranges_of (relation_at rs r)

abbrev pub schema_of : Relation → Schema
schema_of x = record { bound = x.bound; ranges = ranges_of x }

abbrev pub schema_in : List Relation → ℕ → Schema
schema_in rs r = schema_of (relation_at rs r)

-- the ranges of the columns of each from item, the from list being fs
abbrev pub items_in : List Relation → List ℕ → List (List Range)
items_in rs fs = map (ranges_in rs) fs

-- the range of a column; 0 to 0 past the last
abbrev pub range_of : Relation → ℕ → Range
range_of x c = get_or (ranges_of x) c no_range

abbrev pub range_at : List Relation → ℕ → ℕ → Range
range_at rs r c = range_of (relation_at rs r) c

-- what stands for a column past the last
abbrev pub no_column : Column
no_column = record { lo = pos 0; hi = pos 0 }

-- a table's column, which its range tells
unfoldable pub column_at : List Relation → ℕ → ℕ → Column
column_at rs r c = record { lo = narrow16 (range_at rs r c).lo; hi = narrow16 (range_at rs r c).hi }

-- ---- the relations after a store; one past the end is left out

-- the same relation, whose frame stands at another place
abbrev pub with_start : Relation → ℕ → Relation
with_start x at = record { width = x.width; bound = x.bound; mask = x.mask; start = at; ranges = x.ranges }

unfoldable pub put_start : List Relation → ℕ → ℕ → List Relation
put_start rs r at = set rs r (with_start (relation_at rs r) at)

-- what is known of each relation is as it was, but for the place of its frame
pub record Known (rs rs' : List Relation) : Type 0 where
  pub size : length rs' ≡ length rs
  pub same : (r : ℕ) → with_start (relation_at rs' r) 0 ≡ with_start (relation_at rs r) 0
