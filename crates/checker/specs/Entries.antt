-- The relation that a frame without fault adds. Assumes nothing: these are definitions.
use Rattle.std.specs.Prelude.{◌≡◌, List, ℕ, ◌+◌, ◌*◌, ◌≤◌, ◌<◌, min, get_or}
use Rattle.value.specs.Integer.{bytes_z}
use Rattle.value.specs.Value.{Column}
use Rattle.range.specs.declared.Range.{Range}
use Rattle.range.specs.Ranges.{range_from, hull_of}
use Rattle.meaning.specs.Syntax.{SetOperation}
use Rattle.meaning.specs.Bounds.{set_bound}
use Rattle.catalog.specs.Relations.{no_range, width_at, bound_at, range_at}
use Rattle.catalog.specs.Frames.{columns_start, table_parts_in}
use Rattle.catalog.specs.declared.relation.Relation.{Relation}

-- ---- what is stored

-- the column whose lo and hi are the four bytes at a place
unfoldable pub column_from : List ℕ → ℕ → Column
column_from packed at =
    record { lo = bytes_z (get_or packed at 0) (get_or packed (at + 1) 0); hi = bytes_z (get_or packed (at + 2) 0) (get_or packed (at + 3) 0) }

-- column c of a table's frame
unfoldable pub column_in : List ℕ → ℕ → Range
column_in frame c = let x = column_from frame (4 * c + columns_start) in range_from x.lo x.hi

-- the hull of column c of two relations
unfoldable pub hull_at : List Relation → ℕ → ℕ → ℕ → Range
hull_at rs left right c = hull_of (range_at rs left c) (range_at rs right c)

-- whose ranges join the left's in hulls
abbrev pub joined_with : SetOperation → ℕ → ℕ → ℕ
joined_with SetOperation.union left right = right
joined_with SetOperation.intersection left right = left

-- what is said of the ranges of the first n columns, of at most eight; behind them stands 0 to 0
pub record RangesBy (f : ℕ → Range → Type 0) (n : ℕ) (ranges : List Range) : Type 0 where
  pub column : (c : ℕ) → c < n → c < 8 → f c (get_or ranges c no_range)
  pub rest : (c : ℕ) → n ≤ c → get_or ranges c no_range ≡ no_range

-- ---- the relation of a frame, on any bytes; the place of its frame is noted when every frame has been walked, and is 0 till then

pub record TableOf (frame : List ℕ) (x : Relation) : Type 0 where
  pub width : x.width ≡ (table_parts_in frame).width
  pub bound : x.bound ≡ (table_parts_in frame).rows
  pub mask : x.mask ≡ (table_parts_in frame).mask
  pub start : x.start ≡ 0
  pub ranges : RangesBy (λ c r. r ≡ column_in frame c) x.width x.ranges

-- of relations left and right; a view has no key
pub record SetOf (op : SetOperation) (left right : ℕ) (rs : List Relation) (x : Relation) : Type 0 where
  pub width : let other = joined_with op left right in x.width ≡ min (width_at rs left) (width_at rs other)
  pub bound : x.bound ≡ min (set_bound op (bound_at rs left) (bound_at rs right)) 255
  pub mask : x.mask ≡ 0
  pub start : x.start ≡ 0
  pub ranges : let other = joined_with op left right in RangesBy (λ c r. r ≡ hull_at rs left other c) x.width x.ranges

-- of a basic or an aggregate view, what is neither its row bound nor of its columns
pub record NewView (x : Relation) : Type 0 where
  pub mask : x.mask ≡ 0
  pub start : x.start ≡ 0
  pub rest : (c : ℕ) → x.width ≤ c → get_or x.ranges c no_range ≡ no_range
