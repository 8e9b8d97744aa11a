-- The rows of one relation written behind rows of another, a union and an intersection: what the work area holds afterwards, of any input, and
-- which rows these are where the target has room and is not read. Assumes nothing: these are definitions.
use Rattle.std.specs.Prelude.{◌≡◌, Bool, true, false, cond, List, ◌++◌, ℕ, zero, suc, ◌+◌, ◌≤◌, ◌<◌, ltb, ℤ, length}
use Rattle.value.specs.Bag.{count}
use Rattle.meaning.specs.Lists.{common}
use Rattle.meaning.specs.Evaluation.{row_test}
use Rattle.store.specs.Layout.{relation_limit, row_limit, column_limit, area, OnlyCells}
use Rattle.store.specs.Rows.{row_in, rows_in, put_row}

-- only cells of relation r change
pub record Apart (r : ℕ) (work work' : List ℤ) : Type 0 where
  pub only : OnlyCells (λ i. i ≡ r) work work'
  pub size : length work' ≡ length work

-- the work area has room for n rows of width w of relation r
pub record Fits (r n w : ℕ) (work : List ℤ) : Type 0 where
  pub relation : r < relation_limit
  pub rows : n ≤ row_limit
  pub columns : w ≤ column_limit
  pub whole : area ≤ length work

-- the first n rows of a relation, each as it is by then, go behind `at` rows of another; one that has no room is left out
unfoldable pub copy_rows : List ℤ → ℕ → ℕ → ℕ → ℕ → ℕ → List ℤ
copy_rows work source zero to at w = work
copy_rows work source (suc n) to at w = let now = copy_rows work source n to at w in put_row now to (at + n) w (row_in now source w n)

pub record Copied (work : List ℤ) (source n to at w : ℕ) (work' : List ℤ) : Type 0 where
  pub here : work' ≡ copy_rows work source n to at w
  pub apart : Apart to work work'
  pub rows : (source ≡ to → ⊥) → Fits to (at + n) w work → rows_in work' to w (at + n) ≡ rows_in work to w at ++ rows_in work source w n

-- "Union: left rows first"
pub record Union (work : List ℤ) (left m right n to w : ℕ) (work' : List ℤ) : Type 0 where
  pub here : work' ≡ copy_rows (copy_rows work left m to 0 w) right n to m w
  pub apart : Apart to work work'
  pub rows : (left ≡ to → ⊥) → (right ≡ to → ⊥) → Fits to (m + n) w work → rows_in work' to w (m + n) ≡ rows_in work left w m ++ rows_in work right w n

-- ---- intersection

-- what appending row i of a relation, or not, leaves
pub record Appended (keep : Bool) (work : List ℤ) (source i to at w r : ℕ) (work' : List ℤ) : Type 0 where
  pub yes : keep ≡ true → (work' ≡ put_row work to at w (row_in work source w i)) × (r ≡ at + 1)
  pub no : keep ≡ false → (work' ≡ work) × (r ≡ at)

-- the work area, and how many rows are kept
pub record KeptRows : Type 0 where
  pub work : List ℤ
  pub kept : ℕ

-- with row i of the left, which is kept while the right has it more often than the left had it before
abbrev pub kept_next : ℕ → ℕ → ℕ → ℕ → ℕ → ℕ → KeptRows → KeptRows
kept_next left right n to w i s =
    let row = row_in s.work left w i in
    cond (ltb (count row_test row (rows_in s.work left w i)) (count row_test row (rows_in s.work right w n)))
    (record { work = put_row s.work to s.kept w row; kept = s.kept + 1 }) s

-- with the first m rows of the left, each as it is by then
unfoldable pub kept_rows : List ℤ → ℕ → ℕ → ℕ → ℕ → ℕ → ℕ → KeptRows
kept_rows work left zero right n to w = record { work = work; kept = 0 }
kept_rows work left (suc i) right n to w = kept_next left right n to w i (kept_rows work left i right n to w)

-- "Intersection: the earliest such rows of the left"
pub record Intersection (work : List ℤ) (left m right n to w kept : ℕ) (work' : List ℤ) : Type 0 where
  pub here : record { work = work'; kept = kept } ≡ kept_rows work left m right n to w
  pub apart : Apart to work work'
  pub few : kept ≤ m
  pub rows : (left ≡ to → ⊥) → (right ≡ to → ⊥) → Fits to m w work
      → rows_in work' to w kept ≡ common row_test (rows_in work left w m) (rows_in work right w n)
