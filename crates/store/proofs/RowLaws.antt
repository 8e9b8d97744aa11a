-- Laws on the rows of relations in the work area of a look: those of `StrideLaws` at its sizes; and rows by value. Assumes nothing.
use mathlib.Core.Path.{◌≡◌, refl, sym, ap, ◌∙◌}
use mathlib.Core.List.{List, [], ◌∷◌, ◌++◌, map}
use Prim.Native.Nat.{ℕ, zero, suc, ◌+◌, ◌≤◌, ◌<◌}
use native.Mathlib.Numerals.{add-one}
use lib.IntN.{ℤ}
use lib.ListN.{length, get_or, set, drop, replicate, length-map}
use lib.Seq.{get_or-set_same, get_or-set_other}
use borrow.Author.Tests.{lt-ltb, le-ltb}
use Rattle.value.specs.Value.{Value}
use Rattle.value.specs.Machine.{value_of}
use Rattle.value.specs.declared.datum.Datum.{Datum}
use Rattle.value.proofs.Decides.{by-test}
use Rattle.value.proofs.Places.{get_d-all}
use Rattle.meaning.specs.Syntax.{Row}
use Rattle.meaning.specs.Evaluation.{missing}
use Rattle.meaning.proofs.ListSteps.{map_at}
use Rattle.store.specs.Strides
use Rattle.store.specs.Layout.{sizes, cell_in, put_cell, relation_limit, row_limit, column_limit, area, OnlyCells}
use Rattle.store.specs.Rows.{listed, row_in, rows_in, put_cells, room, put_row, row_of, with_value}
use Rattle.store.specs.declared.Row.{Row as Values}
use Rattle.meaning.proofs.Listed.{listed_same, length-listed, get_d-listed, set_last, set-listed, drop-set, map-set}
use Rattle.store.proofs.StrideLaws

-- ---- reading

pub rows_none : (work : List ℤ) (r w : ℕ) → rows_in work r w zero ≡ []
unfolding rows_in
rows_none = StrideLaws.rows_none sizes

pub rows_more : (work : List ℤ) (r w n : ℕ) → rows_in work r w (suc n) ≡ rows_in work r w n ++ (row_in work r w n ∷ [])
unfolding rows_in row_in
rows_more = StrideLaws.rows_more sizes

pub rows-length : (work : List ℤ) (r w n : ℕ) → length (rows_in work r w n) ≡ n
unfolding rows_in
rows-length = StrideLaws.rows-length sizes

pub row-length : (work : List ℤ) (r w i : ℕ) → length (row_in work r w i) ≡ w
unfolding row_in
row-length = StrideLaws.row-length sizes

pub row-of-rows : (work : List ℤ) (r w n i : ℕ) → i < n → get_or (rows_in work r w n) i [] ≡ row_in work r w i
unfolding rows_in row_in
row-of-rows = StrideLaws.row-of-rows sizes

pub cell-of-row : (work : List ℤ) (r w i c : ℕ) → c < w → get_or (row_in work r w i) c missing ≡ cell_in work r i c
unfolding row_in
cell-of-row = StrideLaws.cell-of-row sizes

pub cell-of-rows : (work : List ℤ) (r w n i c : ℕ) → i < n → c < w → get_or (get_or (rows_in work r w n) i []) c missing ≡ cell_in work r i c
cell-of-rows work r w n i c hi hc = rw (row-of-rows work r w n i hi) (cell-of-row work r w i c hc)

-- ---- a row is put

pub put-length : (work : List ℤ) (r i w : ℕ) (row : Row) → length (put_row work r i w row) ≡ length work
put-length = StrideLaws.put-length sizes

-- a row is looked at only where there is room for it
pub put-read : (work : List ℤ) (r i w : ℕ) (row row' : Row) → (w ≤ column_limit → row ≡ row') → put_row work r i w row ≡ put_row work r i w row'
put-read work r i w row row' h =
    by-test (room work r i w)
    (λ e. ap (put_row work r i w) (h (StrideLaws.room-limits sizes work r i w e).2))
    (λ e. StrideLaws.put-none sizes work r i w row e ∙ sym (StrideLaws.put-none sizes work r i w row' e))

-- every other relation keeps its rows
pub put_other : (work : List ℤ) (r i w : ℕ) (row : Row) (r' w' n' : ℕ) → (r' ≡ r → ⊥) → rows_in (put_row work r i w row) r' w' n' ≡ rows_in work r' w' n'
unfolding rows_in
put_other = StrideLaws.put_other sizes

-- every cell of another relation or row keeps, and the row is there
pub put_keeps : (work : List ℤ) (r i w : ℕ) (row : Row) (r' i' c' : ℕ) → (r' ≡ r → i' ≡ i → ⊥) → cell_in (put_row work r i w row) r' i' c' ≡ cell_in work r' i' c'
put_keeps = StrideLaws.put_keeps sizes

pub put-row : (work : List ℤ) (r i w : ℕ) (row : Row) → r < relation_limit → i < row_limit → w ≤ column_limit → area ≤ length work → length row ≡ w
    → row_in (put_row work r i w row) r w i ≡ row
unfolding row_in
put-row = StrideLaws.put-row sizes

-- the relation grows by the row
pub put-grows : (work : List ℤ) (r n w : ℕ) (row : Row) → r < relation_limit → n < row_limit → w ≤ column_limit → area ≤ length work → length row ≡ w
    → rows_in (put_row work r n w row) r w (suc n) ≡ rows_in work r w n ++ (row ∷ [])
unfolding rows_in
put-grows = StrideLaws.put-grows sizes

-- ---- what may change

module _ {P : ℕ → Type 0} where
  pub only_same : (work : List ℤ) → OnlyCells P work work
  only_same = StrideLaws.only_same sizes

  pub only-more : {a b c : List ℤ} → OnlyCells P a b → OnlyCells P b c → OnlyCells P a c
  only-more = StrideLaws.only-more sizes

  pub only_wider : {Q : ℕ → Type 0} {a b : List ℤ} → ((r : ℕ) → P r → Q r) → OnlyCells P a b → OnlyCells Q a b
  only_wider = StrideLaws.only_wider sizes

  pub only-put-cell : (work : List ℤ) (r i c : ℕ) (v : Value) → P r → OnlyCells P work (put_cell work r i c v)
  only-put-cell = StrideLaws.only-put-cell sizes

  pub only-put-row : (work : List ℤ) (r i w : ℕ) (row : Row) → P r → OnlyCells P work (put_row work r i w row)
  only-put-row = StrideLaws.only-put-row sizes

  -- the rows of every other relation stay
  pub only-rows : {work work' : List ℤ} → OnlyCells P work work' → (r w n : ℕ) → (P r → ⊥) → rows_in work' r w n ≡ rows_in work r w n
  unfolding rows_in
  only-rows = StrideLaws.only-rows sizes

-- ---- rows by value

pub row-of-none : (row : Values) → row_of row zero ≡ []
unfolding row_of listed
row-of-none row = refl

pub row-of-length : (row : Values) (w : ℕ) → length (row_of row w) ≡ w
unfolding row_of
row-of-length row w = length-listed (λ c. get_or (map value_of row.values) c missing) w

-- one value more
pub with-next : (row : Values) (c : ℕ) (v : Value) → c < column_limit → with_value (row_of row (suc c)) c v ≡ row_of row c ++ (v ∷ [])
unfolding with_value row_of
with-next row c v h = rw (lt-ltb c column_limit h) (set_last (λ c. get_or (map value_of row.values) c missing) c v)

-- column c becomes v
pub with-set : (row : Values) (c : ℕ) (v : Datum) (w : ℕ) → c < column_limit → c < length row.values
    → row_of (record { values = set row.values c v }) w ≡ with_value (row_of row w) c (value_of v)
unfolding with_value row_of
with-set row c v w h l =
    let vs = map value_of row.values in
    rw (lt-ltb c column_limit h, map-set value_of row.values c v)
    (set-listed (λ k. get_or vs k missing) (λ k. get_or (set vs c (value_of v)) k missing) w c (value_of v)
    (get_or-set_same vs c (value_of v) missing (rw length-map l)) (λ k n. get_or-set_other vs c k (value_of v) missing n))

-- a column and those behind it
pub with-from : (row : Row) (c : ℕ) (v : Value) → c < column_limit → c < length row → drop c (with_value row c v) ≡ v ∷ drop (suc c) row
unfolding with_value
with-from row c v h l = rw (lt-ltb c column_limit h) (drop-set row c v l)

pub with-past : (row : Row) (c : ℕ) (v : Value) → column_limit ≤ c → with_value row c v ≡ row
unfolding with_value
with-past row c v h = rw (le-ltb c column_limit h)

pub row-of-all : (n : ℕ) (row : Values) (w : ℕ) → map value_of row.values ≡ replicate n missing → row_of row w ≡ listed (λ _. missing) w
unfolding row_of
row-of-all n row w e = rw e (listed_same (λ k. get_or (replicate n missing) k missing) (λ _. missing) w (λ k _. get_d-all n k missing))

-- value c of a row
value-of-row : (row : Values) (w c : ℕ) (d : Datum) → c < w → c < length row.values → get_or (row_of row w) c missing ≡ value_of (get_or row.values c d)
unfolding row_of
value-of-row row w c d h l = get_d-listed (λ k. get_or (map value_of row.values) k missing) w c missing h ∙ map_at value_of row.values c d missing l

-- a turn of the loop that puts a row's cells
pub put_next : (work before after : List ℤ) (i w c : ℕ) (row : Values) (d : Datum) → c < w → c < length row.values
    → before ≡ put_cells work 0 i c (row_of row w) → after ≡ put_cell before 0 i c (value_of (get_or row.values c d)) → after ≡ put_cells work 0 i (c + 1) (row_of row w)
unfolding Strides.put_cells
put_next work before after i w c row d h l e q = rw (add-one, value-of-row row w c d h l, ← e) q
