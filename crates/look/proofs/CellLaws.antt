-- The cells of one more column, row and table; their number; the cells of tables from one on. Assumes nothing.
use mathlib.Core.Path.{◌≡◌, refl, sym, ap, ap₂, ◌∙◌}
use mathlib.Core.List.{List, [], ◌∷◌, ◌++◌, append_assoc, append-nil}
use Prim.Native.Nat.{ℕ, zero, suc, ◌+◌, ◌*◌, ◌≤◌, ◌<◌}
use native.Mathlib.Nat.{suc-mul, zero-mul, mul-le-mul}
use native.Mathlib.Omega.{arith}
use lib.ListN.{length, set, take, drop, length-append, length-set}
use lib.Seq.{take-suc-set, get_or-set_other}
use Rattle.value.specs.Bag.{All}
use Rattle.value.proofs.Places.{element-here}
use Rattle.meaning.specs.Lists.{copies}
use Rattle.meaning.specs.Syntax.{Table, File}
use Rattle.meaning.specs.Candidates.{cell_columns}
use Rattle.catalog.specs.Relations.{width_at, bound_at}
use Rattle.language.specs.Legal.{LegalTable, table_at}
use Rattle.store.specs.Rows.{listed}
use Rattle.meaning.proofs.Listed.{length-listed}
use Rattle.look.specs.declared.cells.Cell.{Cell}
use Rattle.look.specs.Cells.{cell_of, no_cell, row_cells, table_cells, all_cells, file_cells, FirstCells, OnlyFrom, RowAdded, TableAdded, CellsOf}
use Rattle.catalog.specs.declared.relation.Relation.{Relation}

-- ---- their number

pub length-row : (t i w : ℕ) → length (row_cells t i w) ≡ w
unfolding row_cells
length-row t i w = length-listed (cell_of t i) w

length-table : (t w n : ℕ) → length (table_cells t w n) ≡ n * w
unfolding table_cells
length-table t w zero = sym (zero-mul w)
length-table t w (suc n) =
    length-append (table_cells t w n) (row_cells t n w) ∙ ap₂ ◌+◌ (length-table t w n) (length-row t n w) ∙ sym (suc-mul n w)

-- ---- which entries change

only_none : (n r : ℕ) (cells : List Cell) → OnlyFrom n r cells cells
only_none n r cells = record { size = refl; before = λ i h. refl; behind = λ i h. refl }

only_next : {n m r : ℕ} {a b c : List Cell} → n ≤ m → m ≤ r → OnlyFrom n m a b → OnlyFrom m r b c → OnlyFrom n r a c
only_next h k p q = record {
  size = q.size ∙ p.size;
  before = λ i l. q.before i (omega arith) ∙ p.before i l;
  behind = λ i l. q.behind i l ∙ p.behind i (omega arith);
}

only_set : (n r : ℕ) (x : Cell) (cells : List Cell) → n < r → OnlyFrom n r cells (set cells n x)
only_set n r x cells h = record {
  size = length-set cells n x;
  before = λ i l. get_or-set_other cells n i x no_cell (λ e. omega arith);
  behind = λ i l. get_or-set_other cells n i x no_cell (λ e. omega arith);
}

-- ---- one more

cells-none : {cells xs : List Cell} {n m : ℕ} → FirstCells cells n xs → m ≡ n → FirstCells cells m (xs ++ [])
cells-none {xs = xs} c e = rw (append-nil xs, e) c

cells-one : {cells xs : List Cell} {n : ℕ} (x : Cell) → FirstCells cells n xs → n < length cells → FirstCells (set cells n x) (n + 1) (xs ++ (x ∷ []))
cells-one {cells} {xs} {n} x c h =
    let s : n + 1 ≡ suc n = omega arith in
    record {
      number = length-append xs (x ∷ []) ∙ ap (λ k. k + 1) c.number;
      there = ap (λ k. take k (set cells n x)) s ∙ take-suc-set cells n x h ∙ ap (λ (l : List Cell). l ++ (x ∷ [])) c.there;
    }

pub row-none : (table row n : ℕ) (cells : List Cell) → RowAdded table row 0 n cells (n + 0) cells
unfolding row_cells listed
row-none table row n cells = record { only = only_none n (n + 0) cells; total = refl; added = λ xs c h. cells-none c (omega arith) }

pub row_more : {table row c n : ℕ} {cells₀ cells after : List Cell} → RowAdded table row c n cells₀ (n + c) cells
    → after ≡ set cells (n + c) (cell_of table row c) → RowAdded table row (c + 1) n cells₀ (n + (c + 1)) after
unfolding row_cells listed
row_more {table} {row} {c} {n} {cells₀} {cells} {after} r e =
    let x = cell_of table row c in
    let s : c + 1 ≡ suc c = omega arith in
    let p : n + (c + 1) ≡ n + c + 1 = omega arith in
    record {
      only = only_next (omega arith) (omega arith) r.only (rw e (only_set (n + c) (n + (c + 1)) x cells (omega arith)));
      total = refl;
      added = λ xs k h.
          let one : FirstCells (set cells (n + c) x) (n + c + 1) (xs ++ row_cells table row c ++ (x ∷ [])) =
          cells-one x (r.added xs k (omega arith)) (omega (arith, h, r.only.size)) in
          rw (e, p, s, ← append_assoc xs (row_cells table row c) (x ∷ [])) one;
    }

pub row-all : {table row columns c n : ℕ} {cells₀ cells : List Cell} → RowAdded table row c n cells₀ (n + c) cells → c ≡ columns
    → RowAdded table row columns n cells₀ (n + columns) cells
row-all r e = rw e at r

pub table_none : (table columns n : ℕ) (cells : List Cell) → TableAdded table 0 columns n cells n cells
unfolding table_cells
table_none table columns n cells = record { only = only_none n n cells; total = omega (arith, zero-mul columns); added = λ xs c h. cells-none c refl }

pub table_more : {table i columns n all r : ℕ} {cells₀ cells after : List Cell} → TableAdded table i columns n cells₀ all cells
    → RowAdded table i columns all cells r after → TableAdded table (i + 1) columns n cells₀ r after
unfolding table_cells
table_more {table} {i} {columns} {n} {all} {r} {cells₀} {cells} {after} a b =
    let s : i + 1 ≡ suc i = omega arith in
    record {
      only = only_next (omega (arith, a.total)) (omega (arith, b.total)) a.only b.only;
      total = rw s (omega (arith, a.total, b.total, suc-mul i columns));
      added = λ xs c h.
          let both : FirstCells after r (xs ++ table_cells table columns i ++ row_cells table i columns) =
          b.added (xs ++ table_cells table columns i) (a.added xs c (omega (arith, h, b.total))) (omega (arith, h, a.only.size)) in
          rw (s, ← append_assoc xs (table_cells table columns i) (row_cells table i columns)) both;
    }

pub table-all : {table rows i columns n all : ℕ} {cells₀ cells : List Cell} → TableAdded table i columns n cells₀ all cells → i ≡ rows
    → TableAdded table rows columns n cells₀ all cells
table-all r e = rw e at r

pub tables-none : (relations : List Relation) (cells : List Cell) → CellsOf relations 0 cells 0 cells
unfolding all_cells
tables-none relations cells = record { only = only_none 0 0 cells; total = refl; added = λ h. record { number = refl; there = refl } }

pub tables_more : {relations : List Relation} {cells₀ cells after : List Cell} {t all rows columns r : ℕ} → CellsOf relations t cells₀ all cells
    → rows ≡ bound_at relations t → columns ≡ width_at relations t → TableAdded t rows columns all cells r after → CellsOf relations (t + 1) cells₀ r after
unfolding all_cells
tables_more {relations} {cells₀} {cells} {after} {t} {all} {rows} {columns} {r} a p q b =
    let s : t + 1 ≡ suc t = omega arith in
    let xs = all_cells (bound_at relations) (width_at relations) t in
    record {
      only = only_next (omega arith) (omega (arith, b.total)) a.only b.only;
      total = rw (s, ← p, ← q)
          (omega (arith, a.total, b.total, length-append xs (table_cells t columns rows), length-table t columns rows));
      added = λ h. rw (s, ← p, ← q) (b.added xs (a.added (omega (arith, h, b.total))) (omega (arith, h, a.only.size)));
    }

pub tables-all : {relations : List Relation} {cells₀ cells : List Cell} {t tables all : ℕ} → CellsOf relations t cells₀ all cells → t ≡ tables
    → CellsOf relations tables cells₀ all cells
tables-all r e = rw e at r

-- ---- how many they can be

pub rows_few : {table i columns n all : ℕ} {cells₀ cells : List Cell} → TableAdded table i columns n cells₀ all cells → i ≤ 255 → columns ≤ 255
    → all ≤ n + 65025
rows_few a h k = omega (arith, a.total, mul-le-mul h k)

pub tables-few : {t all rows columns r : ℕ} {cells after : List Cell} → TableAdded t rows columns all cells r after → rows ≤ 255 → columns ≤ 255
    → all ≤ t * 65025 → r ≤ (t + 1) * 65025
tables-few a h k l = omega (arith, a.total, mul-le-mul h k)

-- ---- the cells of tables from table t on

abbrev pub cells_from : ℕ → List Table → List Cell
cells_from t [] = []
cells_from t (x ∷ ts) = table_cells t (length x.columns) x.rows ++ cells_from (suc t) ts

module _ (T : List Table) where
  abbrev cells_before : ℕ → List Cell
  cells_before n = all_cells (λ t. (table_at T t).rows) (λ t. length (table_at T t).columns) n

  cells-from : (t : ℕ) (ts : List Table) → drop t T ≡ ts → cells_before (t + length ts) ≡ cells_before t ++ cells_from t ts
  unfolding all_cells
  cells-from t [] e =
      let s : t + 0 ≡ t = omega arith in
      ap cells_before s ∙ sym (append-nil (cells_before t))
  cells-from t (x ∷ ts) e =
      let none : Table = record { rows = 0; columns = []; key = [] } in
      let s : t + suc (length ts) ≡ suc t + length ts = omega arith in
      let z : suc t ≡ t + 1 = omega arith in
      let h = element-here T t none e in
      let here : table_at T t ≡ x = h.0 in
      let next : drop (suc t) T ≡ ts = ap (λ i. drop i T) z ∙ h.1 in
      let own : table_cells t (length (table_at T t).columns) (table_at T t).rows ≡ table_cells t (length x.columns) x.rows =
      ap (λ (y : Table). table_cells t (length y.columns) y.rows) here in
      ap cells_before s ∙ cells-from (suc t) ts next
      ∙ append_assoc (cells_before t) (table_cells t (length (table_at T t).columns) (table_at T t).rows) (cells_from (suc t) ts)
      ∙ ap (λ (l : List Cell). cells_before t ++ (l ++ cells_from (suc t) ts)) own

pub cells-of : (F : File) → file_cells F ≡ cells_from 0 F.tables
unfolding file_cells all_cells
cells-of F =
    let s : length F.tables ≡ 0 + length F.tables = omega arith in
    ap (cells_before F.tables) s ∙ cells-from F.tables 0 F.tables refl

-- ---- as many as there are cells, and few in legal tables

pub length-copies : {A : Type 0} (n : ℕ) (xs : List A) → length (copies n xs) ≡ n * length xs
length-copies zero xs = sym (zero-mul (length xs))
length-copies (suc n) xs = length-append xs (copies n xs) ∙ omega (arith, length-copies n xs, suc-mul n (length xs))

pub length-cells : (t : ℕ) (ts : List Table) → length (cells_from t ts) ≡ length (cell_columns ts)
length-cells t [] = refl
length-cells t (x ∷ ts) =
    let own = table_cells t (length x.columns) x.rows in
    length-append own (cells_from (suc t) ts)
    ∙ ap₂ ◌+◌ (length-table t (length x.columns) x.rows ∙ sym (length-copies x.rows x.columns)) (length-cells (suc t) ts)
    ∙ sym (length-append (copies x.rows x.columns) (cell_columns ts))

pub cells-few : {ts : List Table} → All LegalTable ts → length (cell_columns ts) ≤ length ts * 32
cells-few All.nil = omega arith
cells-few (All.cons {x = x} {xs = ts} l ls) =
    omega (
      arith,
      length-append (copies x.rows x.columns) (cell_columns ts),
      length-copies x.rows x.columns,
      mul-le-mul l.rows.most l.count.most,
      cells-few ls,
    )

-- the sizes of the tables below n say all of the cells
pub cells_same : {rows rows' columns columns' : ℕ → ℕ} (n : ℕ) → ((t : ℕ) → t < n → rows t ≡ rows' t) → ((t : ℕ) → t < n → columns t ≡ columns' t)
    → all_cells rows columns n ≡ all_cells rows' columns' n
unfolding all_cells
cells_same zero r c = refl
cells_same (suc n) r c = rw (cells_same n (λ t h. r t (omega arith)) (λ t h. c t (omega arith)), r n (omega arith), c n (omega arith))
