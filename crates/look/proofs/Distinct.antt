-- The ranks of a file's cells rise, so no two cells are one, and a cell that is put changes that cell alone. A rank has 32 for a table and
-- 4 for a row, since no table has more than 8 rows of 4 columns. Assumes nothing.
use mathlib.Core.Path.{◌≡◌, refl, ap, ap₂, ◌∙◌}
use mathlib.Core.List.{List, [], ◌∷◌, ◌++◌, map}
use Prim.Native.Nat.{ℕ, zero, suc, ◌+◌, ◌*◌, ◌≤◌, ◌<◌}
use native.Mathlib.Omega.{arith}
use lib.IntN.{ℤ}
use lib.ListN.{length, get_or, set}
use Rattle.value.specs.Value.{Value}
use Rattle.meaning.specs.Syntax.{File}
use Rattle.meaning.proofs.Elements.{all-at}
use Rattle.language.specs.Legal.{Legal, LegalTable, table_at}
use Rattle.store.specs.Layout.{area, put_cell}
use Rattle.store.specs.Rows.{listed}
use Rattle.store.proofs.CellLaws.{put-cell-there, put-cell-other}
use Rattle.look.specs.declared.cells.Cell.{Cell}
use Rattle.look.specs.Cells.{cell_of, no_cell, row_cells, table_cells, all_cells, file_cells, cell_at, cells_in}

abbrev pub rank_of : ℕ → ℕ → ℕ → ℕ
rank_of t i c = t * 32 + i * 4 + c

abbrev pub rank : Cell → ℕ
rank x = rank_of x.table x.row x.column

-- a cell that a table has room for
pub record InTable (x : Cell) : Type 0 where
  pub row : x.row < 8
  pub column : x.column < 4

-- the ranks rise, from lo on and below hi
pub data Rising : ℕ → List Cell → ℕ → Type 0 where
  nil : {lo hi : ℕ} → lo ≤ hi → Rising lo [] hi
  cons : {lo hi : ℕ} {x : Cell} {xs : List Cell} → lo ≤ rank x → InTable x → Rising (suc (rank x)) xs hi → Rising lo (x ∷ xs) hi

rising_none : (lo hi : ℕ) → lo ≤ hi → Rising lo [] hi
rising_none lo hi h = Rising.nil h

rising-one : (x : Cell) (hi : ℕ) → InTable x → rank x < hi → Rising (rank x) (x ∷ []) hi
rising-one x hi i h = Rising.cons {lo = rank x} {x = x} (omega arith) i (Rising.nil h)

rising-from : {lo mid hi : ℕ} {xs : List Cell} → lo ≤ mid → Rising mid xs hi → Rising lo xs hi
rising-from {lo} {mid} {hi} h (Rising.nil l) = Rising.nil {lo = lo} {hi = hi} (omega arith)
rising-from {lo} h (Rising.cons {x = x} l i r) = Rising.cons {lo = lo} {x = x} (omega arith) i r

rising-append : {lo mid hi : ℕ} {xs ys : List Cell} → Rising lo xs mid → Rising mid ys hi → Rising lo (xs ++ ys) hi
rising-append (Rising.nil l) s = rising-from l s
rising-append (Rising.cons l i r) s = Rising.cons l i (rising-append r s)

rising-to : {lo mid hi : ℕ} {xs : List Cell} → mid ≤ hi → Rising lo xs mid → Rising lo xs hi
rising-to {lo} {mid} {hi} h (Rising.nil l) = Rising.nil {lo = lo} {hi = hi} (omega arith)
rising-to h (Rising.cons l i r) = Rising.cons l i (rising-to h r)

-- the j-th lies between
pub record Within (lo : ℕ) (x : Cell) (hi : ℕ) : Type 0 where
  pub from : lo ≤ rank x
  pub to : rank x < hi
  pub in_table : InTable x

rising-end : {lo hi : ℕ} {xs : List Cell} → Rising lo xs hi → lo ≤ hi
rising-end (Rising.nil l) = l
rising-end (Rising.cons l i r) = let h = rising-end r in omega arith

pub rising-within : {lo hi : ℕ} {xs : List Cell} → Rising lo xs hi → (j : ℕ) → j < length xs → Within lo (get_or xs j no_cell) hi
rising-within (Rising.nil l) j h = absurd (omega arith)
rising-within (Rising.cons {x = x} l i r) zero h = let e = rising-end r in record { from = l; to = omega arith; in_table = i }
rising-within (Rising.cons {x = x} l i r) (suc j) h =
    let w = rising-within r j (omega arith) in record { from = omega (arith, w.from); to = w.to; in_table = w.in_table }

-- ---- the cells

row-rising : (t i w : ℕ) → i < 8 → w ≤ 4 → Rising (rank_of t i 0) (row_cells t i w) (rank_of t i w)
unfolding row_cells listed
row-rising t i zero a b = rising_none (rank_of t i 0) (rank_of t i 0) (omega arith)
row-rising t i (suc w) a b =
    rising-append (row-rising t i w a (omega arith)) (rising-one (cell_of t i w) (rank_of t i (suc w)) (record { row = a; column = omega arith }) (omega arith))

table-rising : (t w n : ℕ) → w ≤ 4 → n ≤ 8 → Rising (rank_of t 0 0) (table_cells t w n) (rank_of t n 0)
unfolding table_cells
table-rising t w zero h k = rising_none (rank_of t 0 0) (rank_of t 0 0) (omega arith)
table-rising t w (suc n) h k = rising-append (table-rising t w n h (omega arith)) (rising-to (omega arith) (row-rising t n w (omega arith) h))

all-rising : (rows columns : ℕ → ℕ) (n : ℕ) → ((t : ℕ) → t < n → (rows t ≤ 8) × (columns t ≤ 4)) → Rising 0 (all_cells rows columns n) (n * 32)
unfolding all_cells
all-rising rows columns zero h = rising_none 0 0 (omega arith)
all-rising rows columns (suc n) h =
    let l : (rows n ≤ 8) × (columns n ≤ 4) = h n (omega arith) in
    let r : Rising (rank_of n 0 0) (table_cells n (columns n) (rows n)) (suc n * 32) =
    rising-to (omega (arith, l.0)) (table-rising n (columns n) (rows n) l.1 l.0) in
    rising-append (all-rising rows columns n (λ t k. h t (omega arith))) (rising-from (omega arith) r)

-- below the ranks of a table that is not there
pub cells-inside : (F : File) → Legal F → Rising 0 (file_cells F) (length F.tables * 32)
unfolding file_cells
cells-inside F h =
    all-rising (λ t. (table_at F.tables t).rows) (λ t. length (table_at F.tables t).columns) (length F.tables)
    (λ t l. let p : LegalTable (table_at F.tables t) = all-at h.tables (record { rows = 0; columns = []; key = [] }) t l in
    (p.rows.most, p.count.most))

pub cells-rise : (F : File) → Legal F → Rising 0 (file_cells F) 512
cells-rise F h = rising-to (omega (arith, h.relation_count)) (cells-inside F h)

-- ---- one cell

same_map : {lo hi : ℕ} {xs : List Cell} (f g : Cell → Value) → Rising lo xs hi → ((y : Cell) → lo ≤ rank y → f y ≡ g y) → map f xs ≡ map g xs
same_map f g (Rising.nil l) h = refl
same_map f g (Rising.cons {x = x} l i r) h = ap₂ (λ (v : Value) (vs : List Value). v ∷ vs) (h x l) (same_map f g r (λ y k. h y (omega arith)))

one-changed : {lo hi : ℕ} {xs : List Cell} (f g : Cell → Value) (v : Value) → Rising lo xs hi → (j : ℕ) → j < length xs → f (get_or xs j no_cell) ≡ v
    → ((y : Cell) → (y ≡ get_or xs j no_cell → ⊥) → f y ≡ g y) → map f xs ≡ set (map g xs) j v
one-changed f g v (Rising.nil l) j h e d = absurd (omega arith)
one-changed f g v (Rising.cons {x = x} l i r) zero h e d =
    ap₂ (λ (v : Value) (vs : List Value). v ∷ vs) e (same_map f g r (λ y k. d y (λ q. let s : rank y ≡ rank x = ap rank q in omega arith)))
one-changed f g v (Rising.cons {x = x} {xs = xs} l i r) (suc j) h e d =
    let w = rising-within r j (omega arith) in
    ap₂ (λ (v : Value) (vs : List Value). v ∷ vs) (d x (λ q. let s : rank x ≡ rank (get_or xs j no_cell) = ap rank q in omega (arith, w.from)))
    (one-changed f g v r j (omega arith) e d)

-- a cell is that of one table, row and column
same-cell : (x y : Cell) → y.table ≡ x.table → y.row ≡ x.row → y.column ≡ x.column → y ≡ x
same-cell x y a b c = ap₂ (λ (t i : ℕ). cell_of t i y.column) a b ∙ ap (cell_of x.table x.row) c

pub cell-put : (work : List ℤ) (xs : List Cell) (j : ℕ) (v : Value) {lo : ℕ} → Rising lo xs 512 → j < length xs → area ≤ length work
    → (let x = get_or xs j no_cell in cells_in (put_cell work x.table x.row x.column v) xs) ≡ set (cells_in work xs) j v
unfolding cells_in cell_at
cell-put work xs j v r h a =
    let x = get_or xs j no_cell in
    let w = rising-within r j h in
    let work' = put_cell work x.table x.row x.column v in
    one-changed (cell_at work') (cell_at work) v r j h
    (put-cell-there work x.table x.row x.column v (omega (arith, w.to)) (omega (arith, w.in_table.row)) (omega (arith, w.in_table.column)) a)
    (λ y d. put-cell-other work x.table x.row x.column v y.table y.row y.column (λ p q s. d (same-cell x y p q s)))
