-- The first placing of a candidate, row by row from the last row back. Assumes nothing.
use mathlib.Core.Path.{◌≡◌, refl, sym, ap, ap₂, subst, ◌∙◌}
use mathlib.Core.List.{List, [], ◌∷◌, ◌++◌, map, map-append, append_assoc, append-nil}
use Prim.Native.Nat.{ℕ, zero, suc, ◌+◌, ◌*◌, ◌-◌, ◌/◌, ◌%◌, ◌≤◌, ◌<◌, min}
use native.Mathlib.Nat.{mul_assoc, one-mul, div-one}
use native.Mathlib.Omega.{arith}
use lib.IntN.{ℤ}
use lib.ListN.{length, get_or, drop, length-append, length-map, drop_of_length-le, get_or-append}
use lib.Seq.{get_or-append-add}
use Rattle.value.specs.Bag.{All}
use Rattle.value.proofs.Values.{all_map}
use Rattle.value.specs.Value.{Value, Column, size, digit, narrowed}
use Rattle.meaning.specs.Syntax.{File, Row}
use Rattle.meaning.specs.Candidates.{cell_columns, sizes_product, values, cells}
use Rattle.meaning.proofs.Elements.{all_append, all-before, all-behind, all-at, map_same}
use Rattle.meaning.proofs.ListSteps.{map_at}
use Rattle.language.specs.Legal.{Legal, LegalTable, LegalColumn, table_at}
use Rattle.catalog.specs.Relations.{column_at}
use Rattle.catalog.proofs.FileLaws.{no_column}
use Rattle.store.specs.Layout.{area, column_limit}
use Rattle.store.specs.Rows.{row_of, with_value, put_row}
use Rattle.store.specs.declared.Row.{Row as Values}
use Rattle.meaning.proofs.Listed.{get_d-listed}
use Rattle.store.proofs.RowLaws.{row-of-length, with-from, put-row, put_keeps, only_same, only-more, only-put-row}
use Rattle.look.specs.declared.cells.Cell.{Cell}
use Rattle.look.specs.Cells.{cell_of, no_cell, row_cells, table_cells, all_cells, file_cells, cell_at, cells_in}
use Rattle.look.specs.Moves.{cell_column, CellPlaces, Digits, OnlyTables, TakesRow, CandidatePut}
use Rattle.look.specs.declared.moves.TakenRow.{TakenRow}
use Rattle.look.proofs.CellLaws.{length-row}
use Rattle.look.proofs.Distinct.{rank_of, rank}
use Rattle.look.proofs.DigitLaws.{div-product, values-step, quotient-step, columns-legal, legal-size, digit-held}
use Rattle.look.proofs.Standing.{all_listed, row-cells}
use Rattle.catalog.specs.declared.relation.Relation.{Relation}

-- ---- the digits of one row, from the last column back

-- the columns that the arrays say, none without digits
pub record RowColumns (relations : List Relation) (table width : ℕ) (cs : List Column) : Type 0 where
  pub number : length cs ≡ width
  pub few : width ≤ column_limit
  pub column : (c : ℕ) → c < width → column_at relations table c ≡ get_or cs c no_column
  pub sized : All (λ c. 0 < size c) cs

-- from column c on the row has the digits of q, and `left` is what is left of q
pub record Taking (relations : List Relation) (table width q c : ℕ) (row : Values) (left : ℕ) : Type 0 where
  pub bound : c ≤ width
  pub taken : (cs : List Column) → RowColumns relations table width cs
      → (drop c (row_of row width) ≡ map narrowed (values (drop c cs) q)) × (left ≡ q / sizes_product (drop c cs))

module _ {relations : List Relation} {table width q : ℕ} where
  pub taking-none : {row : Values} → Taking relations table width q width row q
  taking-none {row} = record {
    bound = omega arith;
    taken = λ cs R.
        let e : drop width cs ≡ [] = drop_of_length-le cs {i = width} (omega (arith, R.number)) in
        let f : drop width (row_of row width) ≡ [] = drop_of_length-le (row_of row width) {i = width} (omega (arith, row-of-length row width)) in
        (f ∙ sym (ap (λ (l : List Column). map narrowed (values l q)) e), sym (ap (λ (l : List Column). q / sizes_product l) e ∙ div-one q));
  }

  module _ {c : ℕ} {row : Values} {left : ℕ} (T : Taking relations table width q c row left) (some : 0 < c) (d : Column) (found : d ≡ column_at relations table (c - 1)) where
    column-here : (cs : List Column) → RowColumns relations table width cs → d ≡ get_or cs (c - 1) no_column
    column-here cs R = found ∙ R.column (c - 1) (omega (arith, T.bound))

    -- no column is without digits
    pub taken_none : {r : TakenRow} → size d ≡ 0 → TakesRow relations table width q r
    taken_none z = record {
      takes = λ cs n few column sized.
          let R : RowColumns relations table width cs = record { number = n; few = few; column = column; sized = sized } in
          let s : size (get_or cs (c - 1) no_column) ≡ 0 = ap size (sym (column-here cs R)) ∙ z in
          absurd (omega (arith, all-at sized no_column (c - 1) (omega (arith, n, T.bound))));
    }

    pub taking-more : {row' : Values} (s : ℕ) (v : Value) → s ≡ size d → v ≡ narrowed (digit d (left % s))
        → ((w : ℕ) → row_of row' w ≡ with_value (row_of row w) (c - 1) v) → Taking relations table width q (c - 1) row' (left / s)
    taking-more {row'} s v k w put = record {
      bound = omega (arith, T.bound);
      taken = λ cs R.
          let i = c - 1 in
          let n : c ≡ suc i = omega arith in
          let x = get_or cs i no_column in
          let l : i < length cs = omega (arith, R.number, T.bound) in
          let (old, rest) = subst (λ j. (drop j (row_of row width) ≡ map narrowed (values (drop j cs) q)) × (left ≡ q / sizes_product (drop j cs))) n (T.taken cs R) in
          let here : d ≡ x = column-here cs R in
          let z : s ≡ size x = k ∙ ap size here in
          let value : v ≡ narrowed (digit x (q / sizes_product (drop (suc i) cs) % size x)) =
          w ∙ ap₂ (λ (a : Column) (b : ℕ). narrowed (digit a (left % b))) here z ∙ ap (λ (b : ℕ). narrowed (digit x (b % size x))) rest in (
            ap (drop i) (put width) ∙ with-from (row_of row width) i v (omega (arith, R.few, T.bound)) (omega (arith, row-of-length row width, T.bound))
                ∙ ap₂ (λ (a : Value) (b : List Value). a ∷ b) value old ∙ sym (ap (map narrowed) (values-step cs i q l)),
            ap₂ (λ (a b : ℕ). a / b) rest z ∙ quotient-step cs i q l,
          );
    }

  pub taken-all : {c : ℕ} {row : Values} {left : ℕ} → Taking relations table width q c row left → c ≤ 0
      → TakesRow relations table width q (record { row = row; left = left })
  taken-all {c} {row} {left} T h = record {
    takes = λ cs n few column sized.
        let z : c ≡ 0 = omega arith in
        (subst (λ j. Taking relations table width q j row left) z T).taken cs (record { number = n; few = few; column = column; sized = sized });
  }

-- ---- the cells of whole rows

-- below `high`, each row behind those before it
pub data WholeRows : List Cell → ℕ → Type 0 where
  none : {high : ℕ} → WholeRows [] high
  more : {xs ys : List Cell} {high : ℕ} (t i w : ℕ) → WholeRows ys (rank_of t i 0) → 0 < w → w ≤ 4 → i < 8 → rank_of t i 4 ≤ high → xs ≡ ys ++ row_cells t i w
      → WholeRows xs high

rows-to : {xs : List Cell} {high high' : ℕ} → high ≤ high' → WholeRows xs high → WholeRows xs high'
rows-to h WholeRows.none = WholeRows.none
rows-to {high = high} {high'} h (WholeRows.more t i w r a b c d e) = WholeRows.more {high = high'} t i w r a b c (omega arith) e

table-whole : (t w n : ℕ) (xs : List Cell) → WholeRows xs (t * 32) → 0 < w → w ≤ 4 → n ≤ 8 → WholeRows (xs ++ table_cells t w n) (rank_of t n 0)
unfolding table_cells
table-whole t w zero xs r a b h = rw (append-nil xs) (rows-to (omega arith) r)
table-whole t w (suc n) xs r a b h =
    WholeRows.more {high = rank_of t (suc n) 0} t n w (table-whole t w n xs r a b (omega arith)) a b (omega arith) (omega arith) (sym (append_assoc xs (table_cells t w n) (row_cells t n w)))

all_whole : (rows columns : ℕ → ℕ) (n : ℕ) → ((t : ℕ) → t < n → (rows t ≤ 8) × (0 < columns t) × (columns t ≤ 4)) → WholeRows (all_cells rows columns n) (n * 32)
unfolding all_cells
all_whole rows columns zero h = WholeRows.none
all_whole rows columns (suc n) h =
    let (few, some, most) = h n (omega arith) in
    rows-to (omega arith) (table-whole n (columns n) (rows n) (all_cells rows columns n) (all_whole rows columns n (λ t l. h t (omega arith))) some most few)

file-whole : (F : File) → Legal F → WholeRows (file_cells F) 512
unfolding file_cells
file-whole F L = rows-to (omega (arith, L.relation_count))
    (all_whole (λ t. (table_at F.tables t).rows) (λ t. length (table_at F.tables t).columns) (length F.tables)
    (λ t l. let p : LegalTable (table_at F.tables t) = all-at L.tables (record { rows = 0; columns = []; key = [] }) t l in
    (p.rows.most, p.count.least, p.count.most)))

-- ---- digits of columns before others

product-append : (a b : List Column) → sizes_product (a ++ b) ≡ sizes_product a * sizes_product b
product-append [] b = sym (one-mul (sizes_product b))
product-append (c ∷ a) b = ap (λ (n : ℕ). size c * n) (product-append a b) ∙ sym (mul_assoc (size c) (sizes_product a) (sizes_product b))

quotient-append : (a b : List Column) (k : ℕ) → k / sizes_product (a ++ b) ≡ k / sizes_product b / sizes_product a
quotient-append a b k = ap (λ (n : ℕ). k / n) (product-append a b) ∙ div-product k (sizes_product a) (sizes_product b)

values-append : (a b : List Column) (k : ℕ) → values (a ++ b) k ≡ values a (k / sizes_product b) ++ values b k
values-append [] b k = refl
values-append (c ∷ a) b k = ap₂ (λ (n : ℕ) (l : List Value). digit c (n % size c) ∷ l) (quotient-append a b k) (values-append a b k)

held : (cs : List Column) (k : ℕ) → All LegalColumn cs → map narrowed (values cs k) ≡ values cs k
held [] k All.nil = refl
held (c ∷ cs) k (All.cons h hs) = ap₂ (λ (v : Value) (l : List Value). v ∷ l) (digit-held c h (k / sizes_product cs)) (held cs k hs)

-- ---- the rows from the last one back

-- a cell behind those before rank `high`
pub record Above (high : ℕ) (y : Cell) : Type 0 where
  pub from : high ≤ rank y
  pub column : y.column < 4

-- the cells of zs are those of candidate k, and those of ys are left
pub record Placing (F : File) (p : CellPlaces) (k : ℕ) (work : List ℤ) (j left : ℕ) : Type 0 where
  pub ys : List Cell
  pub zs : List Cell
  pub high : ℕ
  pub split : file_cells F ≡ ys ++ zs
  pub number : length ys ≡ j
  pub whole : WholeRows ys high
  pub top : high ≤ 512
  pub above : All (Above high) zs
  pub left_is : left ≡ k / sizes_product (map (cell_column p.relations) zs)
  pub there : cells_in work zs ≡ values (map (cell_column p.relations) zs) k

pub record Placed (p : CellPlaces) (k : ℕ) (work₀ work : List ℤ) (j left : ℕ) : Type 0 where
  pub only : OnlyTables p work₀ work
  pub bound : j ≤ length p.cells
  pub placing : (F : File) → Digits F p → area ≤ length work₀ → Placing F p k work j left

row-cell : (t i w c : ℕ) → c < w → get_or (row_cells t i w) c no_cell ≡ cell_of t i c
unfolding row_cells
row-cell t i w c h = get_d-listed (cell_of t i) w c no_cell h

row-above : (t i w : ℕ) → w ≤ 4 → All (Above (rank_of t i 0)) (row_cells t i w)
unfolding row_cells
row-above t i w h = all_listed (cell_of t i) w (λ c l. record { from = omega arith; column = omega arith })

-- the last row of ys, whose last cell is x
pub record LastRow (F : File) (ys zs : List Cell) (high : ℕ) (x : Cell) : Type 0 where
  pub front : List Cell
  pub table : ℕ
  pub row : ℕ
  pub width : ℕ
  pub whole : WholeRows front (rank_of table row 0)
  pub few : width ≤ 4
  pub in_table : row < 8
  pub under : rank_of table row 4 ≤ high
  pub split : file_cells F ≡ front ++ (row_cells table row width ++ zs)
  pub number : length ys ≡ length front + width
  pub table_is : x.table ≡ table
  pub row_is : x.row ≡ row
  pub width_is : min (x.column + 1) 255 ≡ width

last_row : (F : File) {p : CellPlaces} → Digits F p → {ys zs : List Cell} {high j : ℕ} {x : Cell} → WholeRows ys high → file_cells F ≡ ys ++ zs → length ys ≡ j → 0 < j
    → x ≡ get_or p.cells (j - 1) no_cell → LastRow F ys zs high x
last_row F D WholeRows.none split number some read = absurd (omega arith)
last_row F {p} D {ys} {zs} {high} {j} {x} (WholeRows.more {ys = front} t i w before least most row under e) split number some read =
    let R = row_cells t i w in
    let all : file_cells F ≡ front ++ (R ++ zs) = split ∙ ap (λ (l : List Cell). l ++ zs) e ∙ append_assoc front R zs in
    let total : length ys ≡ length front + w = ap length e ∙ length-append front R ∙ ap (λ n. length front + n) (length-row t i w) in
    let place : j - 1 ≡ length front + (w - 1) = omega arith in
    let last : w - 1 < w = omega arith in
    let here : x ≡ cell_of t i (w - 1) =
    read ∙ ap (λ (l : List Cell). get_or l (j - 1) no_cell) (D.cells-are ∙ all)
    ∙ ap (λ n. get_or (front ++ (R ++ zs)) n no_cell) place ∙ get_or-append-add front (R ++ zs) (w - 1) no_cell
    ∙ get_or-append R zs no_cell (w - 1) (omega (arith, length-row t i w))
    ∙ row-cell t i w (w - 1) last in
    let column : x.column ≡ w - 1 = ap (λ (y : Cell). y.column) here in
    record {
      front = front;
      table = t;
      row = i;
      width = w;
      whole = before;
      few = most;
      in_table = row;
      under = under;
      split = all;
      number = total;
      table_is = ap (λ (y : Cell). y.table) here;
      row_is = ap (λ (y : Cell). y.row) here;
      width_is = omega (arith, column);
    }

-- ---- the cells of a row that is put

cells-row : (work : List ℤ) (t i w : ℕ) (row : Row) → t < 16 → i < 8 → w ≤ 4 → area ≤ length work → length row ≡ w
    → cells_in (put_row work t i w row) (row_cells t i w) ≡ row
unfolding cells_in
cells-row work t i w row ht hi hw a e =
    row-cells (put_row work t i w row) t i w ∙ put-row work t i w row ht (omega arith) (omega arith) a e

cells-others : (work : List ℤ) (t i w : ℕ) (row : Row) {high : ℕ} {zs : List Cell} → rank_of t i 4 ≤ high → All (Above high) zs
    → cells_in (put_row work t i w row) zs ≡ cells_in work zs
unfolding cells_in cell_at
cells-others work t i w row {high} h above =
    map_same _ _ (all_map (λ y l. put_keeps work t i w row y.table y.row y.column (λ a b. omega (arith, l.from, l.column))) above)

cells-append : (work : List ℤ) (a b : List Cell) → cells_in work (a ++ b) ≡ cells_in work a ++ cells_in work b
unfolding cells_in
cells-append work a b = map-append (cell_at work) a b

-- ---- one row more

module _ (F : File) {p : CellPlaces} (D : Digits F p) {k : ℕ} {work : List ℤ} {j left : ℕ} {x : Cell} (P : Placing F p k work j left) (some : 0 < j)
    (read : x ≡ get_or p.cells (j - 1) no_cell) where
  abbrev column : Cell → Column
  column = cell_column p.relations

  last : LastRow F P.ys P.zs P.high x
  last = last_row F D P.whole P.split P.number some read

  -- the columns of the last row
  abbrev columns : ℕ
  columns = min (x.column + 1) 255

  pub width_fits : columns ≤ j
  width_fits = omega (arith, last.width_is, last.number, P.number)

  module _ {r : TakenRow} {work' : List ℤ} (room : area ≤ length work) (takes : TakesRow p.relations x.table columns left r)
      (put : work' ≡ put_row work x.table x.row columns (row_of r.row columns)) where
    abbrev t : ℕ
    t = last.table

    abbrev i : ℕ
    i = last.row

    abbrev w : ℕ
    w = last.width

    abbrev own : List Column
    own = map column (row_cells t i w)

    abbrev behind : List Column
    behind = map column P.zs

    small : t < 16
    small = omega (arith, last.under, P.top)

    legal : All LegalColumn own
    legal =
        let e : cell_columns F.tables ≡ map column last.front ++ (own ++ behind) =
        sym D.columns ∙ ap (map column) last.split ∙ map-append column last.front (row_cells t i w ++ P.zs)
        ∙ ap (λ (l : List Column). map column last.front ++ l) (map-append column (row_cells t i w) P.zs) in
        all-before own behind (all-behind (map column last.front) (subst (All LegalColumn) e (columns-legal D.legal.tables)))

    taken : (row_of r.row w ≡ map narrowed (values own left)) × (r.left ≡ left / sizes_product own)
    taken =
        let T : TakesRow p.relations t w left r =
        subst (λ n. TakesRow p.relations t n left r) last.width_is (subst (λ n. TakesRow p.relations n columns left r) last.table_is takes) in
        let number = length-row t i w in
        T.takes own (length-map (row_cells t i w) column ∙ number) (omega (arith, last.few))
        (λ c h. sym (map_at column (row_cells t i w) c no_cell no_column (omega arith) ∙ ap column (row-cell t i w c h)))
        (all_map (λ c h. legal-size c h) legal)

    put-there : work' ≡ put_row work t i w (row_of r.row w)
    put-there =
        put ∙ ap (λ n. put_row work n x.row columns (row_of r.row columns)) last.table_is
        ∙ ap (λ n. put_row work t n columns (row_of r.row columns)) last.row_is ∙ ap (λ n. put_row work t i n (row_of r.row n)) last.width_is

    pub placing-row : Placing F p k work' (j - columns) r.left
    placing-row = record {
      ys = last.front;
      zs = row_cells t i w ++ P.zs;
      high = rank_of t i 0;
      split = last.split;
      number = omega (arith, last.width_is, last.number, P.number);
      whole = last.whole;
      top = omega (arith, small, last.in_table);
      above = all_append (row-above t i w last.few) (all_map (λ y h. record { from = omega (arith, last.under, h.from); column = h.column }) P.above);
      left_is =
          taken.1 ∙ ap (λ n. n / sizes_product own) P.left_is ∙ sym (quotient-append own behind k)
          ∙ sym (ap (λ (l : List Column). k / sizes_product l) (map-append column (row_cells t i w) P.zs));
      there =
          cells-append work' (row_cells t i w) P.zs
          ∙ ap₂ (λ (a b : List Value). a ++ b)
          (ap (λ (l : List ℤ). cells_in l (row_cells t i w)) put-there
          ∙ cells-row work t i w (row_of r.row w) small last.in_table last.few room (row-of-length r.row w)
          ∙ taken.0 ∙ held own left legal ∙ ap (values own) P.left_is)
          (ap (λ (l : List ℤ). cells_in l P.zs) put-there ∙ cells-others work t i w (row_of r.row w) last.under P.above ∙ P.there)
          ∙ sym (values-append own behind k) ∙ sym (ap (λ (l : List Column). values l k) (map-append column (row_cells t i w) P.zs));
    }

-- no row is left
all_placed : (F : File) {p : CellPlaces} → Digits F p → {k : ℕ} {work : List ℤ} {left : ℕ} → Placing F p k work 0 left → cells_in work (file_cells F) ≡ cells F k
unfolding cells
all_placed F {p} D {k} {work} P =
    let e : file_cells F ≡ P.zs = P.split ∙ front P.ys P.number in
    ap (cells_in work) e ∙ P.there ∙ sym (ap (λ (l : List Cell). values (map (cell_column p.relations) l) k) e) ∙ ap (λ (l : List Column). values l k) D.columns
  where
    front : (ys : List Cell) → length ys ≡ 0 → ys ++ P.zs ≡ P.zs
    front [] e = refl
    front (y ∷ ys) e = absurd (omega arith)

module _ {p : CellPlaces} {k : ℕ} {work₀ : List ℤ} where
  pub placed-none : Placed p k work₀ work₀ (length p.cells) k
  unfolding cells_in
  placed-none = record {
    only = only_same work₀;
    bound = omega arith;
    placing = λ F D a. record {
      ys = file_cells F;
      zs = [];
      high = 512;
      split = sym (append-nil (file_cells F));
      number = sym (ap length D.cells-are);
      whole = file-whole F D.legal;
      top = omega arith;
      above = All.nil;
      left_is = sym (div-one k);
      there = refl;
    };
  }

  module _ {work : List ℤ} {j left : ℕ} {x : Cell} (P : Placed p k work₀ work j left) (some : 0 < j) (read : x ≡ get_or p.cells (j - 1) no_cell) where
    module _ {w : ℕ} (e : w ≡ min (x.column + 1) 255) where
      -- a row of a file has its cells
      pub placed-short : j < w → CandidatePut p k work₀ work
      placed-short h = record {
        only = P.only;
        placed = λ F D a. absurd (omega (arith, e, width_fits F D (P.placing F D a) some read));
      }

      pub placed_row : {r : TakenRow} {work' : List ℤ} → TakesRow p.relations x.table w left r → work' ≡ put_row work x.table x.row w (row_of r.row w)
          → Placed p k work₀ work' (j - w) r.left
      placed_row {r} {work'} takes put = record {
        only = only-more P.only (rw put (only-put-row work x.table x.row w (row_of r.row w)
            (record { place = j - 1; there = omega (arith, P.bound); table_is = ap (λ (y : Cell). y.table) (sym read) })));
        bound = omega (arith, P.bound);
        placing = λ F D a.
            rw e (placing-row F D (P.placing F D a) some read (omega (arith, P.only.size)) (rw e at takes) (rw e at put));
      }

  pub placed-all : {work : List ℤ} {j left : ℕ} → Placed p k work₀ work j left → j ≤ 0 → CandidatePut p k work₀ work
  placed-all {work} {j} {left} P h = record {
    only = P.only;
    placed = λ F D a. let z : j ≡ 0 = omega arith in all_placed F D (subst (λ n. Placing F p k work n left) z (P.placing F D a));
  }
