-- The arrays say the column of each cell, and tables whose cells are those of a candidate are those of its database. Assumes nothing.
use mathlib.Core.Path.{◌≡◌, refl, sym, ap, ap₂, subst, ◌∙◌}
use mathlib.Core.List.{List, [], ◌∷◌, ◌++◌, map, map-append, append_assoc, append-nil}
use Prim.Native.Nat.{ℕ, zero, suc, ◌+◌, ◌*◌, ◌≤◌, ◌<◌}
use native.Mathlib.Omega.{arith}
use lib.IntN.{ℤ}
use lib.ListN.{length, get_or, take, drop}
use lib.Seq.{drop_at}
use Rattle.value.specs.Bag.{All}
use Rattle.value.specs.Value.{Value}
use Rattle.meaning.specs.Lists.{copies, joined}
use Rattle.meaning.specs.Syntax.{Table, File, Row, Database}
use Rattle.meaning.specs.Candidates.{cell_columns, cut_rows, cut, cells, database}
use Rattle.meaning.proofs.Elements.{all_append}
use Rattle.meaning.proofs.Numbering.{length-joined, cut-joined}
use Rattle.catalog.specs.Relations.{width_at, bound_at, column_at}
use Rattle.catalog.specs.FileIn.{Source, FileIn}
use Rattle.catalog.proofs.FileLaws.{no_column, rows_are, columns-are, column-is}
use Rattle.language.specs.Legal.{Legal, LegalTable, table_at}
use Rattle.store.specs.Layout.{cell_in}
use Rattle.store.specs.Rows.{listed, row_in, rows_in}
use Rattle.meaning.proofs.Listed.{listed_same, length-listed, listed-get_d}
use Rattle.store.proofs.RowLaws.{rows-length}
use Rattle.look.specs.declared.cells.Cell.{Cell}
use Rattle.look.specs.Cells.{cell_of, row_cells, table_cells, all_cells, file_cells, cell_at, cells_in, CellsOf}
use Rattle.look.specs.Moves.{cell_column, places_from, Digits}
use Rattle.look.proofs.CellLaws.{cells_from, cells-of, cells-few, cells_same, length-cells}
use Rattle.catalog.specs.declared.relation.Relation.{Relation}

-- ---- lists

map-listed : {A B : Type 0} (f : A → B) (g : ℕ → A) (n : ℕ) → map f (listed g n) ≡ listed (λ k. f (g k)) n
unfolding listed
map-listed f g zero = refl
map-listed f g (suc n) = map-append f (listed g n) (g n ∷ []) ∙ ap (λ l. l ++ (f (g n) ∷ [])) (map-listed f g n)

pub all_listed : {A : Type 0} {P : A → Type 0} (f : ℕ → A) (n : ℕ) → ((k : ℕ) → k < n → P (f k)) → All P (listed f n)
unfolding listed
all_listed f zero h = All.nil
all_listed f (suc n) h = all_append (all_listed f n (λ k l. h k (omega arith))) (All.cons (h n (omega arith)) All.nil)

joined_snoc : {A : Type 0} (R : List (List A)) (r : List A) → joined (R ++ (r ∷ [])) ≡ joined R ++ r
joined_snoc [] r = append-nil r
joined_snoc (x ∷ R) r = ap (λ l. x ++ l) (joined_snoc R r) ∙ sym (append_assoc x (joined R) r)

-- one more copy behind
copies-snoc : {A : Type 0} (n : ℕ) (xs : List A) → copies n xs ++ xs ≡ xs ++ copies n xs
copies-snoc zero xs = sym (append-nil xs)
copies-snoc (suc n) xs = append_assoc xs (copies n xs) xs ∙ ap (λ l. xs ++ l) (copies-snoc n xs)

-- ---- the column of a cell

-- the relations say the columns of table t
abbrev ColumnsAt : List Relation → ℕ → Table → Type 0
ColumnsAt relations t x = (c : ℕ) → c < length x.columns → column_at relations t c ≡ get_or x.columns c no_column

module _ (relations : List Relation) where
  row-columns : (t i : ℕ) (x : Table) → ColumnsAt relations t x → map (cell_column relations) (row_cells t i (length x.columns)) ≡ x.columns
  unfolding row_cells
  row-columns t i x e =
      let w = length x.columns in
      map-listed (cell_column relations) (cell_of t i) w
      ∙ listed_same (λ c. cell_column relations (cell_of t i c)) (λ c. get_or x.columns c no_column) w (λ c k. e c k)
      ∙ listed-get_d x.columns no_column w refl

  rows-columns : (t n : ℕ) (x : Table) → ColumnsAt relations t x → map (cell_column relations) (table_cells t (length x.columns) n) ≡ copies n x.columns
  unfolding table_cells
  rows-columns t zero x e = refl
  rows-columns t (suc n) x e =
      let w = length x.columns in
      map-append (cell_column relations) (table_cells t w n) (row_cells t n w)
      ∙ ap₂ ◌++◌ (rows-columns t n x e) (row-columns t n x e)
      ∙ copies-snoc n x.columns

  tables-columns : (t : ℕ) {ts : List Table} → All LegalTable ts → ((i : ℕ) → i < length ts → ColumnsAt relations (t + i) (table_at ts i))
      → map (cell_column relations) (cells_from t ts) ≡ cell_columns ts
  tables-columns t All.nil h = refl
  tables-columns t (All.cons {x = x} {xs = ts} l ls) h =
      let s : t + 0 ≡ t = omega arith in
      map-append (cell_column relations) (table_cells t (length x.columns) x.rows) (cells_from (suc t) ts)
      ∙ ap₂ ◌++◌ (rows-columns t x.rows x (subst (λ i. ColumnsAt relations i x) s (h 0 (omega arith))))
      (tables-columns (suc t) ls (λ i k. let s' : t + suc i ≡ suc t + i = omega arith in
      subst (λ j. ColumnsAt relations j (table_at ts i)) s' (h (suc i) (omega arith))))

-- ---- the cells of a file in memory

module _ {F : File} {source : Source} (M : FileIn F source) where
  given-cells : all_cells (bound_at source.relations) (width_at source.relations) source.outline.tables ≡ file_cells F
  unfolding file_cells
  given-cells =
      cells_same source.outline.tables (λ t h. rows_are M t (omega (arith, h, M.tables))) (λ t h. columns-are M t (omega (arith, h, M.tables)))
      ∙ ap (all_cells (λ t. (table_at F.tables t).rows) (λ t. length (table_at F.tables t).columns)) M.tables

  given-columns : map (cell_column source.relations) (file_cells F) ≡ cell_columns F.tables
  given-columns =
      ap (map (cell_column source.relations)) (cells-of F)
      ∙ tables-columns source.relations 0 M.legal.tables (λ i h. let s : i ≡ 0 + i = omega arith in
      subst (λ j. ColumnsAt source.relations j (table_at F.tables i)) s (λ c. column-is M i c h))

length-file_cells : (F : File) → length (file_cells F) ≡ length (cell_columns F.tables)
length-file_cells F = ap length (cells-of F) ∙ length-cells 0 F.tables

module _ {F : File} {source : Source} {room cells : List Cell} {r : ℕ} (M : FileIn F source)
    (c : CellsOf source.relations source.outline.tables room r cells) (n : length room ≡ 512) where
  total : r ≡ length (file_cells F)
  total = c.total ∙ ap length (given-cells M)

  pub cells-counted : length (cell_columns F.tables) ≡ r
  cells-counted = sym (total ∙ length-file_cells F)

  pub digits-given : Digits F (places_from source.relations (take r cells))
  digits-given =
      let same = given-cells M in
      let few : length (cell_columns F.tables) ≤ length F.tables * 32 = cells-few M.legal.tables in
      let enough : r ≤ length room = omega (arith, total, few, length-file_cells F, M.legal.relation_count, n) in
      let there : take r cells ≡ file_cells F = (c.added enough).there ∙ same in
      record {
        legal = M.legal;
        cells-are = there;
        columns = given-columns M;
        number = sym (ap length there ∙ length-file_cells F);
      }

-- ---- the rows of a table

module _ (work : List ℤ) where
  pub row-cells : (t i w : ℕ) → map (cell_at work) (row_cells t i w) ≡ row_in work t w i
  unfolding row_cells cell_at row_in
  row-cells t i w = map-listed (cell_at work) (cell_of t i) w

  table-cells : (t w n : ℕ) → map (cell_at work) (table_cells t w n) ≡ joined (rows_in work t w n)
  unfolding table_cells rows_in listed
  table-cells t w zero = refl
  table-cells t w (suc n) =
      map-append (cell_at work) (table_cells t w n) (row_cells t n w)
      ∙ ap₂ ◌++◌ (table-cells t w n) (row-cells t n w)
      ∙ sym (joined_snoc (rows_in work t w n) (row_in work t w n))

  rows-wide : (t w n : ℕ) → All (λ r. length r ≡ w) (rows_in work t w n)
  unfolding rows_in row_in
  rows-wide t w n = all_listed (row_in work t w) n (λ i _. length-listed (cell_in work t i) w)

  -- the tables from table t on, cut from their cells
  cut-table : (t : ℕ) (x : Table) (ts : List Table) → cut (x ∷ ts) (map (cell_at work) (cells_from t (x ∷ ts)))
      ≡ rows_in work t (length x.columns) x.rows ∷ cut ts (map (cell_at work) (cells_from (suc t) ts))
  cut-table t x ts =
      let w = length x.columns in
      let n = x.rows in
      let R = rows_in work t w n in
      let rest = map (cell_at work) (cells_from (suc t) ts) in
      let whole : map (cell_at work) (cells_from t (x ∷ ts)) ≡ joined R ++ rest =
      map-append (cell_at work) (table_cells t w n) (cells_from (suc t) ts)
      ∙ ap (λ (vs : List Value). vs ++ rest) (table-cells t w n) in
      let own : cut_rows n w (joined R ++ rest) ≡ R =
      ap (λ k. cut_rows k w (joined R ++ rest)) (sym (rows-length work t w n)) ∙ cut-joined w rest (rows-wide t w n) in
      let size : length (joined R) ≡ n * w = length-joined w (rows-wide t w n) ∙ ap (λ k. k * w) (rows-length work t w n) in
      let others : drop (n * w) (joined R ++ rest) ≡ rest = drop_at (joined R) rest (n * w) size in
      ap (λ (vs : List Value). cut (x ∷ ts) vs) whole ∙ ap₂ (λ (d : List Row) (vs : List Value). d ∷ cut ts vs) own others

  stand-from : (t : ℕ) {ts : List Table} → All LegalTable ts → (i : ℕ) → i < length ts
      → rows_in work (t + i) (length (table_at ts i).columns) (table_at ts i).rows ≡ get_or (cut ts (map (cell_at work) (cells_from t ts))) i []
  stand-from t All.nil i h = absurd (omega arith)
  stand-from t (All.cons {x = x} {xs = ts} l ls) zero h =
      let s : t + 0 ≡ t = omega arith in
      ap (λ k. rows_in work k (length x.columns) x.rows) s ∙ sym (ap (λ (d : Database). get_or d 0 []) (cut-table t x ts))
  stand-from t (All.cons {x = x} {xs = ts} l ls) (suc i) h =
      let s : t + suc i ≡ suc t + i = omega arith in
      ap (λ k. rows_in work k (length (table_at ts i).columns) (table_at ts i).rows) s ∙ stand-from (suc t) ls i (omega arith)
      ∙ sym (ap (λ (d : Database). get_or d (suc i) []) (cut-table t x ts))

pub tables-stand : {F : File} (k : ℕ) (work : List ℤ) → Legal F → cells_in work (file_cells F) ≡ cells F k → (t : ℕ) → t < length F.tables
    → rows_in work t (length (table_at F.tables t).columns) (table_at F.tables t).rows ≡ get_or (database F k) t []
unfolding database cells_in
tables-stand {F} k work l e t h =
    let s : t ≡ 0 + t = omega arith in
    ap (λ i. rows_in work i (length (table_at F.tables t).columns) (table_at F.tables t).rows) s
    ∙ stand-from work 0 l.tables t h
    ∙ ap (λ (vs : List Value). get_or (cut F.tables vs) t []) (sym (ap (map (cell_at work)) (cells-of F)) ∙ e)
