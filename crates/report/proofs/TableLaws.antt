-- The lines of the tables of a case, table after table. Assumes nothing.
use mathlib.Core.Path.{◌≡◌, refl, sym, ap, ap₂, ◌∙◌}
use mathlib.Core.List.{List, [], ◌∷◌, ◌++◌, map, append_assoc, append-nil}
use Prim.Native.Nat.{ℕ, zero, suc, ◌+◌, ◌*◌, ◌≤◌, ◌<◌}
use native.Mathlib.Nat.{mul-le-mul}
use native.Mathlib.Omega.{arith}
use lib.IntN.{ℤ}
use lib.ListN.{length, take, drop, length-append, length-drop}
use lib.Seq.{length-take-le, take-take, drop-cons, drop-drop, drop-length}
use Rattle.value.specs.Value.{Value, shown}
use Rattle.meaning.specs.Lists.{copies}
use Rattle.meaning.specs.Syntax.{Table, File}
use Rattle.meaning.specs.Candidates.{cell_columns, cut_rows, cut}
use Rattle.meaning.proofs.Elements.{all-at}
use Rattle.meaning.proofs.Numbering.{length-cut_rows, joined-cut_rows}
use Rattle.catalog.specs.Relations.{width_at, bound_at}
use Rattle.language.specs.Legal.{LegalTable, table_at}
use Rattle.look.proofs.CellLaws.{length-copies}
use Rattle.language.specs.OutputOf.{number_bytes, rows_frame, rows_frames}
use Rattle.report.specs.Lines.{Grown, TableLined, Tabled, TablesLined}
use Rattle.report.proofs.LineLaws.{grown-more, grown-none}
use Rattle.catalog.specs.declared.relation.Relation.{Relation}

-- ---- a part of a list

part-take : {A : Type 0} (n a m : ℕ) (l : List A) → a + n ≤ m → take n (drop a (take m l)) ≡ take n (drop a l)
part-take n zero m l h = take-take n m l (omega arith)
part-take n (suc a) zero l h = absurd (omega arith)
part-take n (suc a) (suc m) [] h = refl
part-take n (suc a) (suc m) (x ∷ l) h = part-take n a m l (omega arith)

map-take : {A B : Type 0} (f : A → B) (n : ℕ) (l : List A) → map f (take n l) ≡ take n (map f l)
map-take f zero l = refl
map-take f (suc n) [] = refl
map-take f (suc n) (x ∷ l) = ap (λ t. f x ∷ t) (map-take f n l)

map-part : {A B : Type 0} (f : A → B) (n a : ℕ) (l : List A) → map f (take n (drop a l)) ≡ take n (drop a (map f l))
map-part f n zero l = map-take f n l
map-part f zero (suc a) [] = refl
map-part f (suc n) (suc a) [] = refl
map-part f n (suc a) (x ∷ l) = map-part f n a l

-- ---- the frame of a table

frame-cut : (t n w : ℕ) (vs : List Value) → rows_frame t (cut_rows n w vs) ≡ 0x81 ∷ t ∷ n ∷ number_bytes (map shown (take (n * w) vs))
unfolding rows_frame
frame-cut t n w vs = rw (length-cut_rows n w vs, joined-cut_rows n w vs)

-- ---- table after table

-- past the last table
abbrev none : Table
none = record { rows = 0; columns = []; key = [] }

-- the lines of t tables are written, and those of the rest are to come from the cells behind `first`
pub record Reached (F : File) (vs : List Value) (at : ℕ) (out₀ : List ℕ) (t first place : ℕ) (out : List ℕ) : Type 0 where
  pub done : List (List ℕ)
  pub grown : Grown done at out₀ place out
  pub whole : done ++ rows_frames t (cut (drop t F.tables) (drop first vs)) ≡ rows_frames 0 (cut F.tables vs)
  pub left : first + length (cell_columns (drop t F.tables)) ≡ length vs
  pub near : place ≤ at + 135 * t

-- so are those of the first t tables, and `rest` is what is left of the cells
pub record Stage (relations : List Relation) (tables : ℕ) (cells : List ℤ) (at : ℕ) (out₀ : List ℕ) (t place : ℕ) (rest : List ℤ) (out : List ℕ) : Type 0 where
  pub first : ℕ
  pub left : rest ≡ drop first cells
  pub within : t ≤ tables
  pub size : length out ≡ length out₀
  pub reached : (F : File) (vs : List Value) → Tabled F vs relations tables cells → at + 2160 ≤ length out₀ → Reached F vs at out₀ t first place out

module _ {relations : List Relation} {tables : ℕ} {cells : List ℤ} {at : ℕ} {out₀ : List ℕ} where
  pub stage-none : Stage relations tables cells at out₀ 0 at cells out₀
  stage-none = record {
    first = 0;
    left = refl;
    within = omega arith;
    size = refl;
    reached = λ F vs T room. record { done = []; grown = grown-none at out₀; whole = refl; left = omega (arith, T.count); near = omega arith };
  }

  module _ {t place rows columns : ℕ} {rest : List ℤ} {out : List ℕ} (S : Stage relations tables cells at out₀ t place rest out) (h : t < tables)
      (p : rows ≡ bound_at relations t) (q : columns ≡ width_at relations t) where
    -- a table, its cells, and what is left behind them
    record Own (F : File) (vs : List Value) : Type 0 where
      here : drop t F.tables ≡ table_at F.tables t ∷ drop (suc t) F.tables
      n : rows ≡ (table_at F.tables t).rows
      size : rows * columns ≡ (table_at F.tables t).rows * length (table_at F.tables t).columns
      few : rows * columns ≤ 32
      split : length (cell_columns (drop t F.tables)) ≡ rows * columns + length (cell_columns (drop (suc t) F.tables))
      inside : S.first + rows * columns ≤ length vs
      there : rows * columns ≤ length rest

    own : (F : File) (vs : List Value) → Tabled F vs relations tables cells → at + 2160 ≤ length out₀ → Own F vs
    own F vs T room =
        let R = S.reached F vs T room in
        let ts = F.tables in
        let x = table_at ts t in
        let w = length x.columns in
        let there : t < length ts = omega (arith, T.number, h) in
        let here : drop t ts ≡ x ∷ drop (suc t) ts = drop-cons ts t none there in
        let legal : LegalTable x = all-at T.legal.tables none t there in
        let n : rows ≡ x.rows = p ∙ T.rows t h in
        let size : rows * columns ≡ x.rows * w = ap₂ ◌*◌ n (q ∙ T.columns t h) in
        let split : length (cell_columns (drop t ts)) ≡ rows * columns + length (cell_columns (drop (suc t) ts)) =
        ap (λ (us : List Table). length (cell_columns us)) here ∙ length-append (copies x.rows x.columns) (cell_columns (drop (suc t) ts))
        ∙ ap (λ k. k + length (cell_columns (drop (suc t) ts))) (length-copies x.rows x.columns ∙ sym size) in
        let inside : S.first + rows * columns ≤ length vs = omega (arith, R.left, split) in
        record {
          here = here;
          n = n;
          size = size;
          few = omega (arith, size, mul-le-mul legal.rows.most legal.count.most);
          split = split;
          inside = inside;
          there = omega (arith, ap length S.left, length-drop S.first cells, inside, T.room);
        }

    -- no file has fewer cells than its tables need
    pub stage-short : length rest < rows * columns → TablesLined relations tables cells at out₀ place out
    stage-short l = record { lined = λ F vs T room. absurd (let o = own F vs T room in omega (arith, o.there)) }

    module _ {r k : ℕ} {mine behind : List ℤ} {out' : List ℕ} (m : mine ≡ take (rows * columns) rest) (b : behind ≡ drop k rest)
        (e : k ≡ rows * columns) (L : TableLined t rows mine place out r out') where
      further : (F : File) (vs : List Value) → Tabled F vs relations tables cells → at + 2160 ≤ length out₀ → Reached F vs at out₀ (t + 1) (S.first + rows * columns) r out'
      further F vs T room =
          let R = S.reached F vs T room in
          let O = own F vs T room in
          let first = S.first in
          let ts = F.tables in
          let x = table_at ts t in
          let w = length x.columns in
          let bytes : 0x81 ∷ t ∷ rows ∷ number_bytes mine ≡ rows_frame t (cut_rows x.rows w (drop first vs)) =
          ap (λ (l : List ℤ). 0x81 ∷ t ∷ rows ∷ number_bytes l)
          (m ∙ ap (take (rows * columns)) S.left ∙ sym (part-take (rows * columns) first (length vs) cells O.inside)
          ∙ ap (λ (l : List ℤ). take (rows * columns) (drop first l)) T.shows ∙ sym (map-part shown (rows * columns) first vs))
          ∙ ap₂ (λ (a k : ℕ). 0x81 ∷ t ∷ a ∷ number_bytes (map shown (take k (drop first vs)))) O.n O.size ∙ sym (frame-cut t x.rows w (drop first vs)) in
          let size : length mine ≡ rows * columns = ap length m ∙ length-take-le (rows * columns) rest O.there in
          let g = L.lined (omega (arith, size, O.few)) (omega (arith, R.near, room, S.size, T.legal.relation_count, T.number, h)) in
          let next : t + 1 ≡ suc t = omega arith in
          let past : drop (first + rows * columns) vs ≡ drop (x.rows * w) (drop first vs) = ap (λ k. drop (first + k) vs) O.size ∙ sym (drop-drop (x.rows * w) first vs) in
          let f = rows_frame t (cut_rows x.rows w (drop first vs)) in
          let frames : rows_frames t (cut (drop t ts) (drop first vs)) ≡ f ∷ rows_frames (t + 1) (cut (drop (t + 1) ts) (drop (first + rows * columns) vs)) =
          ap (λ (us : List Table). rows_frames t (cut us (drop first vs))) O.here
          ∙ ap₂ (λ (i : ℕ) (us : List Value). f ∷ rows_frames i (cut (drop i ts) us)) (sym next) (sym past) in
          record {
            done = R.done ++ (f ∷ []);
            grown = grown-more R.grown (rw bytes at g);
            whole = append_assoc R.done (f ∷ []) (rows_frames (t + 1) (cut (drop (t + 1) ts) (drop (first + rows * columns) vs)))
                ∙ ap (λ (fs : List (List ℕ)). R.done ++ fs) (sym frames) ∙ R.whole;
            left = ap (λ i. first + rows * columns + length (cell_columns (drop i ts))) next ∙ omega (arith, R.left, O.split);
            near = omega (arith, L.near, R.near);
          }

      pub stage-more : Stage relations tables cells at out₀ (t + 1) r behind out'
      stage-more = record {
        first = S.first + rows * columns;
        left = b ∙ ap₂ drop e S.left ∙ drop-drop (rows * columns) S.first cells;
        within = omega arith;
        size = L.size ∙ S.size;
        reached = further;
      }

  pub stage-all : {t place : ℕ} {rest : List ℤ} {out : List ℕ} → Stage relations tables cells at out₀ t place rest out → tables ≤ t → TablesLined relations tables cells at out₀ place out
  stage-all {t} {place} {rest} {out} S h = record {
    lined = λ F vs T room.
        let R = S.reached F vs T room in
        let e : t ≡ length F.tables = omega (arith, S.within, T.number) in
        let none : drop t F.tables ≡ [] = ap (λ i. drop i F.tables) e ∙ drop-length F.tables in
        let whole : R.done ≡ rows_frames 0 (cut F.tables vs) =
        sym (append-nil R.done) ∙ ap (λ (ts : List Table). R.done ++ rows_frames t (cut ts (drop S.first vs))) (sym none) ∙ R.whole in
        rw whole at R.grown;
  }
