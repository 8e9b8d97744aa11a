-- Rows read by value and written behind others. Assumes nothing.
use mathlib.Core.Path.{◌≡◌, refl, sym, ap, ap₂, ◌∙◌}
use mathlib.Core.List.{List, [], ◌∷◌, ◌++◌, append_assoc, append-nil}
use Prim.Native.Nat.{ℕ, suc, ◌+◌, ◌≤◌, ◌<◌}
use native.Mathlib.Numerals.{add-one}
use native.Mathlib.Omega.{arith}
use lib.IntN.{ℤ}
use lib.ListN.{get_or}
use Rattle.value.specs.Value.{Value}
use Rattle.meaning.specs.Syntax.{Row}
use Rattle.store.specs.Layout.{column_limit, cell_in}
use Rattle.store.specs.Rows.{listed, row_in, rows_in, put_row, row_of, with_value}
use Rattle.store.specs.declared.Row.{Row as Values}
use Rattle.store.proofs.RowLaws.{rows_none, rows_more, row-length, row-of-rows, row-of-none, with-next, put-length, put-read, put-grows, only_same, only-more, only-put-row, only-rows}
use Rattle.views.specs.Copies.{Apart, Fits, copy_rows, Copied, Union}

-- ---- one row

pub row-start : (row : Values) (work : List ℤ) (r i : ℕ) → row_of row 0 ≡ row_in work r 0 i
unfolding row_in listed
row-start row work r i = row-of-none row

pub row_step : (row row' : Values) (work : List ℤ) (r c i : ℕ) (v : Value) → c < column_limit → ((w : ℕ) → row_of row' w ≡ with_value (row_of row w) c v)
    → v ≡ cell_in work r i c → row_of row c ≡ row_in work r c i → row_of row' (c + 1) ≡ row_in work r (c + 1) i
unfolding row_in listed
row_step row row' work r c i v h e q p =
    let n : c + 1 ≡ suc c = omega arith in
    ap (row_of row') n ∙ e (suc c) ∙ with-next row c v h ∙ ap₂ (λ (a : Row) (x : Value). a ++ (x ∷ [])) p q ∙ sym (ap (λ k. listed (cell_in work r i) k) n)

-- ---- several rows

pub apart-same : (r : ℕ) (work : List ℤ) → Apart r work work
apart-same r work = record { only = only_same work; size = refl }

pub apart_more : {r : ℕ} {a b c : List ℤ} → Apart r a b → Apart r b c → Apart r a c
apart_more p q = record { only = only-more p.only q.only; size = q.size ∙ p.size }

pub apart-put : (work : List ℤ) (r i w : ℕ) (row : Row) → Apart r work (put_row work r i w row)
apart-put work r i w row = record { only = only-put-row work r i w row refl; size = put-length work r i w row }

-- the rows of every other relation stay
pub apart-rows : {r : ℕ} {work work' : List ℤ} → Apart r work work' → (i w n : ℕ) → (i ≡ r → ⊥) → rows_in work' i w n ≡ rows_in work i w n
apart-rows a = only-rows a.only

pub copied_none : (work : List ℤ) (source to at w : ℕ) → Copied work source 0 to at w work
unfolding copy_rows
copied_none work source to at w = record {
  here = refl;
  apart = apart-same to work;
  rows = λ d f. let n : at + 0 ≡ at = omega arith in
      ap (rows_in work to w) n ∙ sym (append-nil (rows_in work to w at)) ∙ sym (ap (λ (l : List Row). rows_in work to w at ++ l) (rows_none work source w));
}

-- the row that is read is still the source's
pub row_kept : (work work' : List ℤ) (source to w i : ℕ) → Apart to work work' → (source ≡ to → ⊥) → row_in work' source w i ≡ row_in work source w i
row_kept work work' source to w i a d =
    sym (row-of-rows work' source w (suc i) i (omega arith)) ∙ ap (λ (l : List Row). get_or l i []) (apart-rows a source w (suc i) d) ∙ row-of-rows work source w (suc i) i (omega arith)

copied_more : (work work' : List ℤ) (source i to at w : ℕ) → Copied work source i to at w work'
    → Copied work source (i + 1) to at w (put_row work' to (at + i) w (row_in work' source w i))
unfolding copy_rows
copied_more work work' source i to at w c = record {
  here = rw (add-one i) (ap (λ (l : List ℤ). put_row l to (at + i) w (row_in l source w i)) c.here);
  apart = apart_more c.apart (apart-put work' to (at + i) w (row_in work' source w i));
  rows = λ d f.
      let row = row_in work' source w i in
      let less : Fits to (at + i) w work = record { relation = f.relation; rows = omega (arith, f.rows); columns = f.columns; whole = f.whole } in
      let n : at + (i + 1) ≡ suc (at + i) = omega arith in
      let k : i + 1 ≡ suc i = omega arith in
      ap (rows_in (put_row work' to (at + i) w row) to w) n
      ∙ put-grows work' to (at + i) w row f.relation (omega (arith, f.rows)) f.columns (omega (arith, f.whole, c.apart.size)) (row-length work' source w i)
      ∙ ap₂ (λ (a : List Row) (x : Row). a ++ (x ∷ [])) (c.rows d less) (row_kept work work' source to w i c.apart d)
      ∙ append_assoc (rows_in work to w at) (rows_in work source w i) (row_in work source w i ∷ [])
      ∙ ap (λ (l : List Row). rows_in work to w at ++ l) (sym (ap (rows_in work source w) k ∙ rows_more work source w i));
}

pub copied-put : {work work' after : List ℤ} {source i to at w : ℕ} (row : Values) {place : ℕ} → Copied work source i to at w work' → place ≡ at + i
    → (w ≤ column_limit → row_of row w ≡ row_in work' source w i) → after ≡ put_row work' to place w (row_of row w) → Copied work source (i + 1) to at w after
copied-put {work} {work'} {after} {source} {i} {to} {at} {w} row {place} c e r p =
    let q : after ≡ put_row work' to (at + i) w (row_in work' source w i) =
    p ∙ ap (λ k. put_row work' to k w (row_of row w)) e ∙ put-read work' to (at + i) w (row_of row w) (row_in work' source w i) r in
    rw q (copied_more work work' source i to at w c)

pub copied_all : {work work' : List ℤ} {source i count to at w : ℕ} → i ≡ count → Copied work source i to at w work' → Copied work source count to at w work'
copied_all {work} {work'} {source} {i} {count} {to} {at} {w} e c = rw (sym e) c

-- ---- union

pub joined : (work mid work' : List ℤ) (left m right n to w : ℕ) → Copied work left m to 0 w mid → Copied mid right n to m w work' → Union work left m right n to w work'
joined work mid work' left m right n to w a b = record {
  here = b.here ∙ ap (λ (l : List ℤ). copy_rows l right n to m w) a.here;
  apart = apart_more a.apart b.apart;
  rows = λ p q f.
      let first : Fits to (0 + m) w work = record { relation = f.relation; rows = omega (arith, f.rows); columns = f.columns; whole = f.whole } in
      let second : Fits to (m + n) w mid = record { relation = f.relation; rows = f.rows; columns = f.columns; whole = omega (arith, f.whole, a.apart.size) } in
      let z : m ≡ 0 + m = omega arith in
      b.rows q second
      ∙ ap₂ (λ (x y : List Row). x ++ y) (ap (rows_in mid to w) z ∙ a.rows p first ∙ ap (λ (l : List Row). l ++ rows_in work left w m) (rows_none work to w)) (apart-rows a.apart right w n q);
}
