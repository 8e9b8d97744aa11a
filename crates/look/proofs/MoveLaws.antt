-- One cell takes its digit, and the cells from the last one back. Assumes nothing.
use mathlib.Core.Path.{◌≡◌, refl, sym, ap, ap₂, ◌∙◌, subst}
use mathlib.Core.List.{List, [], ◌∷◌, ◌++◌}
use Prim.Native.Nat.{ℕ, suc, ◌-◌, ◌/◌, ◌%◌, ◌≤◌, ◌<◌}
use native.Mathlib.Nat.{mod-lt, div-one}
use native.Mathlib.Omega.{arith}
use lib.IntN.{ℤ}
use lib.ListN.{length, get_or, set, take, drop, take-append-drop, drop_of_length-le}
use lib.Seq.{take-set-le, take-take}
use mir.Syntax.{w32}
use mir.Val.{Fits}
use Rattle.value.specs.Value.{Value, Column, size, digit, narrowed}
use Rattle.meaning.specs.Syntax.{File}
use Rattle.meaning.specs.Candidates.{cell_columns, sizes_product, values, cells}
use Rattle.meaning.proofs.ListSteps.{map_at}
use Rattle.catalog.proofs.FileLaws.{no_column}
use Rattle.store.specs.Layout.{area, put_cell}
use Rattle.meaning.proofs.Listed.{drop-set}
use Rattle.store.proofs.RowLaws.{only_same, only-more, only_wider, only-put-cell}
use Rattle.look.specs.declared.cells.Cell.{Cell}
use Rattle.look.specs.Cells.{no_cell, file_cells, cells_in, CellTable}
use Rattle.look.specs.Moves.{cell_column, CellPlaces, Digits, OnlyTables, DigitPut, Moved}
use Rattle.look.specs.declared.moves.Quotients.{Quotients}
use Rattle.look.proofs.Distinct.{cells-rise, cell-put}
use Rattle.look.proofs.DigitLaws.{same-leading, drop-values, values-step, quotient-step, column-legal, legal-size, digit-held}
use Rattle.catalog.specs.declared.relation.Relation.{Relation}

-- ---- one digit

module _ {relations : List Relation} {x : Cell} {q : Quotients} {work : List ℤ} (d : Column) (found : d ≡ cell_column relations x) where
  -- no column is without digits
  pub none-put : size d ≡ 0 → DigitPut relations x q work q work
  none-put z = record {
    only = only_same work;
    put = λ c e s. let p : size c ≡ 0 = ap size (sym e ∙ sym found) ∙ z in absurd (omega arith);
  }

  pub digit-put : {work' : List ℤ} (s : ℕ) (v : Value) → s ≡ size d → v ≡ narrowed (digit d (q.new % s)) → work' ≡ put_cell work x.table x.row x.column v
      → DigitPut relations x q work (record { old = q.old / s; new = q.new / s }) work'
  digit-put s v k w p = record {
    only = rw p (only-put-cell work x.table x.row x.column v refl);
    put = λ c e o.
        let f : d ≡ c = found ∙ e in
        let z : s ≡ size c = k ∙ ap size f in (
          p ∙ ap (put_cell work x.table x.row x.column) (w ∙ ap₂ (λ (a : Column) (b : ℕ). narrowed (digit a (q.new % b))) f z),
          ap (λ (b : ℕ). q.old / b) z,
          ap (λ (b : ℕ). q.new / b) z,
        );
  }

-- what is left of a number by a size fits as the size does
pub digit-fits : (n s : ℕ) → (s ≡ 0 → ⊥) → Fits w32 s → Fits w32 (n % s)
digit-fits n s z f = let l : n % s < s = mod-lt n (omega arith) in record { fits = omega (arith, f.fits) }

-- ---- the cells from the last one back

length-cells_in : (work : List ℤ) (xs : List Cell) → length (cells_in work xs) ≡ length xs
unfolding cells_in
length-cells_in work [] = refl
length-cells_in work (x ∷ xs) = ap suc (length-cells_in work xs)

-- from the cell j on the cells are those of `next`, before it they are as they were, and the quotients are of the digits before it
pub record Going (F : File) (k next : ℕ) (before : List Value) (work : List ℤ) (j : ℕ) (q : Quotients) : Type 0 where
  pub old : q.old ≡ k / sizes_product (drop j (cell_columns F.tables))
  pub new : q.new ≡ next / sizes_product (drop j (cell_columns F.tables))
  pub first : take j (cells_in work (file_cells F)) ≡ take j before
  pub rest : drop j (cells_in work (file_cells F)) ≡ values (drop j (cell_columns F.tables)) next

pub record Under (p : CellPlaces) (k next : ℕ) (work₀ work : List ℤ) (j : ℕ) (q : Quotients) : Type 0 where
  pub only : OnlyTables p work₀ work
  pub bound : j ≤ length p.cells
  pub going : (F : File) → Digits F p → area ≤ length work₀ → Going F k next (cells_in work₀ (file_cells F)) work j q

-- no cell yet
going-first : {p : CellPlaces} (k next : ℕ) (work₀ : List ℤ) (F : File) → Digits F p
    → Going F k next (cells_in work₀ (file_cells F)) work₀ (length p.cells) (record { old = k; new = next })
going-first {p} k next work₀ F D =
    let n = length p.cells in
    let cs = cell_columns F.tables in
    let e : drop n cs ≡ [] = drop_of_length-le cs {i = n} (omega (arith, D.number)) in
    let f : drop n (cells_in work₀ (file_cells F)) ≡ [] =
    drop_of_length-le (cells_in work₀ (file_cells F)) {i = n} (omega (arith, length-cells_in work₀ (file_cells F), ap length D.cells-are)) in
    record {
      old = sym (ap (λ (l : List Column). k / sizes_product l) e ∙ div-one k);
      new = sym (ap (λ (l : List Column). next / sizes_product l) e ∙ div-one next);
      first = refl;
      rest = f ∙ sym (ap (λ (l : List Column). values l next) e);
    }

-- one cell more
going_next : {p : CellPlaces} {k next : ℕ} (F : File) {before : List Value} {work work' : List ℤ} {i : ℕ} {q r : Quotients}
    → Digits F p → i < length p.cells → area ≤ length work
    → Going F k next before work (suc i) q → DigitPut p.relations (get_or p.cells i no_cell) q work r work' → Going F k next before work' i r
going_next {p} {k} {next} F {before} {work} {work'} {i} {q} {r} D h a g put =
    let relations = p.relations in
    let xs = file_cells F in
    let cs = cell_columns F.tables in
    let c = get_or cs i no_column in
    let x = get_or xs i no_cell in
    let R = cells-rise F D.legal in
    let lx : i < length xs = omega (arith, ap length D.cells-are) in
    let lc : i < length cs = omega (arith, D.number) in
    let L = column-legal F D.legal i lc in
    let ex : get_or p.cells i no_cell ≡ x = ap (λ (l : List Cell). get_or l i no_cell) D.cells-are in
    let P : DigitPut relations x q work r work' = subst (λ (y : Cell). DigitPut relations y q work r work') ex put in
    let ec : cell_column relations x ≡ c = sym (map_at (cell_column relations) xs i no_cell no_column lx) ∙ ap (λ (l : List Column). get_or l i no_column) D.columns in
    let d = P.put c ec (legal-size c L) in
    let ev : narrowed (digit c (q.new % size c)) ≡ digit c (next / sizes_product (drop (suc i) cs) % size c) =
    digit-held c L q.new ∙ ap (λ (m : ℕ). digit c (m % size c)) g.new in
    let v = digit c (next / sizes_product (drop (suc i) cs) % size c) in
    let ew : cells_in work' xs ≡ set (cells_in work xs) i v =
    ap (λ (w : List ℤ). cells_in w xs) d.0 ∙ cell-put work xs i (narrowed (digit c (q.new % size c))) R lx a ∙ ap (set (cells_in work xs) i) ev in
    let ll : i < length (cells_in work xs) = omega (arith, length-cells_in work xs) in
    record {
      old = d.1 ∙ ap (λ (m : ℕ). m / size c) g.old ∙ quotient-step cs i k lc;
      new = d.2 ∙ ap (λ (m : ℕ). m / size c) g.new ∙ quotient-step cs i next lc;
      first = ap (take i) ew ∙ take-set-le i (cells_in work xs) i v (omega arith) ∙ sym (take-take i (suc i) (cells_in work xs) (omega arith))
          ∙ ap (take i) g.first ∙ take-take i (suc i) before (omega arith);
      rest = ap (drop i) ew ∙ drop-set (cells_in work xs) i v ll ∙ ap (λ (l : List Value). v ∷ l) g.rest ∙ sym (values-step cs i next lc);
    }

-- no cell is left
all_there : {k next : ℕ} (F : File) {before : List Value} {work : List ℤ} {j : ℕ} {q : Quotients}
    → j ≡ 0 → Going F k next before work j q → cells_in work (file_cells F) ≡ cells F next
unfolding cells
all_there {k} {next} F {before} {work} {j} {q} z g = (subst (λ (i : ℕ). Going F k next before work i q) z g).rest

-- the cells before are the same
rest-there : {k next : ℕ} (F : File) {work : List ℤ} {j : ℕ} {q : Quotients}
    → q.old ≡ q.new → Going F k next (cells F k) work j q → cells_in work (file_cells F) ≡ cells F next
unfolding cells
rest-there {k} {next} F {work} {j} {q} e g =
    let cs = cell_columns F.tables in
    let l = cells_in work (file_cells F) in
    sym (take-append-drop j l)
    ∙ ap₂ (λ (a b : List Value). a ++ b) (g.first ∙ same-leading cs j k next (sym g.old ∙ e ∙ g.new)) (g.rest ∙ sym (drop-values cs j next))
    ∙ take-append-drop j (values cs next)

module _ {p : CellPlaces} {k next : ℕ} {work₀ : List ℤ} where
  pub under_first : Under p k next work₀ work₀ (length p.cells) (record { old = k; new = next })
  under_first = record { only = only_same work₀; bound = omega arith; going = λ F D a. going-first k next work₀ F D }

  pub under_next : {work work' : List ℤ} {j : ℕ} {x : Cell} {q r : Quotients} → 0 < j → Under p k next work₀ work j q → x ≡ get_or p.cells (j - 1) no_cell
      → DigitPut p.relations x q work r work' → Under p k next work₀ work' (j - 1) r
  under_next {work} {work'} {j} {x} {q} {r} h u e put =
      let b : j ≤ length p.cells = u.bound in
      let s : j ≡ suc (j - 1) = omega arith in
      let P : DigitPut p.relations (get_or p.cells (j - 1) no_cell) q work r work' = subst (λ (y : Cell). DigitPut p.relations y q work r work') e put in
      let own : (t : ℕ) → t ≡ x.table → CellTable p.cells t =
      λ t k. record { place = j - 1; there = omega arith; table_is = ap (λ (y : Cell). y.table) (sym e) ∙ sym k } in
      record {
        only = only-more u.only (only_wider own put.only);
        bound = omega arith;
        going = λ F D a. going_next F D (omega arith) (omega (arith, u.only.size))
            (subst (λ (i : ℕ). Going F k next (cells_in work₀ (file_cells F)) work i q) s (u.going F D a)) P;
      }

  pub moved_all : {work : List ℤ} {j : ℕ} {q : Quotients} → j ≤ 0 → Under p k next work₀ work j q
      → Moved p k next work₀ work
  moved_all h u = record { only = u.only; moved = λ F D a e. all_there F (omega arith) (u.going F D a) }

  pub moved-enough : {work : List ℤ} {j : ℕ} {q : Quotients} → q.old ≡ q.new → Under p k next work₀ work j q
      → Moved p k next work₀ work
  moved-enough {work} {j} {q} s u = record {
    only = u.only;
    moved = λ F D a e. rest-there F s (subst (λ (b : List Value). Going F k next b work j q) e (u.going F D a));
  }
