-- Candidates are numbered: every database of the file's row counts and value ranges is that of exactly one number. The cells of a database
-- in a row, and cut again, are the database. Assumes nothing.
use mathlib.Core.Path.{◌≡◌, refl, sym, ap, ◌∙◌, subst}
use mathlib.Core.Bool.{true}
use mathlib.Core.List.{List, [], ◌∷◌, ◌++◌, map, append_assoc}
use Prim.Native.Nat.{ℕ, zero, suc, ◌*◌, ◌<◌}
use native.Mathlib.Nat.{suc-mul, zero-mul, add_comm, mod-eq_of_lt}
use native.Mathlib.Omega.{arith}
use lib.Signed.{le_z}
use lib.ListN.{length, take, drop, length-append, take-append-drop}
use lib.Seq.{take-add, drop-drop, take_at, drop_at}
use Rattle.value.specs.Bag.{All}
use Rattle.value.specs.Value.{Value, Column, InColumn}
use Rattle.value.proofs.Linear.{le_z-true}
use Rattle.value.proofs.Values.{all_map}
use Rattle.meaning.specs.Lists.{Each, all, copies, joined}
use Rattle.meaning.specs.Syntax.{Table, File, Row, Database}
use Rattle.meaning.specs.Valid.{InRange}
use Rattle.meaning.specs.Bounds.{ordered}
use Rattle.meaning.specs.Candidates.{cell_columns, number, cut_rows, cut, cell_count, candidates, cells, database, Numbered}
use Rattle.meaning.proofs.Elements.{all_append, all-test, each_append}
use Rattle.meaning.proofs.DecidedLists.{each-length}
use Rattle.meaning.proofs.Digits.{Ascending, product-above, length-values, values-within, number-values, number-below, values-number, values-unique}

-- ---- the columns of the cells are ordered where those of the tables are

pub all-copies : {A : Type 0} {P : A → Type 0} {xs : List A} (n : ℕ) → All P xs → All P (copies n xs)
all-copies zero p = All.nil
all-copies (suc n) p = all_append p (all-copies n p)

-- what holds of the columns of the tables holds of those of the cells
pub all-cells : {P : Column → Type 0} {ts : List Table} → All (λ t. All P t.columns) ts → All P (cell_columns ts)
all-cells All.nil = All.nil
all-cells (All.cons {x = t} p ps) = all_append (all-copies t.rows p) (all-cells ps)

columns-ascend : (cs : List Column) → all (λ c. le_z c.lo c.hi) cs ≡ true → All Ascending cs
columns-ascend cs e = all_map (λ c h. le_z-true c.lo c.hi h) (all-test (λ c. le_z c.lo c.hi) cs e)

pub cells-ascend : (ts : List Table) → all ordered ts ≡ true → All Ascending (cell_columns ts)
cells-ascend ts e = all-cells (all_map (λ t h. columns-ascend t.columns h) (all-test ordered ts e))

-- ---- two lists, element by element

module _ {A B : Type 0} {P : A → B → Type 0} where
  pub each-split : (xs : List A) {xs' : List A} {ys : List B} → Each P (xs ++ xs') ys → Each P xs (take (length xs) ys) × Each P xs' (drop (length xs) ys)
  each-split [] ps = (Each.nil, ps)
  each-split (x ∷ xs) (Each.cons p ps) = let h = each-split xs ps in (Each.cons p h.0, h.1)

-- ---- rows: cut and joined

-- the cells of a database in a row: tables, rows, columns
abbrev pub flat : Database → List Value
flat d = joined (map joined d)

drop-row : {A : Type 0} (n w : ℕ) (xs : List A) → drop (suc n * w) xs ≡ drop (n * w) (drop w xs)
drop-row n w xs = rw (suc-mul n w, drop-drop, add_comm (n * w) w)

pub length-cut_rows : {A : Type 0} (n w : ℕ) (xs : List A) → length (cut_rows n w xs) ≡ n
length-cut_rows zero w xs = refl
length-cut_rows (suc n) w xs = ap suc (length-cut_rows n w (drop w xs))

pub joined-cut_rows : {A : Type 0} (n w : ℕ) (xs : List A) → joined (cut_rows n w xs) ≡ take (n * w) xs
joined-cut_rows zero w xs = rw (zero-mul w)
joined-cut_rows (suc n) w xs = rw (joined-cut_rows n w (drop w xs), suc-mul n w, add_comm (n * w) w) (sym (take-add w (n * w) xs))

-- rows of w elements in a row, and cut again
pub length-joined : {A : Type 0} (w : ℕ) {R : List (List A)} → All (λ r. length r ≡ w) R → length (joined R) ≡ length R * w
length-joined w All.nil = sym (zero-mul w)
length-joined w (All.cons {x = r} {xs = R} p ps) = length-append r (joined R) ∙ omega (arith, p, length-joined w ps, suc-mul (length R) w)

pub cut-joined : {A : Type 0} (w : ℕ) {R : List (List A)} (vs : List A) → All (λ r. length r ≡ w) R → cut_rows (length R) w (joined R ++ vs) ≡ R
cut-joined w vs All.nil = refl
cut-joined w vs (All.cons {x = r} {xs = R} p ps) =
    let rest = joined R ++ vs in
    rw (append_assoc r (joined R) vs, take_at r rest w p, drop_at r rest w p, cut-joined w vs ps)

module _ (cs : List Column) where
  -- each of the first n rows of cells lies in its columns, and the rest in theirs
  cut_rows-within : (n : ℕ) {rest : List Column} {vs : List Value} → Each InColumn (copies n cs ++ rest) vs
      → All (Each InColumn cs) (cut_rows n (length cs) vs) × Each InColumn rest (drop (n * length cs) vs)
  cut_rows-within zero ps = (All.nil, rw (zero-mul (length cs)) ps)
  cut_rows-within (suc n) {rest} {vs} ps =
      let h = each-split cs (rw append_assoc at ps) in
      let r = cut_rows-within n h.1 in
      (All.cons h.0 r.0, rw (drop-row n (length cs) vs) r.1)

  joined-within : {R : List Row} → All (Each InColumn cs) R → Each InColumn (copies (length R) cs) (joined R)
  joined-within All.nil = Each.nil
  joined-within (All.cons p ps) = each_append p (joined-within ps)

  rows-wide : {R : List Row} → All (Each InColumn cs) R → All (λ r. length r ≡ length cs) R
  rows-wide ps = all_map (λ r p. each-length p) ps

-- ---- tables: cut and flattened

pub cut-shaped : (ts : List Table) {vs : List Value} → Each InColumn (cell_columns ts) vs → Each InRange ts (cut ts vs)
cut-shaped [] ps = Each.nil
cut-shaped (t ∷ ts) {vs} ps =
    let h = cut_rows-within t.columns t.rows ps in
    Each.cons (record { rows = length-cut_rows t.rows (length t.columns) vs; values = h.0 }) (cut-shaped ts h.1)

pub flat-cut : (ts : List Table) {vs : List Value} → Each InColumn (cell_columns ts) vs → flat (cut ts vs) ≡ vs
flat-cut [] Each.nil = refl
flat-cut (t ∷ ts) {vs} ps =
    let w = length t.columns in
    rw (joined-cut_rows t.rows w vs, flat-cut ts (cut_rows-within t.columns t.rows ps).1) (take-append-drop (t.rows * w) vs)

pub flat-within : {ts : List Table} {d : Database} → Each InRange ts d → Each InColumn (cell_columns ts) (flat d)
flat-within Each.nil = Each.nil
flat-within (Each.cons {x = t} {y = R} r rs) =
    each_append (subst (λ (n : ℕ). Each InColumn (copies n t.columns) (joined R)) r.rows (joined-within t.columns r.values)) (flat-within rs)

pub cut-flat : {ts : List Table} {d : Database} → Each InRange ts d → cut ts (flat d) ≡ d
cut-flat Each.nil = refl
cut-flat (Each.cons {x = t} {y = R} {ys = d} r rs) =
    let cs = t.columns in
    let wide = rows-wide cs r.values in
    let rest = drop_at (joined R) (flat d) (length R * length cs) (length-joined (length cs) wide) in
    rw (← r.rows, cut-joined (length cs) (flat d) wide, rest, cut-flat rs)

-- ---- the numbering

module _ (F : File) where
  pub length-cells : (k : ℕ) → length (cells F k) ≡ cell_count F
  unfolding cells
  length-cells k = length-values (cell_columns F.tables) k

  -- the cells of a candidate lie in their columns
  pub cells-within : all ordered F.tables ≡ true → (k : ℕ) → Each InColumn (cell_columns F.tables) (cells F k)
  unfolding cells
  cells-within o k = values-within (cells-ascend F.tables o) k

  pub candidates-above : all ordered F.tables ≡ true → 0 < candidates F
  unfolding candidates
  candidates-above o = product-above (cells-ascend F.tables o)

  pub numbered : all ordered F.tables ≡ true → Numbered F
  unfolding candidates cells database
  numbered o =
      let cs = cell_columns F.tables in
      let hs = cells-ascend F.tables o in
      record {
        shaped = λ k. cut-shaped F.tables (values-within hs k);
        candidate = λ d s. let w = flat-within s in (number cs (flat d), number-below w, rw (values-number hs w) (cut-flat s));
        unique = λ j k hj hk e. values-unique hs j k hj hk (sym (flat-cut F.tables (values-within hs j)) ∙ ap flat e ∙ flat-cut F.tables (values-within hs k));
        order = λ k h. number-values hs k ∙ mod-eq_of_lt h;
      }
