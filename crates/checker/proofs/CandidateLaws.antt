-- The number of candidates: capping commutes with later factors, and the relations give the columns of the cells. Assumes nothing.
use mathlib.Core.Path.{◌≡◌, refl, sym, ap, ap₂, ◌∙◌}
use mathlib.Core.List.{List, [], ◌∷◌, ◌++◌}
use Prim.Native.Nat.{ℕ, suc, ◌+◌, ◌*◌, ◌-◌, ◌≤◌, ◌<◌, min}
use native.Mathlib.Nat.{mul_assoc, mul-pos, mul-le-mul_right}
use native.Mathlib.Omega.{arith}
use lib.ListN.{length, get_or}
use lib.Dec.{leb}
use mathlib.Core.Bool.{false}
use borrow.Author.Tests.{leb-true, leb-false, lt-leb}
use Rattle.std.proofs.Common.{Option}
use Rattle.value.proofs.Decides.{by-test}
use Rattle.value.specs.Value.{Column, size}
use Rattle.meaning.specs.Lists.{copies}
use Rattle.meaning.specs.Syntax.{Table}
use Rattle.meaning.specs.Candidates.{sizes_product, cell_columns}
use Rattle.meaning.proofs.Stacks.{by-lt}
use Rattle.language.specs.Legal.{table_at}
use Rattle.language.specs.Check.{candidate_limit}
use Rattle.catalog.specs.Relations.{no_column, column_at}
use Rattle.catalog.specs.FileIn.{TablesKnown}
use Rattle.checker.specs.CandidateCount.{too_many, capped_product, within_limit, columns_from, table_cells, cells_from, CandidatesOf}
use Rattle.catalog.specs.declared.relation.Relation.{Relation}

-- ---- capped products

pub capped-append : (n : ℕ) (xs ys : List Column) → capped_product n (xs ++ ys) ≡ capped_product (capped_product n xs) ys
unfolding capped_product
capped-append n [] ys = refl
capped-append n (x ∷ xs) ys = capped-append (min (n * size x) too_many) xs ys

size-positive : (c : Column) → 0 < size c
unfolding size
size-positive c = omega arith

product-positive : (cs : List Column) → 0 < sizes_product cs
product-positive [] = omega arith
product-positive (c ∷ cs) = mul-pos (size-positive c) (product-positive cs)

-- capping commutes with a later factor of at least 1
pub cap-later : (x p : ℕ) → 0 < p → min (min x too_many * p) too_many ≡ min (x * p) too_many
cap-later x p h = by-lt x too_many
    (λ _ l. let e : min x too_many ≡ x = omega arith in rw e)
    (λ _ l. let e : min x too_many ≡ too_many = omega arith in rw e (omega (arith, mul-le-mul_right p l)))

pub capped-product : (n : ℕ) (cs : List Column) → n ≤ too_many → capped_product n cs ≡ min (n * sizes_product cs) too_many
unfolding capped_product
capped-product n [] h = omega arith
capped-product n (c ∷ cs) h =
    capped-product (min (n * size c) too_many) cs (omega arith)
    ∙ cap-later (n * size c) (sizes_product cs) (product-positive cs)
    ∙ ap (λ k. min k too_many) (mul_assoc n (size c) (sizes_product cs))

-- ---- tables in the relations

module _ (relations : List Relation) where
  columns-back : (t c : ℕ) (cs : List Column) → ((i : ℕ) → i < length cs → column_at relations t (c + i) ≡ get_or cs i no_column)
      → columns_from relations t c (length cs) ≡ cs
  unfolding columns_from
  columns-back t c [] h = refl
  columns-back t c (x ∷ cs) h =
      let e : c ≡ c + 0 = omega arith in
      ap₂ ◌∷◌ (ap (column_at relations t) e ∙ h 0 (omega arith))
      (columns-back t (c + 1) cs (λ i l. let n : c + 1 + i ≡ c + suc i = omega arith in ap (column_at relations t) n ∙ h (suc i) (omega arith)))

  cells-back : (t : ℕ) (ts : List Table) → ((i : ℕ) → i < length ts → table_cells relations (t + i) ≡ copies (table_at ts i).rows (table_at ts i).columns)
      → cells_from relations t (length ts) ≡ cell_columns ts
  unfolding cells_from
  cells-back t [] h = refl
  cells-back t (x ∷ ts) h =
      let e : t ≡ t + 0 = omega arith in
      ap₂ ◌++◌ (ap (table_cells relations) e ∙ h 0 (omega arith))
      (cells-back (t + 1) ts (λ i l. let n : t + 1 + i ≡ t + suc i = omega arith in ap (table_cells relations) n ∙ h (suc i) (omega arith)))

  table-back : {ts : List Table} → TablesKnown ts relations → (t : ℕ) → t < length ts → table_cells relations t ≡ copies (table_at ts t).rows (table_at ts t).columns
  unfolding table_cells
  table-back {ts} T t h = rw (T.rows t h, T.width t h)
      (ap (copies (table_at ts t).rows) (columns-back t 0 (table_at ts t).columns (λ i l. let z : 0 + i ≡ i = omega arith in ap (column_at relations t) z ∙ T.column t i h l)))

  pub candidates-counted : (tables p : ℕ) (r : Option ℕ) → p ≡ capped_product 1 (cells_from relations 0 tables) → r ≡ within_limit p → CandidatesOf relations tables r
  unfolding within_limit
  candidates-counted tables p r e q = record {
    here = q ∙ ap within_limit e;
    counted = λ ts T n.
        let c : cells_from relations 0 tables ≡ cell_columns ts = rw n (cells-back 0 ts (λ i l. let z : 0 + i ≡ i = omega arith in ap (table_cells relations) z ∙ table-back T i l)) in
        let N = sizes_product (cell_columns ts) in
        let m : p ≡ min N too_many = e ∙ ap (capped_product 1) c ∙ capped-product 1 (cell_columns ts) (omega arith) ∙ ap (λ k. min k too_many) (omega arith) in
        q ∙ by-test (leb N candidate_limit)
        (λ t. let l = leb-true N candidate_limit t in let k : p ≡ N = omega arith in ap within_limit k)
        (λ t. let l = leb-false N candidate_limit t in
        let u : leb p candidate_limit ≡ false = lt-leb p candidate_limit (omega arith) in rw (t, u));
  }

-- ---- a turn of each loop, and its end: what is left to multiply with

pub no_cells : (xs : List Column) (left p : ℕ) → left ≡ 0 → capped_product p (copies left xs) ≡ p
unfolding capped_product
no_cells xs left p e = rw e

-- one less is left of n behind i + 1
left-of : (n i : ℕ) → i < n → n - i ≡ suc (n - (i + 1))
left-of n i h = omega arith

pub table-turn : (xs : List Column) (n k p q : ℕ) → k < n → q ≡ capped_product p xs → capped_product q (copies (n - (k + 1)) xs) ≡ capped_product p (copies (n - k) xs)
table-turn xs n k p q h e = rw (e, left-of n k h) (sym (capped-append p xs (copies (n - (k + 1)) xs)))

pub all_left : (n : ℕ) → n - 0 ≡ n
all_left n = omega arith

module _ (relations : List Relation) where
  pub no-columns : (t c n p : ℕ) → n ≤ c → capped_product p (columns_from relations t c (n - c)) ≡ p
  unfolding capped_product columns_from
  no-columns t c n p h = let e : n - c ≡ 0 = omega arith in rw e

  pub row-turn : (t c n p q : ℕ) → c < n → q ≡ min (p * size (column_at relations t c)) too_many
      → capped_product q (columns_from relations t (c + 1) (n - (c + 1))) ≡ capped_product p (columns_from relations t c (n - c))
  unfolding capped_product columns_from
  row-turn t c n p q h e = rw (e, left-of n c h)

  pub no-tables : (t n p : ℕ) → n ≤ t → capped_product p (cells_from relations t (n - t)) ≡ p
  unfolding capped_product cells_from
  no-tables t n p h = let e : n - t ≡ 0 = omega arith in rw e

  pub file-turn : (t n p q : ℕ) → t < n → q ≡ capped_product p (table_cells relations t)
      → capped_product q (cells_from relations (t + 1) (n - (t + 1))) ≡ capped_product p (cells_from relations t (n - t))
  unfolding cells_from
  file-turn t n p q h e = rw (e, left-of n t h) (sym (capped-append p (table_cells relations t) (cells_from relations (t + 1) (n - (t + 1)))))
