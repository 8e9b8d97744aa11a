-- The digits of a candidate number, from the last one back. Assumes nothing.
use mathlib.Core.Path.{◌≡◌, refl, sym, ap, ap₂, ◌∙◌}
use mathlib.Core.List.{List, [], ◌∷◌}
use Prim.Native.Nat.{ℕ, zero, suc, ◌*◌, ◌/◌, ◌%◌, ◌<◌}
use native.Mathlib.Nat.{mul_comm, mul_assoc, one-mul, div-div-eq-div-mul, mod-lt}
use lib.ListN.{length, get_or, take, drop}
use lib.Seq.{drop-cons}
use Rattle.value.specs.Bag.{All}
use Rattle.value.specs.Value.{Value, Column, size, digit, narrowed}
use Rattle.value.proofs.Linear.{ints}
use Rattle.value.proofs.Values.{between-wider, digit-within, held-narrowed}
use Rattle.meaning.specs.Syntax.{Table, File}
use Rattle.meaning.specs.Candidates.{cell_columns, sizes_product, values}
use Rattle.meaning.proofs.Elements.{all_append, all-at}
use Rattle.meaning.proofs.Digits.{size_above}
use Rattle.meaning.proofs.Numbering.{all-copies}
use Rattle.language.specs.Legal.{Legal, LegalTable, LegalColumn}
use Rattle.catalog.proofs.FileLaws.{no_column}

-- ---- quotients

pub div-product : (k a b : ℕ) → k / (a * b) ≡ k / b / a
div-product k a b = ap (λ (n : ℕ). k / n) (mul_comm a b) ∙ sym (div-div-eq-div-mul k b a)

product-split : (cs : List Column) (j : ℕ) → sizes_product cs ≡ sizes_product (take j cs) * sizes_product (drop j cs)
product-split cs zero = sym (one-mul (sizes_product cs))
product-split [] (suc j) = refl
product-split (c ∷ cs) (suc j) = ap (λ (n : ℕ). size c * n) (product-split cs j) ∙ sym (mul_assoc (size c) (sizes_product (take j cs)) (sizes_product (drop j cs)))

-- where the quotients are the same, so are the cells before
pub same-leading : (cs : List Column) (j k l : ℕ) → k / sizes_product (drop j cs) ≡ l / sizes_product (drop j cs) → take j (values cs k) ≡ take j (values cs l)
same-leading cs zero k l e = refl
same-leading [] (suc j) k l e = refl
same-leading (c ∷ cs) (suc j) k l e =
    let a = sizes_product (take j cs) in
    let b = sizes_product (drop j cs) in
    let q : k / sizes_product cs ≡ l / sizes_product cs =
    ap (λ (n : ℕ). k / n) (product-split cs j) ∙ div-product k a b
    ∙ ap (λ (n : ℕ). n / a) e ∙ sym (div-product l a b) ∙ sym (ap (λ (n : ℕ). l / n) (product-split cs j)) in
    ap₂ (λ (n : ℕ) (vs : List Value). digit c (n % size c) ∷ vs) q (same-leading cs j k l e)

pub drop-values : (cs : List Column) (j k : ℕ) → drop j (values cs k) ≡ values (drop j cs) k
drop-values cs zero k = refl
drop-values [] (suc j) k = refl
drop-values (c ∷ cs) (suc j) k = drop-values cs j k

-- ---- one cell more

pub values-step : (cs : List Column) (j k : ℕ) → j < length cs
    → values (drop j cs) k ≡ digit (get_or cs j no_column) (k / sizes_product (drop (suc j) cs) % size (get_or cs j no_column)) ∷ values (drop (suc j) cs) k
values-step cs j k h = ap (λ (l : List Column). values l k) (drop-cons cs j no_column h)

pub quotient-step : (cs : List Column) (j k : ℕ) → j < length cs → k / sizes_product (drop (suc j) cs) / size (get_or cs j no_column) ≡ k / sizes_product (drop j cs)
quotient-step cs j k h =
    sym (ap (λ (l : List Column). k / sizes_product l) (drop-cons cs j no_column h) ∙ div-product k (size (get_or cs j no_column)) (sizes_product (drop (suc j) cs)))

-- ---- the columns of a legal file

pub columns-legal : {ts : List Table} → All LegalTable ts → All LegalColumn (cell_columns ts)
columns-legal All.nil = All.nil
columns-legal (All.cons {x = t} p ps) = all_append (all-copies t.rows p.columns) (columns-legal ps)

pub column-legal : (F : File) → Legal F → (j : ℕ) → j < length (cell_columns F.tables) → LegalColumn (get_or (cell_columns F.tables) j no_column)
column-legal F h j l = all-at (columns-legal h.tables) no_column j l

pub legal-size : (c : Column) → LegalColumn c → 0 < size c
legal-size c h = size_above c h.ordered

-- a digit's value is held
pub digit-held : (c : Column) → LegalColumn c → (n : ℕ) → narrowed (digit c (n % size c)) ≡ digit c (n % size c)
digit-held c h n =
    let s : 0 < size c = legal-size c h in
    held-narrowed (between-wider (omega (ints, h.low)) (omega (ints, h.high)) (digit-within c h.ordered (n % size c) (mod-lt n s)).bounds)
