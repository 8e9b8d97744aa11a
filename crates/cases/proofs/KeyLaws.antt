-- Primary keys, tested column by column, row by row and table by table. Assumes nothing.
use mathlib.Core.Path.{◌≡◌, refl, sym, ap, ap₂, ◌∙◌}
use mathlib.Core.Bool.{Bool, true, false, not, ◌&&◌, ◌||◌, and-false}
use mathlib.Core.List.{List, [], ◌∷◌}
use Prim.Native.Nat.{ℕ, suc, ◌+◌, ◌-◌, ◌/◌, ◌%◌, ◌<◌, ◌≤◌}
use native.Mathlib.Numerals.{add-one}
use native.Mathlib.Omega.{arith}
use lib.Dec.{eqb}
use lib.IntN.{ℤ}
use lib.ListN.{length, get_or, drop}
use lib.Seq.{drop-cons}
use borrow.Author.Tests.{eqb-true, eqb-false, eq-eqb, ne_eqb}
use Rattle.value.specs.Value.{Value, value_test}
use Rattle.value.proofs.Decides.{by-test}
use Rattle.meaning.specs.Lists.{any, pairwise, each}
use Rattle.meaning.specs.Syntax.{Row, Table, File, Database}
use Rattle.meaning.specs.Evaluation.{missing}
use Rattle.meaning.specs.Valid.{Shaped}
use Rattle.meaning.specs.Decided.{differ, key_holds}
use Rattle.meaning.proofs.Elements.{all-at}
use Rattle.meaning.proofs.DecidedLists.{each-length}
use Rattle.language.specs.Frames.{no_table, mask_bits}
use Rattle.language.specs.Legal.{table_at}
use Rattle.language.specs.Written.{mask_of}
use Rattle.language.proofs.MaskLaws.{bits_back}
use Rattle.catalog.specs.FileIn.{Source, FileLaid}
use Rattle.catalog.proofs.FileLaws.{columns-laid}
use Rattle.catalog.specs.declared.relation.Relation.{Relation}
use Rattle.store.specs.Layout.{cell_in}
use Rattle.store.specs.Rows.{row_in, rows_in}
use Rattle.store.proofs.RowLaws.{row-length, cell-of-row}
use Rattle.cases.specs.TablesIn.{TablesIn}
use Rattle.cases.specs.declared.validity.Table.{Table as Counted}
use Rattle.cases.specs.Validity.{all_below, differ_in, differs_from_earlier_in, key_in, table_in, key_at, keys_in}
use Rattle.cases.proofs.RowTests.{all-rows, pairwise-rows, all-each}

-- ---- two rows, column by column

-- the columns from c on, with the mask `left`, tell as much as all of them
pub record Rest (work : List ℤ) (t i j w mask left c : ℕ) : Type 0 where
  pub rest : differ_in work t i j w mask ≡ differ (mask_bits (w - c) left) (drop c (row_in work t w i)) (drop c (row_in work t w j))

-- one column more
differ-next : (n left : ℕ) (μ ν : Row) (c : ℕ) → c < length μ → c < length ν
    → differ (mask_bits (suc n) left) (drop c μ) (drop c ν)
    ≡ ((eqb (left % 2) 1 && not (value_test.same (get_or μ c missing) (get_or ν c missing))) || differ (mask_bits n (left / 2)) (drop (c + 1) μ) (drop (c + 1) ν))
differ-next n left μ ν c hμ hν = rw (add-one, drop-cons μ c missing hμ, drop-cons ν c missing hν)

module _ {work : List ℤ} {t i j w mask : ℕ} where
  pub rest-first : Rest work t i j w mask mask 0
  rest-first = let e : w ≡ w - 0 = omega arith in record { rest = ap (λ n. differ (mask_bits n mask) (row_in work t w i) (row_in work t w j)) e }

  module _ {left c : ℕ} {x y : Value} (r : Rest work t i j w mask left c) (h : c < w) (ex : x ≡ cell_in work t i c) (ey : y ≡ cell_in work t j c) where
    turn : differ_in work t i j w mask
        ≡ ((eqb (left % 2) 1 && not (value_test.same x y)) || differ (mask_bits (w - (c + 1)) (left / 2)) (drop (c + 1) (row_in work t w i)) (drop (c + 1) (row_in work t w j)))
    turn =
        let μ = row_in work t w i in
        let ν = row_in work t w j in
        let n : w - c ≡ suc (w - (c + 1)) = omega arith in
        r.rest ∙ ap (λ k. differ (mask_bits k left) (drop c μ) (drop c ν)) n
        ∙ differ-next (w - (c + 1)) left μ ν c (omega (arith, row-length work t w i)) (omega (arith, row-length work t w j))
        ∙ ap₂ (λ u v. (eqb (left % 2) 1 && not (value_test.same u v)) || differ (mask_bits (w - (c + 1)) (left / 2)) (drop (c + 1) μ) (drop (c + 1) ν))
        (cell-of-row work t w i c h ∙ sym ex) (cell-of-row work t w j c h ∙ sym ey)

    pub rest-stops : left % 2 ≡ 1 → value_test.same x y ≡ false → true ≡ differ_in work t i j w mask
    rest-stops o s = sym (turn ∙ rw (eq-eqb (left % 2) 1 o, s))

    pub rest-same : value_test.same x y ≡ true → Rest work t i j w mask (left / 2) (c + 1)
    rest-same s = record { rest = turn ∙ rw (s, and-false (eqb (left % 2) 1)) }

    pub rest-unmarked : (left % 2 ≡ 1 → ⊥) → Rest work t i j w mask (left / 2) (c + 1)
    rest-unmarked n = record { rest = turn ∙ rw (ne_eqb (left % 2) 1 n) }

  pub rest-none : {left c : ℕ} → w ≤ c → Rest work t i j w mask left c → false ≡ differ_in work t i j w mask
  rest-none {left} {c} h r =
      let e : w - c ≡ 0 = omega arith in
      sym (r.rest ∙ ap (λ k. differ (mask_bits k left) (drop c (row_in work t w i)) (drop c (row_in work t w j))) e)

-- ---- the rows of a table, and the tables, in the code's words

module _ (work : List ℤ) (t w mask : ℕ) where
  pub earlier-is : (j : ℕ) {r : Bool} → all_below (λ i. differ_in work t i j w mask) j ≡ r → r ≡ differs_from_earlier_in work t j w mask
  earlier-is j e = sym e ∙ all-rows work t w (λ i. differ_in work t i j w mask) (λ μ. differ (mask_bits w mask) μ (row_in work t w j)) (λ i. refl) j

  module _ (rows : ℕ) where
    pub unkeyed-is : mask ≡ 0 → true ≡ key_in work t rows w mask
    unfolding key_in
    unkeyed-is z = rw (eq-eqb mask 0 z)

    pub keyed-is : {r : Bool} → (mask ≡ 0 → ⊥) → all_below (λ j. differs_from_earlier_in work t j w mask) rows ≡ r → r ≡ key_in work t rows w mask
    unfolding key_in
    keyed-is n e = rw (ne_eqb mask 0 n) (sym e ∙ pairwise-rows work t w (differ (mask_bits w mask)) rows)

pub key-there : (relations : List Relation) (counts : List ℕ) (work : List ℤ) (t : ℕ) {x : Counted} {r : Bool} → x ≡ table_in relations counts t
    → r ≡ key_in work x.number x.rows x.width x.mask → r ≡ key_at relations counts work t
unfolding key_at
key-there relations counts work t ex e = e ∙ ap (λ (y : Counted). key_in work y.number y.rows y.width y.mask) ex

-- ---- the tables of a file

-- "0 no key"
no_key : (ks : List Bool) → eqb (mask_of ks) 0 ≡ not (any (λ k. k) ks)
no_key [] = refl
no_key (true ∷ ks) = ne_eqb (mask_of (true ∷ ks)) 0 (λ e. omega arith)
no_key (false ∷ ks) = by-test (eqb (mask_of ks) 0)
    (λ e. eq-eqb (mask_of (false ∷ ks)) 0 (omega (arith, eqb-true (mask_of ks) 0 e)) ∙ sym e)
    (λ e. ne_eqb (mask_of (false ∷ ks)) 0 (λ z. eqb-false (mask_of ks) 0 e (omega arith)) ∙ sym e)
    ∙ no_key ks

key-told : (work : List ℤ) (t rows : ℕ) (tb : Table) → key_in work t rows (length tb.key) (mask_of tb.key) ≡ key_holds tb (rows_in work t (length tb.key) rows)
unfolding key_in
key-told work t rows tb = ap₂ (λ (b : Bool) (ks : List Bool). b || pairwise (differ ks) (rows_in work t (length tb.key) rows)) (no_key tb.key) (bits_back tb.key)

pub keys-told : {F : File} {d : Database} {source : Source} {counts : List ℕ} {work : List ℤ} → FileLaid F source → Shaped F d → TablesIn F d counts work
    → keys_in source.relations counts work source.outline.tables ≡ each key_holds F.tables d
unfolding key_at
keys-told {F} {d} {source} {counts = counts} {work = work} G sh s =
    ap (keys_in source.relations counts work) G.tables
    ∙ all-each key_holds no_table [] (key_at source.relations counts work) F.tables d (each-length sh)
    (λ t h.
    let tb = table_at F.tables t in
    let rows = get_or counts t 0 in
    let e : length tb.key ≡ length tb.columns = (all-at G.legal.tables no_table t h).key in
    ap₂ (key_in work t rows) (columns-laid G t h ∙ sym e) (G.masks t h) ∙ key-told work t rows tb
    ∙ ap (key_holds tb) (ap (λ w. rows_in work t w rows) e ∙ s.table t h))
