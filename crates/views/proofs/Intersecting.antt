-- Rows compared, counted and kept. Assumes nothing.
use mathlib.Core.Path.{◌≡◌, refl, sym, ap, ap₂, ◌∙◌}
use mathlib.Core.Bool.{Bool, true, false, ◌&&◌, cond}
use mathlib.Core.List.{List, [], ◌∷◌, ◌++◌, map, append-nil}
use Prim.Native.Nat.{ℕ, zero, suc, ◌+◌, ◌≤◌}
use native.Mathlib.Numerals.{add-one}
use native.Mathlib.Omega.{arith}
use lib.Dec.{ltb}
use lib.IntN.{ℤ}
use lib.ListN.{length}
use Rattle.std.specs.List.{list_all, range_with_len}
use Rattle.std.proofs.lemmas.List.Folds.{list_all-append, list_all-map}
use Rattle.std.proofs.lemmas.List.FromFn.{map-range_with_len_more}
use Rattle.value.specs.Bag.{tick, count}
use Rattle.value.specs.Value.{value_test}
use Rattle.value.proofs.Decides.{by-test}
use Rattle.meaning.specs.Lists.{each, common}
use Rattle.meaning.specs.Syntax.{Row}
use Rattle.meaning.specs.Evaluation.{row_test}
use Rattle.meaning.proofs.ListBags.{count-append}
use Rattle.meaning.proofs.ListSteps.{common-snoc}
use Rattle.store.specs.Layout.{column_limit, cell_in}
use Rattle.store.specs.Rows.{listed, row_in, rows_in, put_row, row_of}
use Rattle.store.specs.declared.Row.{Row as Values}
use Rattle.meaning.proofs.Listed.{length-listed}
use Rattle.store.proofs.RowLaws.{rows_none, rows_more, row-length, put-read, put-grows}
use Rattle.views.specs.Copies.{Fits, KeptRows, kept_next, kept_rows, Appended, Intersection}
use Rattle.views.proofs.Copying.{apart-same, apart_more, apart-put, apart-rows, row_kept}

-- ---- rows that are the same

each_snoc : {A : Type 0} (same : A → A → Bool) (f g : ℕ → A) (n : ℕ)
    → each same (listed f (suc n)) (listed g (suc n)) ≡ (each same (listed f n) (listed g n) && same (f n) (g n))
unfolding listed
each_snoc {A} same f g n = go n (f n) (g n)
  where
    both : (xs ys : List A) (x y : A) → length xs ≡ length ys → each same (xs ++ (x ∷ [])) (ys ++ (y ∷ [])) ≡ (each same xs ys && same x y)
    both [] [] x y e = by-test (same x y) (λ t. rw t) (λ t. rw t)
    both [] (b ∷ ys) x y e = absurd (omega arith)
    both (a ∷ xs) [] x y e = absurd (omega arith)
    both (a ∷ xs) (b ∷ ys) x y e = by-test (same a b) (λ t. rw t (both xs ys x y (omega arith))) (λ t. rw t)

    go : (k : ℕ) (x y : A) → each same (listed f k ++ (x ∷ [])) (listed g k ++ (y ∷ [])) ≡ (each same (listed f k) (listed g k) && same x y)
    go k x y = both (listed f k) (listed g k) x y (length-listed f k ∙ sym (length-listed g k))

module _ (work : List ℤ) (a i b j : ℕ) where
  abbrev alike : ℕ → Bool
  alike w = row_test.same (row_in work a w i) (row_in work b w j)

  alike_next : (c : ℕ) → alike (suc c) ≡ (alike c && value_test.same (cell_in work a i c) (cell_in work b j c))
  unfolding row_in
  alike_next c = each_snoc value_test.same (cell_in work a i) (cell_in work b j) c

  -- their values at column c are the same
  abbrev pub alike_at : ℕ → Bool
  alike_at c = value_test.same (cell_in work a i c) (cell_in work b j c)

  -- the rows are, where their values at each column are
  pub alike-all : (w : ℕ) → list_all alike_at (range_with_len 0 w) ≡ alike w
  unfolding row_in listed
  alike-all zero = refl
  alike-all (suc w) =
      let tested : (n : ℕ) → list_all alike_at (range_with_len 0 n) ≡ list_all (λ t. t) (map alike_at (range_with_len 0 n)) =
      λ n. sym (list_all-map (λ t. t) alike_at (range_with_len 0 n)) in
      let more : map alike_at (range_with_len 0 (suc w)) ≡ map alike_at (range_with_len 0 w) ++ (alike_at w ∷ []) =
      rw (add-one w) at (map-range_with_len_more alike_at 0 w w (omega arith)) in
      tested (suc w) ∙ ap (list_all (λ t. t)) more ∙ list_all-append (λ t. t) (map alike_at (range_with_len 0 w)) (alike_at w ∷ [])
      ∙ ap₂ (λ s t. s && t) (sym (tested w) ∙ alike-all w) (and-true (alike_at w)) ∙ sym (alike_next w)
    where
      and-true : (t : Bool) → (t && true) ≡ t
      and-true true = refl
      and-true false = refl

-- ---- how often

pub count-whole : (work : List ℤ) (b w n j : ℕ) (r : Row) {k : ℕ} → j ≤ n → n ≤ j → k ≡ count row_test r (rows_in work b w j) → k ≡ count row_test r (rows_in work b w n)
count-whole work b w n j r h g e = let q : j ≡ n = omega arith in e ∙ ap (λ x. count row_test r (rows_in work b w x)) q

pub count_none : (work : List ℤ) (b w : ℕ) (r : Row) → 0 ≡ count row_test r (rows_in work b w 0)
count_none work b w r = rw (rows_none work b w)

pub count-more : (work : List ℤ) (b w n k one : ℕ) (r : Row) → k ≡ count row_test r (rows_in work b w n) → one ≡ tick (row_test.same r (row_in work b w n)) 0
    → k + one ≡ count row_test r (rows_in work b w (n + 1))
count-more work b w n k one r e f =
    let s : n + 1 ≡ suc n = omega arith in
    ap₂ (λ x y. x + y) e f ∙ sym (ap (λ l. count row_test r l) (ap (rows_in work b w) s ∙ rows_more work b w n) ∙ count-append (row_test.same r) (rows_in work b w n) (row_in work b w n ∷ []))

-- ---- kept rows

pub appended : {keep : Bool} {work work' : List ℤ} {source i to at w : ℕ} (row : Values) → keep ≡ true → (w ≤ column_limit → row_of row w ≡ row_in work source w i)
    → work' ≡ put_row work to at w (row_of row w) → Appended keep work source i to at w (at + 1) work'
appended {keep} {work} {source = source} {i} {to} {at} {w} row k r p = record {
  yes = λ _. (p ∙ put-read work to at w (row_of row w) (row_in work source w i) r, refl);
  no = λ n. let both : true ≡ false = sym k ∙ n in let z : ◌≡◌ {A = ℕ} 0 1 = cc in absurd (omega arith);
}

pub left_out : {keep : Bool} {work : List ℤ} {source i to at w : ℕ} → keep ≡ false → Appended keep work source i to at w at work
left_out {keep} k = record {
  yes = λ n. let both : false ≡ true = sym k ∙ n in let z : ◌≡◌ {A = ℕ} 0 1 = cc in absurd (omega arith);
  no = λ _. (refl, refl);
}

pub shared-none : (work : List ℤ) (left right n to w : ℕ) → Intersection work left 0 right n to w 0 work
unfolding kept_rows
shared-none work left right n to w =
    record { here = refl; apart = apart-same to work; few = omega arith; rows = λ p q f. rw (rows_none work to w, rows_none work left w) }

module _ {work now : List ℤ} {left i right n to w kept before there : ℕ} (s : Intersection work left i right n to w kept now)
    (x : before ≡ count row_test (row_in now left w i) (rows_in now left w i)) (y : there ≡ count row_test (row_in now left w i) (rows_in now right w n)) where
  -- the rows that are read are as they were
  step-common : (left ≡ to → ⊥) → (right ≡ to → ⊥)
      → common row_test (rows_in work left w (i + 1)) (rows_in work right w n)
      ≡ common row_test (rows_in work left w i) (rows_in work right w n) ++ cond (ltb before there) (row_in work left w i ∷ []) []
  step-common p q =
      let k : i + 1 ≡ suc i = omega arith in
      let row = row_kept work now left to w i s.apart p in
      let b : before ≡ count row_test (row_in work left w i) (rows_in work left w i) = x ∙ ap₂ (count row_test) row (apart-rows s.apart left w i p) in
      let t : there ≡ count row_test (row_in work left w i) (rows_in work right w n) = y ∙ ap₂ (count row_test) row (apart-rows s.apart right w n q) in
      ap (λ l. common row_test l (rows_in work right w n)) (ap (rows_in work left w) k ∙ rows_more work left w i)
      ∙ common-snoc row_test (rows_in work left w i) (row_in work left w i) (rows_in work right w n)
      ∙ ap₂ (λ u v. common row_test (rows_in work left w i) (rows_in work right w n) ++ cond (ltb u v) (row_in work left w i ∷ []) []) (sym b) (sym t)

  abbrev told : List ℤ → ℕ → KeptRows
  told l k = record { work = l; kept = k }

  -- the test that row i is kept
  test : (b : Bool) → ltb before there ≡ b → ltb (count row_test (row_in now left w i) (rows_in now left w i)) (count row_test (row_in now left w i) (rows_in now right w n)) ≡ b
  test b t = ap₂ ltb (sym x) (sym y) ∙ t

  here-next : (k : KeptRows) → kept_next left right n to w i (told now kept) ≡ k → k ≡ kept_rows work left (i + 1) right n to w
  unfolding kept_rows
  here-next k e = rw (add-one i) (sym e ∙ ap (kept_next left right n to w i) s.here)

  pub shared-more : {after : List ℤ} {next : ℕ} → Appended (ltb before there) now left i to kept w next after → Intersection work left (i + 1) right n to w next after
  shared-more {after} {next} a = by-test (ltb before there) taken passed
    where
      less : Fits to (i + 1) w work → Fits to i w work
      less f = record { relation = f.relation; rows = omega (arith, f.rows); columns = f.columns; whole = f.whole }

      taken : ltb before there ≡ true → Intersection work left (i + 1) right n to w next after
      taken t =
          let (put, count-is) = a.yes t in
          let row = row_in now left w i in
          record {
            here = ap₂ told put count-is ∙ here-next (told (put_row now to kept w row) (kept + 1)) (rw (test true t));
            apart = rw put (apart_more s.apart (apart-put now to kept w row));
            few = omega (arith, s.few, count-is);
            rows = λ p q f.
                let k : next ≡ suc kept = omega (arith, count-is) in
                ap₂ (λ l j. rows_in l to w j) put k
                ∙ put-grows now to kept w row f.relation (omega (arith, f.rows, s.few)) f.columns (omega (arith, f.whole, s.apart.size)) (row-length now left w i)
                ∙ ap₂ (λ (u : List Row) (v : Row). u ++ (v ∷ [])) (s.rows p q (less f)) (row_kept work now left to w i s.apart p)
                ∙ sym (step-common p q ∙ ap (λ c. common row_test (rows_in work left w i) (rows_in work right w n) ++ cond c (row_in work left w i ∷ []) []) t);
          }

      passed : ltb before there ≡ false → Intersection work left (i + 1) right n to w next after
      passed t =
          let (same, count-is) = a.no t in
          record {
            here = ap₂ told same count-is ∙ here-next (told now kept) (rw (test false t));
            apart = rw same s.apart;
            few = omega (arith, s.few, count-is);
            rows = λ p q f.
                ap₂ (λ l j. rows_in l to w j) same count-is ∙ s.rows p q (less f)
                ∙ sym (step-common p q ∙ ap (λ c. common row_test (rows_in work left w i) (rows_in work right w n) ++ cond c (row_in work left w i ∷ []) []) t
                ∙ append-nil (common row_test (rows_in work left w i) (rows_in work right w n)));
          }
