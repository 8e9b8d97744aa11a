-- Laws on cells and rows in a work area of any sizes: "The fact about prefix forms is proved for any frame length, that about rows for any
-- column count". No law on rows opens the position. Assumes nothing.
use mathlib.Core.Path.{◌≡◌, refl, ap, sym, ◌∙◌}
use mathlib.Core.Logic.{⊎_elim}
use mathlib.Core.Bool.{true, false, ◌&&◌}
use mathlib.Core.List.{List, [], ◌∷◌, ◌++◌, append-nil}
use Prim.Native.Nat.{ℕ, zero, suc, ◌+◌, ◌*◌, ◌-◌, ◌/◌, ◌%◌, ◌≤◌, ◌<◌}
use native.Mathlib.Nat.{zero-add, mul_comm, mul-zero, mul-suc, mul-le-mul_left, mul-add-div, div-eq_of_lt, mul-add-mod_self_left, mod-eq_of_lt, eq-or-lt_of_le, le_of_suc-le-suc}
use native.Mathlib.Omega.{arith}
use lib.Dec.{ltb, leb}
use lib.IntN.{ℤ, pos}
use lib.ListN.{length, get_or, take, drop, take-append-drop, length-set, length-drop, drop_of_length-le}
use lib.Seq.{get_or-set_same, get_or-set_other, drop-set-add, take-set-le, take_all}
use borrow.Author.Tests.{ltb-true, lt-ltb, leb-true, le-leb}
use borrow.Rule.Slice.PartMut.{put_mid}
use Rattle.value.specs.Value.{Value, stored}
use Rattle.value.proofs.Values.{number-stored}
use Rattle.value.proofs.Decides.{by-test, and_parts}
use Rattle.meaning.specs.Syntax.{Row}
use Rattle.meaning.specs.Evaluation.{missing}
use Rattle.store.specs.Strides.{Sizes, listed, stretch, area, inside, position, cell_in, put_cell, row_in, rows_in, put_cells, room, put_row, RowPut, OnlyCells}
use Rattle.meaning.proofs.Listed.{listed_same, length-listed, get_d-listed, listed-get_d}

-- ---- numbers

-- quotient and remainder are unique
divided : (b q x q' x' : ℕ) → x < b → x' < b → b * q + x ≡ b * q' + x' → (q ≡ q') × (x ≡ x')
divided b q x q' x' h h' e =
    let quotient : (q x : ℕ) → x < b → (b * q + x) / b ≡ q = λ q x h. mul-add-div {m = b} (omega arith) q x ∙ rw (div-eq_of_lt {n = x} {m = b} h) (omega arith) in
    let remainder : (q x : ℕ) → x < b → (b * q + x) % b ≡ x = λ q x h. mul-add-mod_self_left b q x ∙ mod-eq_of_lt {n = x} {m = b} h in
    (sym (quotient q x h) ∙ ap (λ n. n / b) e ∙ quotient q' x' h', sym (remainder q x h) ∙ ap (λ n. n % b) e ∙ remainder q' x' h')

-- number x of piece q, of n pieces of b numbers each
piece : (b q x n : ℕ) → q < n → x < b → b * q + x < n * b
piece b q x n h l = omega (arith, mul-suc b q, mul-le-mul_left b h, mul_comm b n)

module _ (s : Sizes) where
  -- ---- where a cell lies

  pub inside-limits : (r i c : ℕ) → inside s r i c ≡ true → (r < s.relations) × (i < s.rows) × (c < s.columns)
  unfolding inside
  inside-limits r i c e =
      let p = and_parts (ltb r s.relations) (ltb i s.rows && ltb c s.columns) e in
      let q = and_parts (ltb i s.rows) (ltb c s.columns) p.1 in
      (ltb-true r s.relations p.0, ltb-true i s.rows q.0, ltb-true c s.columns q.1)

  limits-inside : (r i c : ℕ) → r < s.relations → i < s.rows → c < s.columns → inside s r i c ≡ true
  unfolding inside
  limits-inside r i c hr hi hc = rw (lt-ltb r s.relations hr, lt-ltb i s.rows hi, lt-ltb c s.columns hc)

  -- a cell lies in its relation's stretch
  in-stretch : (i c : ℕ) → i < s.rows → c < s.columns → s.columns * i + c < stretch s
  in-stretch i c hi hc = omega (arith, piece s.columns i c s.rows hi hc)

  in_area : (r i c : ℕ) → r < s.relations → i < s.rows → c < s.columns → position s r i c < area s
  unfolding position
  in_area r i c hr hi hc = piece (stretch s) r (s.columns * i + c) s.relations hr (in-stretch i c hi hc)

  apart : (r i c r' i' c' : ℕ) → inside s r i c ≡ true → inside s r' i' c' ≡ true → (r' ≡ r → i' ≡ i → c' ≡ c → ⊥) → position s r' i' c' ≡ position s r i c → ⊥
  unfolding position
  apart r i c r' i' c' e e' h q =
      let l = inside-limits r i c e in
      let l' = inside-limits r' i' c' e' in
      let stretches = divided (stretch s) r' (s.columns * i' + c') r (s.columns * i + c) (in-stretch i' c' l'.1 l'.2) (in-stretch i c l.1 l.2) q in
      let rows = divided s.columns i' c' i c l'.2 l.2 stretches.1 in
      h stretches.0 rows.0 rows.1

  -- ---- one cell is written: it is the value, every other cell keeps, and so does the length

  pub put-cell-there : (work : List ℤ) (r i c : ℕ) (v : Value) → r < s.relations → i < s.rows → c < s.columns → area s ≤ length work
      → cell_in s (put_cell s work r i c v) r i c ≡ v
  unfolding cell_in put_cell
  put-cell-there work r i c v hr hi hc hw =
      rw (limits-inside r i c hr hi hc)
      (ap Value.number (get_or-set_same work (position s r i c) (stored v) (pos 0) (omega (arith, in_area r i c hr hi hc))) ∙ number-stored v)

  pub put-cell-other : (work : List ℤ) (r i c : ℕ) (v : Value) (r' i' c' : ℕ) → (r' ≡ r → i' ≡ i → c' ≡ c → ⊥)
      → cell_in s (put_cell s work r i c v) r' i' c' ≡ cell_in s work r' i' c'
  unfolding cell_in put_cell
  put-cell-other work r i c v r' i' c' h =
      by-test (inside s r i c)
      (λ e. by-test (inside s r' i' c')
      (λ e'. rw (e, e') (ap Value.number (get_or-set_other work (position s r i c) (position s r' i' c') (stored v) (pos 0) (apart r i c r' i' c' e e' h))))
      (λ e'. rw e'))
      (λ e. rw e)

  pub put-cell-length : (work : List ℤ) (r i c : ℕ) (v : Value) → length (put_cell s work r i c v) ≡ length work
  unfolding put_cell
  put-cell-length work r i c v = by-test (inside s r i c) (λ e. rw e (length-set work (position s r i c) (stored v))) (λ e. rw e)

  -- ---- the part that starts at a relation's place: the relation is the part's relation 0, and what stands before keeps

  put-cell-part : (work : List ℤ) (r i c : ℕ) (v : Value) → r < s.relations → drop (stretch s * r) (put_cell s work r i c v) ≡ put_cell s (drop (stretch s * r) work) 0 i c v
  unfolding put_cell inside position
  put-cell-part work r i c v h =
      let some : 0 < s.relations = omega arith in
      rw (lt-ltb r s.relations h, lt-ltb 0 s.relations some)
      (by-test (ltb i s.rows && ltb c s.columns)
      (λ e. rw (e, mul-zero, zero-add) (drop-set-add (stretch s * r) work (s.columns * i + c) (stored v)))
      (λ e. rw e))

  put-cell-before : (work : List ℤ) (r i c : ℕ) (v : Value) → take (stretch s * r) (put_cell s work r i c v) ≡ take (stretch s * r) work
  unfolding put_cell position
  put-cell-before work r i c v =
      by-test (inside s r i c) (λ e. rw e (take-set-le (stretch s * r) work (position s r i c) (stored v) (omega arith))) (λ e. rw e)

  -- ---- rows are read

  pub rows_none : (work : List ℤ) (r w : ℕ) → rows_in s work r w zero ≡ []
  unfolding rows_in listed
  rows_none work r w = refl

  pub rows_more : (work : List ℤ) (r w n : ℕ) → rows_in s work r w (suc n) ≡ rows_in s work r w n ++ (row_in s work r w n ∷ [])
  unfolding rows_in listed
  rows_more work r w n = refl

  pub rows-length : (work : List ℤ) (r w n : ℕ) → length (rows_in s work r w n) ≡ n
  unfolding rows_in
  rows-length work r w n = length-listed (row_in s work r w) n

  pub row-length : (work : List ℤ) (r w i : ℕ) → length (row_in s work r w i) ≡ w
  unfolding row_in
  row-length work r w i = length-listed (cell_in s work r i) w

  pub row-of-rows : (work : List ℤ) (r w n i : ℕ) → i < n → get_or (rows_in s work r w n) i [] ≡ row_in s work r w i
  unfolding rows_in
  row-of-rows work r w n i h = get_d-listed (row_in s work r w) n i [] h

  pub cell-of-row : (work : List ℤ) (r w i c : ℕ) → c < w → get_or (row_in s work r w i) c missing ≡ cell_in s work r i c
  unfolding row_in
  cell-of-row work r w i c h = get_d-listed (cell_in s work r i) w c missing h

  -- a relation's rows are what its cells are
  pub rows_same : (work work' : List ℤ) (r w n : ℕ) → ((i c : ℕ) → i < n → c < w → cell_in s work' r i c ≡ cell_in s work r i c)
      → rows_in s work' r w n ≡ rows_in s work r w n
  unfolding rows_in row_in
  rows_same work work' r w n h =
      listed_same (row_in s work' r w) (row_in s work r w) n (λ i hi. listed_same (cell_in s work' r i) (cell_in s work r i) w (λ c hc. h i c hi hc))

  -- ---- the cells of a row are written one after the other

  put-cells-length : (work : List ℤ) (r i w : ℕ) (row : Row) → length (put_cells s work r i w row) ≡ length work
  unfolding put_cells
  put-cells-length work r i zero row = refl
  put-cells-length work r i (suc c) row = put-cell-length (put_cells s work r i c row) r i c (get_or row c missing) ∙ put-cells-length work r i c row

  put-cells-other : (work : List ℤ) (r i w : ℕ) (row : Row) (r' i' c' : ℕ) → (r' ≡ r → i' ≡ i → ⊥)
      → cell_in s (put_cells s work r i w row) r' i' c' ≡ cell_in s work r' i' c'
  unfolding put_cells
  put-cells-other work r i zero row r' i' c' h = refl
  put-cells-other work r i (suc c) row r' i' c' h =
      put-cell-other (put_cells s work r i c row) r i c (get_or row c missing) r' i' c' (λ e f _. h e f) ∙ put-cells-other work r i c row r' i' c' h

  put-cells-there : (work : List ℤ) (r i w : ℕ) (row : Row) (c : ℕ) → r < s.relations → i < s.rows → w ≤ s.columns → area s ≤ length work → c < w
      → cell_in s (put_cells s work r i w row) r i c ≡ get_or row c missing
  unfolding put_cells
  put-cells-there work r i zero row c hr hi hw hl h = absurd (omega arith)
  put-cells-there work r i (suc w) row c hr hi hw hl h =
      let before = put_cells s work r i w row in
      ⊎_elim (λ (q : c ≡ w). rw q (put-cell-there before r i w (get_or row w missing) hr hi (omega arith) (omega (arith, put-cells-length work r i w row))))
      (λ (l : c < w). put-cell-other before r i w (get_or row w missing) r i c (λ _ _ e. omega arith) ∙ put-cells-there work r i w row c hr hi (omega arith) hl l)
      (eq-or-lt_of_le (le_of_suc-le-suc h))

  -- ---- a row is put

  pub room-limits : (work : List ℤ) (r i w : ℕ) → room s work r i w ≡ true → (r < s.relations) × (i < s.rows) × (w ≤ s.columns) × (area s ≤ length work)
  unfolding room
  room-limits work r i w e =
      let p = and_parts (ltb r s.relations) (ltb i s.rows && (leb w s.columns && leb (area s) (length work))) e in
      let q = and_parts (ltb i s.rows) (leb w s.columns && leb (area s) (length work)) p.1 in
      let t = and_parts (leb w s.columns) (leb (area s) (length work)) q.1 in
      (ltb-true r s.relations p.0, ltb-true i s.rows q.0, leb-true w s.columns t.0, leb-true (area s) (length work) t.1)

  limits-room : (work : List ℤ) (r i w : ℕ) → r < s.relations → i < s.rows → w ≤ s.columns → area s ≤ length work → room s work r i w ≡ true
  unfolding room
  limits-room work r i w hr hi hw hl = rw (lt-ltb r s.relations hr, lt-ltb i s.rows hi, le-leb w s.columns hw, le-leb (area s) (length work) hl)

  pub put-length : (work : List ℤ) (r i w : ℕ) (row : Row) → length (put_row s work r i w row) ≡ length work
  unfolding put_row
  put-length work r i w row = by-test (room s work r i w) (λ e. rw e (put-cells-length work r i w row)) (λ e. rw e)

  pub put-none : (work : List ℤ) (r i w : ℕ) (row : Row) → room s work r i w ≡ false → put_row s work r i w row ≡ work
  unfolding put_row
  put-none work r i w row e = rw e

  -- every cell of another relation or row keeps
  pub put_keeps : (work : List ℤ) (r i w : ℕ) (row : Row) (r' i' c' : ℕ) → (r' ≡ r → i' ≡ i → ⊥) → cell_in s (put_row s work r i w row) r' i' c' ≡ cell_in s work r' i' c'
  unfolding put_row
  put_keeps work r i w row r' i' c' h = by-test (room s work r i w) (λ e. rw e (put-cells-other work r i w row r' i' c' h)) (λ e. rw e)

  put-there : (work : List ℤ) (r i w : ℕ) (row : Row) (c : ℕ) → r < s.relations → i < s.rows → w ≤ s.columns → area s ≤ length work → c < w
      → cell_in s (put_row s work r i w row) r i c ≡ get_or row c missing
  unfolding put_row
  put-there work r i w row c hr hi hw hl h = rw (limits-room work r i w hr hi hw hl) (put-cells-there work r i w row c hr hi hw hl h)

  -- every other relation keeps its rows
  pub put_other : (work : List ℤ) (r i w : ℕ) (row : Row) (r' w' n' : ℕ) → (r' ≡ r → ⊥) → rows_in s (put_row s work r i w row) r' w' n' ≡ rows_in s work r' w' n'
  put_other work r i w row r' w' n' h =
      rows_same work (put_row s work r i w row) r' w' n' (λ i' c' _ _. put_keeps work r i w row r' i' c' (λ e _. h e))

  -- the rows before it keep
  pub put-earlier : (work : List ℤ) (r i w : ℕ) (row : Row) (r' w' n' : ℕ) → n' ≤ i → rows_in s (put_row s work r i w row) r' w' n' ≡ rows_in s work r' w' n'
  put-earlier work r i w row r' w' n' h =
      rows_same work (put_row s work r i w row) r' w' n' (λ i' c' hi _. put_keeps work r i w row r' i' c' (λ _ e. omega arith))

  pub put-row : (work : List ℤ) (r i w : ℕ) (row : Row) → r < s.relations → i < s.rows → w ≤ s.columns → area s ≤ length work → length row ≡ w
      → row_in s (put_row s work r i w row) r w i ≡ row
  unfolding row_in
  put-row work r i w row hr hi hw hl e =
      listed_same (cell_in s (put_row s work r i w row) r i) (λ c. get_or row c missing) w (λ c h. put-there work r i w row c hr hi hw hl h)
      ∙ listed-get_d row missing w e

  -- the relation grows by the row
  pub put-grows : (work : List ℤ) (r n w : ℕ) (row : Row) → r < s.relations → n < s.rows → w ≤ s.columns → area s ≤ length work → length row ≡ w
      → rows_in s (put_row s work r n w row) r w (suc n) ≡ rows_in s work r w n ++ (row ∷ [])
  put-grows work r n w row hr hn hw hl e =
      rw (rows_more (put_row s work r n w row) r w n, put-row work r n w row hr hn hw hl e, put-earlier work r n w row r w n (omega arith))

  -- the fact about rows: of any sizes, and of any row for which there is room
  pub row_put : (work : List ℤ) (r n : ℕ) (row : Row) → r < s.relations → n < s.rows → length row ≤ s.columns → area s ≤ length work
      → RowPut s work r n row (put_row s work r n (length row) row)
  row_put work r n row hr hn hw hl = record {
    there = put-grows work r n (length row) row hr hn hw hl refl;
    earlier = put-earlier work r n (length row) row;
    others = put_other work r n (length row) row;
  }

  -- ---- a part of the work area that starts at a relation's place

  put-cells-part : (work : List ℤ) (r i w : ℕ) (row : Row) → r < s.relations
      → drop (stretch s * r) (put_cells s work r i w row) ≡ put_cells s (drop (stretch s * r) work) 0 i w row
  unfolding put_cells
  put-cells-part work r i zero row h = refl
  put-cells-part work r i (suc c) row h = rw (put-cell-part (put_cells s work r i c row) r i c (get_or row c missing) h, put-cells-part work r i c row h)

  put-cells-before : (work : List ℤ) (r i w : ℕ) (row : Row) → take (stretch s * r) (put_cells s work r i w row) ≡ take (stretch s * r) work
  unfolding put_cells
  put-cells-before work r i zero row = refl
  put-cells-before work r i (suc c) row = put-cell-before (put_cells s work r i c row) r i c (get_or row c missing) ∙ put-cells-before work r i c row

  -- the whole work area, of which the part was lent and came back as ys
  pub put-lent : (work : List ℤ) (r i w : ℕ) (row : Row) (ys : List ℤ) → room s work r i w ≡ true
      → ys ≡ put_cells s (take (length work - stretch s * r) (drop (stretch s * r) work)) 0 i w row
      → put_mid (stretch s * r) (length work - stretch s * r) work ys ≡ put_row s work r i w row
  unfolding put_row
  put-lent work r i w row ys e q =
      let l = room-limits work r i w e in
      let p = stretch s * r in
      let all : length (drop p work) ≤ length work - p = simp length-drop (omega arith) in
      let whole = put_cells s work r i w row in
      rw (e, drop_of_length-le (drop p work) {i = length work - p} all, append-nil, q, take_all (length work - p) (drop p work) all, ← put-cells-part work r i w row l.0, ← put-cells-before work r i w row)
      (take-append-drop p whole)

  -- ---- what may change

  module _ {P : ℕ → Type 0} where
    pub only_same : (work : List ℤ) → OnlyCells s P work work
    only_same work = record { size = refl; kept = λ k n. refl }

    pub only-more : {a b c : List ℤ} → OnlyCells s P a b → OnlyCells s P b c → OnlyCells s P a c
    only-more p q = record { size = q.size ∙ p.size; kept = λ k n. q.kept k n ∙ p.kept k n }

    pub only_wider : {Q : ℕ → Type 0} {a b : List ℤ} → ((r : ℕ) → P r → Q r) → OnlyCells s P a b → OnlyCells s Q a b
    only_wider f p = record { size = p.size; kept = λ k n. p.kept k (λ r h. n r (f r h)) }

    -- a cell and a row of a relation that P has
    pub only-put-cell : (work : List ℤ) (r i c : ℕ) (v : Value) → P r → OnlyCells s P work (put_cell s work r i c v)
    unfolding put_cell
    only-put-cell work r i c v h = record {
      size = put-cell-length work r i c v;
      kept = λ k n. by-test (inside s r i c)
          (λ e. rw e (get_or-set_other work (position s r i c) k (stored v) (pos 0) (λ q. n r h (record { row = i; column = c; there = e; number = q }))))
          (λ e. rw e);
    }

    only-put-cells : (work : List ℤ) (r i w : ℕ) (row : Row) → P r → OnlyCells s P work (put_cells s work r i w row)
    unfolding put_cells
    only-put-cells work r i zero row h = only_same work
    only-put-cells work r i (suc c) row h = only-more (only-put-cells work r i c row h) (only-put-cell (put_cells s work r i c row) r i c (get_or row c missing) h)

    pub only-put-row : (work : List ℤ) (r i w : ℕ) (row : Row) → P r → OnlyCells s P work (put_row s work r i w row)
    unfolding put_row
    only-put-row work r i w row h = by-test (room s work r i w) (λ e. rw e (only-put-cells work r i w row h)) (λ e. rw e (only_same work))

    -- the rows of every other relation stay
    pub only-rows : {work work' : List ℤ} → OnlyCells s P work work' → (r w n : ℕ) → (P r → ⊥) → rows_in s work' r w n ≡ rows_in s work r w n
    unfolding cell_in
    only-rows {work} {work'} o r w n h =
        rows_same work work' r w n
        (λ i c _ _. by-test (inside s r i c)
        (λ e. rw e (ap Value.number (o.kept (position s r i c) (λ r' p x. apart r' x.row x.column r i c x.there e (λ q _ _. h (rw q p)) x.number))))
        (λ e. rw e))
