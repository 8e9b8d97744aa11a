-- The columns of a table's frame, and that the relations with it stand for the draft with the table. Assumes nothing.
use mathlib.Core.Path.{◌≡◌, sym, ap, ap₂, ◌∙◌}
use mathlib.Core.List.{List, [], ◌∷◌, map}
use Prim.Native.Nat.{ℕ, zero, suc, ◌+◌, ◌*◌, ◌≤◌, ◌<◌}
use native.Mathlib.Omega.{arith}
use lib.ListN.{length, get_or, set, drop, length-map}
use lib.Seq.{get_or-drop}
use lib.Signed.{le_z}
use Rattle.value.specs.Integer.{bytes_z}
use Rattle.value.specs.Value.{Column}
use Rattle.value.proofs.Decides.{by-test}
use Rattle.range.specs.declared.Range.{Range}
use Rattle.range.specs.Ranges.{range_from}
use Rattle.language.specs.Reading.{Read, ◌>>=◌, done}
use Rattle.language.proofs.Readers.{then_ok}
use Rattle.catalog.specs.Relations.{no_range, ranges_of}
use Rattle.catalog.specs.declared.relation.Relation.{Relation}
use Rattle.language.specs.Draft.{Draft, Item, added}
use Rattle.meaning.specs.Syntax.{Table}
use Rattle.language.specs.Frames.{repeated, column_field, table_frame}
use Rattle.catalog.specs.Frames.{columns_start, table_parts_in}
use Rattle.catalog.proofs.PartsRead.{table-read}
use Rattle.checker.specs.Catalogued.{Catalogued}
use Rattle.checker.specs.Entries.{column_from, column_in, TableOf}
use Rattle.checker.proofs.EntryLaws.{table-entered, ranges-told}

-- ---- columns

abbrev range_of : Column → Range
range_of c = range_from c.lo c.hi

abbrev column_on : List ℕ → ℕ → Range
column_on bs k = range_of (column_from bs k)

column-read : (bs : List ℕ) (x : Column) (rest : List ℕ) → column_field bs ≡ Read.ok x rest → (range_of x ≡ column_on bs 0) × (rest ≡ drop 4 bs)
unfolding column_from
column-read [] x rest e = let z : ◌≡◌ {A = ℕ} 0 1 = cc in absurd (omega arith)
column-read (a ∷ []) x rest e = let z : ◌≡◌ {A = ℕ} 0 1 = cc in absurd (omega arith)
column-read (a ∷ b ∷ []) x rest e = let z : ◌≡◌ {A = ℕ} 0 1 = cc in absurd (omega arith)
column-read (a ∷ b ∷ c ∷ []) x rest e = let z : ◌≡◌ {A = ℕ} 0 1 = cc in absurd (omega arith)
column-read (a ∷ b ∷ c ∷ d ∷ bs) x rest e = by-test (le_z (bytes_z a b) (bytes_z c d))
    (λ t. let e' : Read.ok (record { lo = bytes_z a b; hi = bytes_z c d }) bs ≡ Read.ok x rest = rw t at e in
    let q : ◌≡◌ {A = Column} (record { lo = bytes_z a b; hi = bytes_z c d }) x = cc in
    let s : bs ≡ rest = cc in
    (ap range_of (sym q), sym s))
    (λ t. let e' : ◌≡◌ {A = Read Column} (Read.refused 5) (Read.ok x rest) = rw t at e in let z : ◌≡◌ {A = ℕ} 0 1 = cc in absurd (omega arith))

column-shift : (bs : List ℕ) (c : ℕ) → column_on (drop 4 bs) (4 * c) ≡ column_on bs (4 * suc c)
unfolding column_from
column-shift bs c =
    let at : (k : ℕ) → get_or (drop 4 bs) (4 * c + k) 0 ≡ get_or bs (4 * suc c + k) 0 =
    λ k. get_or-drop 4 bs (4 * c + k) 0 ∙ ap (λ j. get_or bs j 0) (shift k) in
    let zero-at : get_or (drop 4 bs) (4 * c) 0 ≡ get_or bs (4 * suc c) 0 = get_or-drop 4 bs (4 * c) 0 ∙ ap (λ j. get_or bs j 0) shift_none in
    rw (zero-at, at 1, at 2, at 3)
  where
    shift : (k : ℕ) → 4 + (4 * c + k) ≡ 4 * suc c + k
    shift k = omega arith

    shift_none : 4 + 4 * c ≡ 4 * suc c
    shift_none = omega arith

columns-read : (n : ℕ) (bs : List ℕ) (cs : List Column) (rest : List ℕ) → repeated n column_field bs ≡ Read.ok cs rest
    → (length cs ≡ n) × ((c : ℕ) → c < n → column_on bs (4 * c) ≡ get_or (map range_of cs) c no_range)
columns-read zero bs cs rest e = let q : [] ≡ cs = cc in (sym (ap length q), λ c h. absurd (omega arith))
columns-read (suc n) bs cs rest e =
    let (x, mid, p, q) = then_ok (column_field bs) (λ x. repeated n column_field >>= λ xs. done (x ∷ xs)) e in
    let (xs, left, p', q') = then_ok (repeated n column_field mid) (λ xs. done (x ∷ xs)) q in
    let one = column-read bs x mid p in
    let more = columns-read n (drop 4 bs) xs left (ap (repeated n column_field) (sym one.1) ∙ p') in
    let s : x ∷ xs ≡ cs = cc in
    rw (← s) (ap suc more.0, λ c. go c x xs one.0 more.1)
  where
    go : (c : ℕ) (x : Column) (xs : List Column) → range_of x ≡ column_on bs 0
        → ((c : ℕ) → c < n → column_on (drop 4 bs) (4 * c) ≡ get_or (map range_of xs) c no_range)
        → c < suc n → column_on bs (4 * c) ≡ get_or (map range_of (x ∷ xs)) c no_range
    go zero x xs o m h = sym o
    go (suc c) x xs o m h = sym (column-shift bs c) ∙ m c (omega arith)

-- ---- the frame

column-in : (frame : List ℕ) (c : ℕ) → column_in frame c ≡ column_on (drop columns_start frame) (4 * c)
unfolding column_in column_from
column-in frame c =
    let at : (k j : ℕ) → 4 + k ≡ j → get_or (drop 4 frame) k 0 ≡ get_or frame j 0 = λ k j e. get_or-drop 4 frame k 0 ∙ ap (λ i. get_or frame i 0) e in
    rw (at (4 * c) (4 * c + 4) (omega arith), at (4 * c + 1) (4 * c + 4 + 1) (omega arith), at (4 * c + 2) (4 * c + 4 + 2) (omega arith), at (4 * c + 3) (4 * c + 4 + 3) (omega arith))

pub table-added : (frame : List ℕ) (r : ℕ) (x : Relation) (rs : List Relation) → TableOf frame x → (d : Draft) (t : Table) → Catalogued d rs
    → r ≡ length d.tables → r < 16 → d.views ≡ [] → table_frame (drop 1 frame) ≡ Read.ok (Item.table t) [] → Catalogued (added d (Item.table t)) (set rs r x)
table-added frame r x rs h d t c e l v q =
    let p = table-read frame t q in
    let (long, column) = columns-read (table_parts_in frame).width (drop columns_start frame) t.columns p.left p.columns in
    let few : x.width ≤ 8 = omega (arith, h.width, p.few) in
    let ranges : ranges_of x ≡ map range_of t.columns =
    ranges-told x (column_in frame) h.ranges few (map range_of t.columns) (length-map t.columns range_of ∙ long ∙ sym h.width)
    (λ i k. column-in frame i ∙ column i (omega (arith, h.width))) in
    table-entered d t r x rs c e l v few (ap₂ (λ b xs. record { bound = b; ranges = xs }) (p.rows ∙ sym h.bound) (sym ranges)) (p.mask ∙ sym h.mask)
