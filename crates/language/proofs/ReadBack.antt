-- What is printed is read back: numbers, cells, tables and whole outputs. Assumes nothing.
use mathlib.Core.Path.{◌≡◌, refl, sym, ap, ap₂, ◌∙◌}
use mathlib.Core.Bool.{true}
use mathlib.Core.List.{List, [], ◌∷◌, map, append-nil}
use Prim.Native.Nat.{ℕ, suc, ◌+◌, ◌*◌, ◌/◌, ◌%◌, ◌≤◌, ◌<◌}
use native.Mathlib.Nat.{mul-le-mul, mul-div_cancel_left}
use native.Mathlib.Omega.{arith}
use lib.IntN.{ℤ}
use lib.ListN.{length, length-map}
use lib.Signed.{◌≤ℤ◌}
use Rattle.value.specs.Bag.{All}
use Rattle.value.specs.Integer.{low16, high16, high_byte, low_byte}
use Rattle.value.specs.Value.{Value, Column, Between, InColumn, shown}
use Rattle.value.proofs.Fits.{narrow16-held}
use Rattle.value.proofs.TwosComplement.{bytes_back}
use Rattle.value.proofs.Values.{all_map, between-wider, cell-number, shown-cell}
use Rattle.meaning.specs.Lists.{Each, joined}
use Rattle.meaning.specs.Syntax.{Table, File, Row, Database}
use Rattle.meaning.specs.Valid.{InRange}
use Rattle.meaning.specs.Bounds.{well_formed}
use Rattle.meaning.specs.Candidates.{cut_rows, candidates, database}
use Rattle.meaning.proofs.DecidedLists.{each-length}
use Rattle.meaning.proofs.Elements.{all_append}
use Rattle.meaning.proofs.Numbering.{cut-joined, length-joined, numbered}
use Rattle.language.proofs.PrefixForms.{constant-fits}
use Rattle.language.proofs.Readers.{Byte}
use Rattle.meaning.proofs.WellFormed.{rules}
use Rattle.text.specs.Text.{Frame, text_of}
use Rattle.text.proofs.Laws.{reads-back}
use Rattle.text.proofs.Writing.{text-length}
use Rattle.language.specs.Legal.{LegalColumn, LegalTable, Legal}
use Rattle.language.proofs.LegalBytes.{high-limit, low-limit}
use Rattle.language.specs.OutputOf.{in_two_bytes, number_bytes, value_bytes, case_frame, rows_frame, rows_frames, no_case_frame, refusal_frame}
use Rattle.language.specs.Told.{Told, values_in, table_in, told_by, told_lines, read_back, numbered_from}

-- ---- the bytes of numbers

pub length-bytes : (xs : List ℤ) → length (number_bytes xs) ≡ 2 * length xs
unfolding number_bytes
length-bytes [] = refl
length-bytes (x ∷ xs) = let e : length (number_bytes xs) ≡ 2 * length xs = length-bytes xs in omega arith

-- ---- numbers

two_back : (n : ℕ) → n < 65536 → n / 256 % 256 * 256 + n % 256 ≡ n
two_back n h = omega arith

four-back : (n : ℕ) → n < 4294967296 → (n / 65536 / 256 % 256 * 256 + n / 65536 % 256) * 65536 + (n / 256 % 256 * 256 + n % 256) ≡ n
four-back n h = omega arith

-- one byte more
put : (b : ℕ) {bs : List ℕ} → b < 256 → All Byte bs → All Byte (b ∷ bs)
put b p ps = All.cons p ps

bytes_in_two : (n : ℕ) → All Byte (in_two_bytes n)
bytes_in_two n = put (n / 256 % 256) (omega arith) (put (n % 256) (omega arith) All.nil)

-- ---- cells

-- 16 bits hold it
abbrev Cell : Value → Type 0
Cell v = Between low16 high16 v

shown-limits : {v : Value} → Cell v → (low16 ≤ℤ shown v) × (shown v ≤ℤ high16)
unfolding shown
shown-limits (Between.number a b) = rw (narrow16-held a b) (a, b)

cells-back : {vs : List Value} → All Cell vs → values_in (value_bytes vs) ≡ vs
unfolding values_in number_bytes
cells-back All.nil = refl
cells-back (All.cons {x = v} c cs) =
    let (l, h) = shown-limits c in
    ap₂ ◌∷◌ (ap Value.number (bytes_back (shown v) (constant-fits (shown v) l h)) ∙ sym (cell-number (shown-cell c))) (cells-back cs)

cells-bytes : {vs : List Value} → All Cell vs → All Byte (value_bytes vs)
unfolding number_bytes
cells-bytes All.nil = All.nil
cells-bytes (All.cons {x = v} c cs) =
    let (l, h) = shown-limits c in
    put (high_byte (shown v)) (high-limit (shown v) l h) (put (low_byte (shown v)) (low-limit (shown v) l h) (cells-bytes cs))

-- ---- tables

row-cells : {cs : List Column} {r : Row} → All LegalColumn cs → Each InColumn cs r → All Cell r
row-cells All.nil Each.nil = All.nil
row-cells (All.cons p ps) (Each.cons q qs) = All.cons (between-wider p.low p.high q.bounds) (row-cells ps qs)

rows-cells : {cs : List Column} {R : List Row} → All LegalColumn cs → All (Each InColumn cs) R → All Cell (joined R)
rows-cells h All.nil = All.nil
rows-cells h (All.cons p ps) = all_append (row-cells h p) (rows-cells h ps)

-- rows of one width, cut again
rows_back : (w : ℕ) {R : List Row} → All (λ r. length r ≡ w) R → cut_rows (length R) (length (joined R) / length R) (joined R) ≡ R
rows_back w All.nil = refl
rows_back w (All.cons {x = r} {xs = R} p ps) =
    let wide : All (λ r. length r ≡ w) (r ∷ R) = All.cons p ps in
    let e : length (joined (r ∷ R)) / length (r ∷ R) ≡ w =
    ap (λ n. n / length (r ∷ R)) (length-joined w wide) ∙ mul-div_cancel_left w (omega arith) in
    ap₂ (λ (i : ℕ) (vs : List Value). cut_rows (length (r ∷ R)) i vs) e (sym (append-nil (joined (r ∷ R)))) ∙ cut-joined w [] wide

module _ (i : ℕ) {t : Table} {R : List Row} (legal : LegalTable t) (own : InRange t R) where
  cells : All Cell (joined R)
  cells = rows-cells legal.columns own.values

  wide : All (λ r. length r ≡ length t.columns) R
  wide = all_map (λ r p. each-length p) own.values

  table-back : table_in (rows_frame i R) ≡ record { relation = i; rows = R }
  unfolding table_in rows_frame
  table-back =
      ap (λ (vs : List Value). record { relation = i; rows = cut_rows (length R) (length vs / length R) vs }) (cells-back cells)
      ∙ ap (λ (rs : List Row). record { relation = i; rows = rs }) (rows_back (length t.columns) wide)

  table-frame : i < 16 → Frame (rows_frame i R)
  unfolding rows_frame
  table-frame h =
      let n : length R ≤ 8 = omega (arith, own.rows, legal.rows) in
      let few : length (joined R) ≤ 8 * 4 = omega (arith, length-joined (length t.columns) wide, mul-le-mul n legal.count.most) in
      let size : length (value_bytes (joined R)) ≡ 2 * length (joined R) = length-bytes (map shown (joined R)) ∙ ap (λ m. 2 * m) (length-map (joined R) shown) in
      record {
        bytes = put 0x81 (omega arith) (put i (omega arith) (put (length R) (omega arith) (cells-bytes cells)));
        some = omega arith;
        few = omega arith;
      }

tables-back : (i : ℕ) {ts : List Table} {d : Database} → All LegalTable ts → Each InRange ts d → map table_in (rows_frames i d) ≡ numbered_from i d
tables-back i All.nil Each.nil = refl
tables-back i (All.cons l ls) (Each.cons r rs) = ap₂ ◌∷◌ (table-back i l r) (tables-back (suc i) ls rs)

tables-frames : (i : ℕ) {ts : List Table} {d : Database} → All LegalTable ts → Each InRange ts d → i + length ts ≤ 16 → All Frame (rows_frames i d)
tables-frames i All.nil Each.nil h = All.nil
tables-frames i (All.cons l ls) (Each.cons r rs) h = All.cons (table-frame i l r (omega arith)) (tables-frames (suc i) ls rs (omega arith))

tables-count : (i : ℕ) (d : Database) → length (rows_frames i d) ≡ length d
tables-count i [] = refl
tables-count i (rs ∷ d) = ap suc (tables-count (suc i) d)

-- ---- whole outputs

frames-back : (f : List ℕ) {fs : List (List ℕ)} → Frame f → All Frame fs → length fs ≤ 16 → read_back (text_of (f ∷ fs)) ≡ told_by (f ∷ fs)
unfolding read_back
frames-back f {fs} p ps few =
    let all : All Frame (f ∷ fs) = All.cons p ps in
    ap told_lines (reads-back (f ∷ fs) all (omega arith) (omega (arith, text-length (all_map (λ f p. p.few) all))))

pub refusal-back : (n l : ℕ) → n < 256 → l < 65536 → read_back (text_of (refusal_frame n l ∷ [])) ≡ Told.refused n l
unfolding told_by
refusal-back n l h k =
    let own : Frame (refusal_frame n l) = record {
      bytes = put 0x8f (omega arith) (put n (omega arith) (bytes_in_two l));
      some = omega arith;
      few = omega arith;
    } in
    frames-back (refusal_frame n l) own All.nil (omega arith) ∙ ap (Told.refused n) (two_back l k)

pub none-back : read_back (text_of (no_case_frame ∷ [])) ≡ Told.none
unfolding told_by
none-back = frames-back no_case_frame (record { bytes = put 0x82 (omega arith) All.nil; some = omega arith; few = omega arith }) All.nil (omega arith)

pub case-back : (F : File) (k : ℕ) → Legal F → well_formed F ≡ true → k < candidates F
    → read_back (text_of (case_frame k ∷ rows_frames 0 (database F k))) ≡ Told.case k (numbered_from 0 (database F k))
unfolding told_by
case-back F k l well h =
    let d = database F k in
    let shaped : Each InRange F.tables d = (numbered F (rules F well).columns).shaped k in
    let few : length (rows_frames 0 d) ≤ 16 = omega (arith, tables-count 0 d, each-length shaped, l.relation_count) in
    let own : Frame (case_frame k) = record {
      bytes = put 0x80 (omega arith) (all_append (bytes_in_two (k / 65536)) (bytes_in_two k));
      some = omega arith;
      few = omega arith;
    } in
    frames-back (case_frame k) own (tables-frames 0 l.tables shaped (omega (arith, l.relation_count))) few
    ∙ ap₂ Told.case (four-back k (omega (arith, l.number))) (tables-back 0 l.tables shaped)
