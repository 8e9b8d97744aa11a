-- What the readers of tables, set views and the goal find in a frame is what its parts say. Assumes nothing.
use mathlib.Core.Path.{◌≡◌, sym, ap, ap₂, ◌∙◌}
use mathlib.Core.Bool.{true, ◌&&◌}
use mathlib.Core.List.{List, []}
use Prim.Native.Nat.{ℕ, ◌^◌, ◌≤◌}
use lib.Dec.{ltb, leb, eqb}
use lib.ListN.{get_or, drop}
use lib.Seq.{get_or-drop, drop-drop}
use borrow.Author.Tests.{ltb-true, leb-true}
use Rattle.value.specs.Value.{Column}
use Rattle.value.proofs.Decides.{and_parts}
use Rattle.meaning.specs.Syntax.{SetOperation, Table, View}
use Rattle.language.specs.Reading.{Reader, ◌>>=◌, byte_if, Read}
use Rattle.language.specs.Draft.{Draft, Item, is_view}
use Rattle.language.specs.Frames.{repeated, field, ending, mask_bits, column_field, table_frame, set_frame, goal_frame}
use Rattle.language.specs.Written.{mask_of}
use Rattle.language.proofs.Readers.{then_ok, byte-ok}
use Rattle.language.proofs.FairReaders.{ending-ok}
use Rattle.language.proofs.MaskLaws.{mask-back}
use Rattle.catalog.specs.FileIn.{goal_of}
use Rattle.catalog.specs.Frames.{columns_start, table_parts_in, set_parts_in, goal_in}

second_at : (f : List ℕ) → get_or (drop 1 (drop 1 f)) 0 0 ≡ get_or f 2 0
second_at f = get_or-drop 1 (drop 1 f) 0 0 ∙ get_or-drop 1 f 1 0

-- ---- a table

pub record TableRead (frame : List ℕ) (t : Table) : Type 0 where
  pub rows : t.rows ≡ (table_parts_in frame).rows
  pub few : (table_parts_in frame).width ≤ 4
  pub mask : mask_of t.key ≡ (table_parts_in frame).mask
  pub left : List ℕ
  pub columns : repeated (table_parts_in frame).width column_field (drop columns_start frame) ≡ Read.ok t.columns left

table_same : (t u : Table) → Item.table t ≡ Item.table u → t ≡ u
table_same t u e = cc

pub table-read : (frame : List ℕ) (t : Table) → table_frame (drop 1 frame) ≡ Read.ok (Item.table t) [] → TableRead frame t
unfolding table_parts_in
table-read frame t e =
    let bs = drop 1 frame in
    let table : ℕ → ℕ → ℕ → List Column → Table = λ r n m cs. record { rows = r; columns = cs; key = mask_bits n m } in
    let after : ℕ → ℕ → ℕ → Reader Item = λ r n m. repeated n column_field >>= λ cs. ending (Item.table (table r n m cs)) in
    let (t₁, e₁) = byte-ok 5 (λ b. leb 0 b && leb b 8) bs (λ r. field 1 4 >>= λ n. byte_if 5 (λ m. ltb m (2 ^ n)) >>= λ m. after r n m) e in
    let r = get_or bs 0 0 in
    let (t₂, e₂) = byte-ok 5 (λ b. leb 1 b && leb b 4) (drop 1 bs) (λ n. byte_if 5 (λ m. ltb m (2 ^ n)) >>= λ m. after r n m) e₁ in
    let n = get_or (drop 1 bs) 0 0 in
    let (t₃, e₃) = byte-ok 5 (λ m. ltb m (2 ^ n)) (drop 1 (drop 1 bs)) (λ m. after r n m) e₂ in
    let m = get_or (drop 1 (drop 1 bs)) 0 0 in
    let tail = drop 1 (drop 1 (drop 1 bs)) in
    let (cs, left, p, q) = then_ok (repeated n column_field tail) (λ cs. ending (Item.table (table r n m cs))) e₃ in
    let same : table r n m cs ≡ t = table_same (table r n m cs) t (ending-ok (Item.table (table r n m cs)) (Item.table t) left q) in
    let second : n ≡ get_or frame 2 0 = second_at frame in
    let third : m ≡ get_or frame 3 0 = get_or-drop 1 (drop 1 (drop 1 frame)) 0 0 ∙ get_or-drop 1 (drop 1 frame) 1 0 ∙ get_or-drop 1 frame 2 0 in
    let rest : tail ≡ drop 4 frame = drop-drop 1 1 (drop 1 (drop 1 frame)) ∙ drop-drop 2 1 (drop 1 frame) ∙ drop-drop 3 1 frame in
    record {
      rows = ap (λ (u : Table). u.rows) (sym same) ∙ get_or-drop 1 frame 0 0;
      few = rw second at (leb-true n 4 (and_parts (leb 1 n) (leb n 4) t₂).1);
      mask = ap (λ (u : Table). mask_of u.key) (sym same) ∙ mask-back n m (ltb-true m (2 ^ n) t₃) ∙ third;
      left = left;
      columns = ap₂ (λ (i : ℕ) (l : List ℕ). repeated i column_field l) (sym second) (sym rest) ∙ p ∙ ap (λ (u : Table). Read.ok u.columns left) same;
    }

-- ---- a set view

pub record SetRead (d : Draft) (op : SetOperation) (frame : List ℕ) (i : Item) : Type 0 where
  pub view : i ≡ Item.view (View.set op (set_parts_in frame).left (set_parts_in frame).right)
  pub left : is_view d (set_parts_in frame).left ≡ true
  pub right : is_view d (set_parts_in frame).right ≡ true

pub set-read : (d : Draft) (op : SetOperation) (frame : List ℕ) (i : Item) → set_frame d op (drop 1 frame) ≡ Read.ok i [] → SetRead d op frame i
unfolding set_parts_in
set-read d op frame i e =
    let bs = drop 1 frame in
    let (p, e₁) = byte-ok 6 (is_view d) bs (λ a. byte_if 6 (is_view d) >>= λ b. ending (Item.view (View.set op a b))) e in
    let a = get_or bs 0 0 in
    let (q, e₂) = byte-ok 6 (is_view d) (drop 1 bs) (λ b. ending (Item.view (View.set op a b))) e₁ in
    let b = get_or (drop 1 bs) 0 0 in
    let first : a ≡ get_or frame 1 0 = get_or-drop 1 frame 0 0 in
    record {
      view = sym (ending-ok (Item.view (View.set op a b)) i (drop 1 (drop 1 bs)) e₂) ∙ ap₂ (λ x y. Item.view (View.set op x y)) first (second_at frame);
      left = rw first at p;
      right = ap (is_view d) (sym (second_at frame)) ∙ q;
    }

-- ---- the goal

pub goal-read : (d : Draft) (frame : List ℕ) (i : Item) → goal_frame d (drop 1 frame) ≡ Read.ok i [] → i ≡ Item.goal (goal_of (goal_in frame))
unfolding goal_in
goal-read d frame i e =
    let bs = drop 1 frame in
    let goal : ℕ → ℕ → Item = λ v s. Item.goal (record { view = v; negative = eqb s 1 }) in
    let (p, e₁) = byte-ok 6 (is_view d) bs (λ v. field 0 1 >>= λ s. ending (goal v s)) e in
    let v = get_or bs 0 0 in
    let (q, e₂) = byte-ok 5 (λ b. leb 0 b && leb b 1) (drop 1 bs) (λ s. ending (goal v s)) e₁ in
    sym (ending-ok (goal v (get_or (drop 1 bs) 0 0)) i (drop 1 (drop 1 bs)) e₂) ∙ ap₂ goal (get_or-drop 1 frame 0 0) (second_at frame)
