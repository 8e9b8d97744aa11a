-- The fault of each frame of fixed layout, as the first of the faults of its fields, of its end and of the rules on the whole frame.
-- Assumes nothing.
use mathlib.Core.Path.{◌≡◌, refl, sym, ap, ap₂, ◌∙◌}
use mathlib.Core.Bool.{Bool, cond}
use mathlib.Core.List.{List, [], ◌∷◌}
use Prim.Native.Nat.{ℕ, ◌+◌, ◌*◌, ◌^◌, ◌≤◌, ◌<◌, min}
use native.Mathlib.Omega.{arith}
use lib.Dec.{leb}
use lib.IntN.{ℤ}
use lib.ListN.{length, get_or, drop, length-drop}
use lib.Seq.{get_or-drop}
use lib.Signed.{le_z}
use borrow.Author.Tests.{leb-true, ltb-true}
use Rattle.value.specs.Integer.{bytes_z}
use Rattle.value.proofs.Decides.{by-test, and_parts}
use Rattle.value.proofs.Places.{first-behind}
use Rattle.meaning.specs.Syntax.{Pair, SetOperation, View}
use Rattle.language.specs.Reading.{done, ◌>>=◌, byte_if, Read}
use Rattle.meaning.specs.Bounds.{schema}
use Rattle.catalog.specs.Relations.{relation_at, width_at, bound_at, mask_at}
use Rattle.language.specs.Draft.{Draft, width, relation_count, schemas_of, Item}
use Rattle.language.specs.Frames.{ending, repeated, column_field, pair_field, table_frame, key_frame, set_frame, goal_frame, whole_fault, no_table}
use Rattle.checker.specs.Faults.{fault_of, fault_at, first, under, within, from_under}
use Rattle.checker.specs.Catalogued.{Catalogued, body_fault}
use Rattle.checker.specs.FixedFaults.{columns_fault, pairs_fault, pairing, set_rules, KeysFit}
use Rattle.checker.proofs.FieldLaws.{byte-then}
use Rattle.language.proofs.Turns.{width-table}
use Rattle.catalog.proofs.RelationLaws.{length-ranges}
use Rattle.checker.proofs.SizedLaws.{sized-times, sized-column, sized-pair}
use Rattle.checker.proofs.PairLaws.{parents-read, pairing-exact}
use Rattle.checker.proofs.BodyLaws.{first-where, first-zero, byte-passes, body-start, body-byte, body-sized, body_end}
use Rattle.catalog.specs.declared.relation.Relation.{Relation}

five : ◌≡◌ {A = ℕ} 5 0 → ⊥
five e = omega arith

six : ◌≡◌ {A = ℕ} 6 0 → ⊥
six e = omega arith

done_none : {A : Type 0} (frame : List ℕ) (at : ℕ) (x : A) → fault_at frame at (done x) ≡ 0
unfolding fault_at
done_none frame at x = refl

-- ---- a column

module _ (frame : List ℕ) (at : ℕ) where
  pub column-short : length frame < at + 4 → fault_at frame at column_field ≡ 4
  unfolding fault_at
  column-short h = go (drop at frame) (rw (length-drop at frame) (omega arith))
    where
      go : (bs : List ℕ) → length bs < 4 → fault_of (column_field bs) ≡ 4
      go [] l = refl
      go (a ∷ []) l = refl
      go (a ∷ b ∷ []) l = refl
      go (a ∷ b ∷ c ∷ []) l = refl
      go (a ∷ b ∷ c ∷ e ∷ bs) l = absurd (omega arith)

  column-read : at + 4 ≤ length frame → fault_at frame at column_field
      ≡ cond (le_z (bytes_z (get_or frame at 0) (get_or frame (at + 1) 0)) (bytes_z (get_or frame (at + 2) 0) (get_or frame (at + 3) 0))) 0 5
  unfolding fault_at
  column-read h = rw (← get_or-drop at frame 1 0, ← get_or-drop at frame 2 0, ← get_or-drop at frame 3 0, ← first-behind frame at 0) (go (drop at frame) (rw (length-drop at frame) (omega arith)))
    where
      go : (bs : List ℕ) → 4 ≤ length bs
          → fault_of (column_field bs) ≡ cond (le_z (bytes_z (get_or bs 0 0) (get_or bs 1 0)) (bytes_z (get_or bs 2 0) (get_or bs 3 0))) 0 5
      go [] l = absurd (omega arith)
      go (a ∷ []) l = absurd (omega arith)
      go (a ∷ b ∷ []) l = absurd (omega arith)
      go (a ∷ b ∷ c ∷ []) l = absurd (omega arith)
      go (a ∷ b ∷ c ∷ e ∷ bs) l = by-test (le_z (bytes_z a b) (bytes_z c e)) (λ t. rw t) (λ t. rw t)

  pub column-answer : (lo hi : ℤ) (fits : Bool) → at + 4 ≤ length frame → lo ≡ bytes_z (get_or frame at 0) (get_or frame (at + 1) 0)
      → hi ≡ bytes_z (get_or frame (at + 2) 0) (get_or frame (at + 2 + 1) 0) → fits ≡ le_z lo hi → cond fits 0 5 ≡ fault_at frame at column_field
  column-answer lo hi fits h l u e =
      let last : at + 2 + 1 ≡ at + 3 = omega arith in
      ap (λ t. cond t 0 5) (e ∙ ap₂ le_z l (u ∙ ap (λ k. bytes_z (get_or frame (at + 2) 0) (get_or frame k 0)) last)) ∙ sym (column-read h)

  -- ---- a pair

  pub pair-law : (c p : ℕ)
      → fault_at frame at (pair_field c p) ≡ first (fault_at frame at (byte_if 6 (under c))) (fault_at frame (at + 1) (byte_if 6 (under p)))
  pair-law c p =
      byte-then frame at 6 (under c) (λ i. byte_if 6 (under p) >>= λ j. done (record { child = i; parent = j })) six
      ∙ ap (first _) (byte-then frame (at + 1) 6 (under p) (λ j. done (record { child = get_or frame at 0; parent = j })) six ∙ ap (first _) (done_none frame (at + 1 + 1) _) ∙ first-zero _)

-- ---- 01 table

module _ (d : Draft) (frame : List ℕ) where
  pub table-law : let n = get_or frame 2 0 in
      body_fault d table_frame frame
      ≡ first (fault_at frame 1 (byte_if 5 (within 0 8)))
      (first (fault_at frame 2 (byte_if 5 (within 1 4)))
      (first (fault_at frame 3 (byte_if 5 (under (2 ^ min n 4))))
      (first (columns_fault frame 4 n) (fault_at frame (4 + n * 4) (ending (4 + n * 4))))))
  unfolding columns_fault
  table-law =
      let n = get_or frame 2 0 in
      body-start d frame table_frame
      ∙ body-byte d frame 1 5 (within 0 8) _ five
      ∙ ap (first _) (body-byte d frame 2 5 (within 1 4) _ five
      ∙ first-where _ (λ z. body-byte d frame 3 5 (under (2 ^ n)) _ five
      ∙ ap₂ first (ap (λ k. fault_at frame 3 (byte_if 5 (under (2 ^ k)))) (small z)) (body-sized d frame (sized-times sized-column n) 4 _ _ (λ cs left e. body_end d frame (4 + n * 4) _ ∙ first-zero _))))
    where
      small : fault_at frame 2 (byte_if 5 (within 1 4)) ≡ 0 → get_or frame 2 0 ≡ min (get_or frame 2 0) 4
      small z =
          let t = and_parts (leb 1 (get_or frame 2 0)) _ (byte-passes frame 2 5 (within 1 4) five z) in
          let l = leb-true (get_or frame 2 0) 4 t.1 in
          omega arith

  -- ---- 07 goal

  pub goal-law : body_fault d (goal_frame d) frame
      ≡ first (fault_at frame 1 (byte_if 6 (from_under (length d.tables) (relation_count d))))
      (first (fault_at frame 2 (byte_if 5 (within 0 1))) (fault_at frame 3 (ending {A = ℕ} 3)))
  goal-law =
      body-start d frame (goal_frame d)
      ∙ body-byte d frame 1 6 (from_under (length d.tables) (relation_count d)) _ six
      ∙ ap (first _) (body-byte d frame 2 5 (within 0 1) _ five
      ∙ ap (first _) (body_end d frame 3 _ ∙ first-zero _))

-- ---- 05 union, 06 intersection

module _ {d : Draft} {relations : List Relation} (known : Catalogued d relations) where
  -- a relation's number of columns and its row bound
  pub width-known : (i : ℕ) → width d i ≡ width_at relations i
  width-known i = sym (ap (λ s. length s.ranges) (known.schemas i)) ∙ length-ranges (relation_at relations i)

  pub bound-known : (i : ℕ) → (schema (schemas_of d) i).bound ≡ bound_at relations i
  bound-known i = sym (ap (λ s. s.bound) (known.schemas i))

  set-whole : (op : SetOperation) (i j : ℕ)
      → whole_fault d (Item.view (View.set op i j)) ≡ set_rules op relations i j
  unfolding set_rules
  set-whole op i j = rw (width-known i, width-known j, bound-known i, bound-known j)

  module _ (frame : List ℕ) where
    pub set-law : (op : SetOperation) → let i = get_or frame 1 0 in let j = get_or frame 2 0 in
        body_fault d (set_frame d op) frame
        ≡ first (fault_at frame 1 (byte_if 6 (from_under (length d.tables) (relation_count d))))
        (first (fault_at frame 2 (byte_if 6 (from_under (length d.tables) (relation_count d))))
        (first (fault_at frame 3 (ending {A = ℕ} 3))
        (set_rules op relations i j)))
    set-law op =
        body-start d frame (set_frame d op)
        ∙ body-byte d frame 1 6 (from_under (length d.tables) (relation_count d)) _ six
        ∙ ap (first _) (body-byte d frame 2 6 (from_under (length d.tables) (relation_count d)) _ six
        ∙ ap (first _) (body_end d frame 3 _ ∙ ap (first _) (set-whole op (get_or frame 1 0) (get_or frame 2 0))))

    -- ---- 02 foreign key

    -- the whole-frame rule, once the parent is known to be a table
    key-whole : KeysFit d → let c = get_or frame 1 0 in let p = get_or frame 2 0 in let n = get_or frame 3 0 in
        fault_at frame 2 (byte_if 6 (under (length d.tables))) ≡ 0
        → (ps : List Pair) (left : List ℕ) → repeated n (pair_field (width d c) (width d p)) (drop 4 frame) ≡ Read.ok ps left
        → whole_fault d (Item.key (record { child = c; parent = p; pairs = ps })) ≡ pairing frame n 0 (width_at relations p) (mask_at relations p)
    key-whole fit z ps left e =
        let c = get_or frame 1 0 in
        let p = get_or frame 2 0 in
        let n = get_or frame 3 0 in
        let there = ltb-true p (length d.tables) (byte-passes frame 2 6 (under (length d.tables)) six z) in
        pairing-exact frame n ps (λ i. parents-read (width d c) (width d p) frame i n 4 ps left e) 0 (get_or d.tables p no_table).key
        ∙ ap₂ (pairing frame n 0) (fit.fits p there ∙ sym (width-table d p there) ∙ width-known p) (sym (known.masks p there))

    pub key-law : KeysFit d → let c = get_or frame 1 0 in let p = get_or frame 2 0 in let n = get_or frame 3 0 in
        body_fault d (key_frame d) frame
        ≡ first (fault_at frame 1 (byte_if 6 (under (length d.tables))))
        (first (fault_at frame 2 (byte_if 6 (under (length d.tables))))
        (first (fault_at frame 3 (byte_if 5 (within 1 4)))
        (first (pairs_fault frame (width_at relations c) (width_at relations p) 4 n)
        (first (fault_at frame (4 + n * 2) (ending (4 + n * 2)))
        (pairing frame n 0 (width_at relations p) (mask_at relations p))))))
    unfolding pairs_fault
    key-law fit =
        let n = get_or frame 3 0 in
        let pairs = sized-times (sized-pair (width d (get_or frame 1 0)) (width d (get_or frame 2 0))) n in
        body-start d frame (key_frame d)
        ∙ body-byte d frame 1 6 (under (length d.tables)) _ six
        ∙ ap (first _) (body-byte d frame 2 6 (under (length d.tables)) _ six
        ∙ first-where _ (λ z. body-byte d frame 3 5 (within 1 4) _ five
        ∙ ap (first _) (body-sized d frame pairs 4 _ _ (λ ps left e. body_end d frame (4 + n * 2) _ ∙ ap (first _) (key-whole fit z ps left e))
        ∙ ap₂ first (ap₂ (λ v w. fault_at frame 4 (repeated n (pair_field v w))) (width-known (get_or frame 1 0)) (width-known (get_or frame 2 0))) refl)))
