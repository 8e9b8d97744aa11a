-- The frame of an item with its fields in their limits reads back as the item. Assumes nothing.
use mathlib.Core.Path.{◌≡◌, refl, sym, ap, subst₂, ◌∙◌}
use mathlib.Core.Bool.{Bool, true, false, ◌&&◌, cond}
use mathlib.Core.List.{List, [], ◌∷◌, ◌++◌, map, append_assoc, append-nil}
use Prim.Native.Nat.{ℕ, ◌^◌, ◌<◌}
use native.Mathlib.Omega.{arith}
use lib.Dec.{ltb, leb, eqb}
use lib.IntN.{ℤ}
use lib.ListN.{length}
use lib.Signed.{le_z}
use borrow.Author.Tests.{lt-ltb, le-leb}
use Rattle.value.specs.Bag.{All}
use Rattle.value.specs.Integer.{bytes_z, high_byte, low_byte}
use Rattle.value.specs.Value.{Column}
use Rattle.value.proofs.Linear.{true-le_z, ints}
use Rattle.value.proofs.TwosComplement.{bytes_back}
use Rattle.value.proofs.Values.{all_map}
use Rattle.meaning.specs.Lists.{joined}
use Rattle.meaning.specs.Syntax.{Expr, Cond, Place, Pair, SetOperation, Table, ForeignKey, Goal, View}
use Rattle.language.specs.Prefix.{encode_e, encode_c}
use Rattle.language.specs.Reading.{Reader, done, refuse, either, byte_if, Open, open_items, read_e, InLimitsE, Read}
use Rattle.language.proofs.Readers.{one}
use Rattle.language.proofs.PrefixForms.{constant-fits, back_e, back_c}
use Rattle.language.specs.Draft.{Draft, relation_count, is_view, schemas_of, Item}
use Rattle.language.specs.Frames.{repeated, mask_bits, column_field, table_frame, pair_field, key_frame, from_list, basic_frame, place_field, grouped_frame, set_frame, goal_frame}
use Rattle.language.specs.Legal.{Limits, LegalColumn, LegalTable, LegalPair, KeyFields, LegalFrom, LegalPlace, LegalBasic, LegalGrouped, NamesView, LegalSet}
use Rattle.language.specs.Written.{column_bytes, mask_of}
use Rattle.language.proofs.MaskLaws.{mask-small, bits_back}
use Rattle.language.proofs.SoundFrames.{joined-ones, regroup, pair_bytes, place_bytes}
use Rattle.language.proofs.Turns.{count-schemas, width-table}

-- ---- the readers of frames

limits-true : {lo hi n : ℕ} → Limits lo hi n → (leb lo n && leb n hi) ≡ true
limits-true {lo} {hi} {n} l = rw (le-leb lo n l.least, le-leb n hi l.most)

-- r reads the bytes of x back, and leaves what is behind them
pub record Back {A : Type 0} (r : Reader A) (enc : A → List ℕ) (x : A) : Type 0 where
  pub back : (rest : List ℕ) → r (enc x ++ rest) ≡ Read.ok x rest

module _ {A : Type 0} {r : Reader A} {enc : A → List ℕ} where
  times-back : {xs : List A} → All (Back r enc) xs → (rest : List ℕ) → repeated (length xs) r (joined (map enc xs) ++ rest) ≡ Read.ok xs rest
  times-back All.nil rest = refl
  times-back (All.cons {x} {xs} p ps) rest = rw (append_assoc (enc x) (joined (map enc xs)) rest, p.back _, times-back ps rest)

  times-end : {xs : List A} → All (Back r enc) xs → repeated (length xs) r (joined (map enc xs)) ≡ Read.ok xs []
  times-end {xs} ps = ap (repeated (length xs) r) (sym (append-nil (joined (map enc xs)))) ∙ times-back ps []

-- ---- each kind

column-read : (c : Column) (lo hi : ℤ) (rest : List ℕ) → LegalColumn c → lo ≡ c.lo → hi ≡ c.hi
    → either {A = Reader Column} (le_z lo hi) (done (record { lo = lo; hi = hi })) (refuse 5) rest ≡ Read.ok c rest
column-read c lo hi rest h p q = rw (p, q, true-le_z h.ordered)

column-back : (c : Column) → LegalColumn c → Back column_field column_bytes c
column-back c h =
    record {
      back = λ rest. column-read c (bytes_z (high_byte c.lo) (low_byte c.lo)) (bytes_z (high_byte c.hi) (low_byte c.hi)) rest h
          (bytes_back c.lo (constant-fits c.lo h.low (omega (ints, h.ordered, h.high))))
          (bytes_back c.hi (constant-fits c.hi (omega (ints, h.ordered, h.low)) h.high));
    }

pub table-back : (t : Table) → LegalTable t
    → table_frame (t.rows ∷ length t.columns ∷ mask_of t.key ∷ joined (map column_bytes t.columns)) ≡ Read.ok (Item.table t) []
table-back t h =
    let m : mask_of t.key < 2 ^ length t.columns = rw h.key at (mask-small t.key) in
    let k : mask_bits (length t.columns) (mask_of t.key) ≡ t.key = ap (λ n. mask_bits n (mask_of t.key)) (sym h.key) ∙ bits_back t.key in
    rw (limits-true h.rows, limits-true h.count, lt-ltb _ _ m, times-end (all_map column-back h.columns), k)

pair-back : (c p : ℕ) (q : Pair) → LegalPair c p q → Back (pair_field c p) pair_bytes q
pair-back c p q h = record { back = λ rest. rw (lt-ltb _ _ h.child, lt-ltb _ _ h.parent) }

expression-back : (o : Open) (e : Expr) → InLimitsE o e → Back (read_e o) encode_e e
expression-back o e h = record { back = λ rest. back_e o e rest h }

place-back : (cols : List ℕ) (p : Place) → LegalPlace cols p → Back (place_field cols) place_bytes p
place-back cols p h = record { back = λ rest. rw (lt-ltb _ _ h.item, lt-ltb _ _ h.column) }

sign-limits : (b : Bool) → (Limits 0 1 (cond b 1 0)) × (eqb (cond b 1 0) 1 ≡ b)
sign-limits true = (omega arith, refl)
sign-limits false = (omega arith, refl)

module _ (d : Draft) where
  pub key_back : (k : ForeignKey) → KeyFields d.tables k
      → key_frame d (k.child ∷ k.parent ∷ length k.pairs ∷ joined (map pair_bytes k.pairs)) ≡ Read.ok (Item.key k) []
  key_back k h =
      let c = width-table d k.child h.child in
      let p = width-table d k.parent h.parent in
      let ps = all_map (pair-back _ _) (subst₂ (λ (x y : ℕ). All (LegalPair x y) k.pairs) (sym c) (sym p) h.pairs) in
      rw (lt-ltb _ _ h.child, lt-ltb _ _ h.parent, limits-true h.count, times-end ps)

  name_back : (i : ℕ) → i < length (schemas_of d) → Back (byte_if 6 (λ i. ltb i (relation_count d))) one i
  name_back i h = record { back = λ rest. rw (lt-ltb i (relation_count d) (rw (count-schemas d) at h)) }

  from_back : (fs rest : List ℕ) → LegalFrom (schemas_of d) fs → from_list d (length fs ∷ (fs ++ rest)) ≡ Read.ok fs rest
  from_back fs rest h =
      let name : Reader ℕ = byte_if 6 (λ i. ltb i (relation_count d)) in
      rw (limits-true h.count)
      (ap (λ (l : List ℕ). repeated (length fs) name (l ++ rest)) (sym (joined-ones fs)) ∙ times-back (all_map name_back h.earlier) rest)

  pub basic-back : (fs : List ℕ) (w : Cond) (es : List Expr) → LegalBasic (schemas_of d) fs w es
      → basic_frame d (length fs ∷ fs ++ (length es ∷ encode_c w ++ joined (map encode_e es))) ≡ Read.ok (Item.view (View.basic fs w es)) []
  basic-back fs w es h =
      let o = open_items (schemas_of d) fs in
      rw (
        from_back fs _ h.relations,
        limits-true h.select.count,
        back_c o w _ h.condition,
        times-end (all_map (expression-back o) h.select.limits),
      )

  pub grouped-back : (fs : List ℕ) (w : Cond) (gs : List Place) (v : Cond) (es : List Expr) → LegalGrouped (schemas_of d) fs w gs v es
      → grouped_frame d (length fs ∷ fs ++ (length gs ∷ length es ∷ encode_c w ++ joined (map place_bytes gs) ++ encode_c v ++ joined (map encode_e es)))
      ≡ Read.ok (Item.view (View.grouped fs w gs v es)) []
  grouped-back fs w gs v es h =
      let o = open_items (schemas_of d) fs in
      rw (
        from_back fs _ h.relations,
        limits-true h.count,
        limits-true h.select.count,
        regroup (encode_c w) (joined (map place_bytes gs)) (encode_c v) (joined (map encode_e es)),
        back_c o w _ h.condition,
        times-back (all_map (place-back o.widths) h.grouping) _,
        back_c o v _ h.having,
        times-end (all_map (expression-back o) h.select.limits),
      )

  view_named : {r i : ℕ} → r ≡ relation_count d → NamesView (length d.tables) r i → is_view d i ≡ true
  view_named {r} {i} e h = rw (le-leb (length d.tables) i h.behind, lt-ltb i (relation_count d) (rw e at h.before))

  pub set_back : (op : SetOperation) (i j : ℕ) → LegalSet (length d.tables) (schemas_of d) i j
      → set_frame d op (i ∷ j ∷ []) ≡ Read.ok (Item.view (View.set op i j)) []
  set_back op i j h = rw (view_named (count-schemas d) h.left, view_named (count-schemas d) h.right)

  pub goal-back : (g : Goal) → NamesView (length d.tables) (relation_count d) g.view
      → goal_frame d (g.view ∷ cond g.negative 1 0 ∷ []) ≡ Read.ok (Item.goal g) []
  goal-back g h = rw (view_named refl h, limits-true (sign-limits g.negative).0, (sign-limits g.negative).1)
