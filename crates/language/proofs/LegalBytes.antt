-- The frames of a legal file are bytes, and few: so a legal file whose frames fit their lines has a text.
--     legal-bytes     every number of every frame is below 256
--     legal-frames    there are at most 33 frames, so that lines of 120 bytes stay below 8,192 characters
-- Assumes nothing.
use mathlib.Core.Bool.{Bool, true, false, cond}
use mathlib.Core.List.{List, [], ◌∷◌, ◌++◌, map}
use Prim.Native.Nat.{ℕ, zero, suc, ◌+◌, ◌^◌, ◌/◌, ◌%◌, ◌≤◌, ◌<◌}
use native.Mathlib.Omega.{arith}
use lib.IntN.{ℤ, pos, negsuc}
use lib.ListN.{length, get_or, length-append, length-map}
use lib.Signed.{◌≤ℤ◌}
use mir.Syntax.{w16}
use mir.Val.{SFits}
use Rattle.value.specs.Bag.{All}
use Rattle.value.specs.Integer.{low16, high16, bits_of, high_byte, low_byte}
use Rattle.value.specs.Value.{Column, Operation, Comparison, Connective, Aggregate}
use Rattle.value.proofs.Linear.{ints}
use Rattle.value.proofs.Values.{all_map}
use Rattle.meaning.specs.Lists.{joined}
use Rattle.meaning.specs.Syntax.{Expr, Cond, Place, Pair, SetOperation, View, Table, ForeignKey, Goal, File}
use Rattle.language.specs.Prefix.{operation_token, comparison_token, connective_token, aggregate_byte, encode_e, encode_c}
use Rattle.language.specs.Reading.{Open, open_items, opened_item, InLimitsE, InLimitsC}
use Rattle.meaning.specs.Bounds.{Schema, schema, no_schema, table_schema, view_schema}
use Rattle.meaning.proofs.Elements.{all_append, all-at, all-image, all-joined}
use Rattle.meaning.proofs.Sizes.{length-set_ranges}
use Rattle.language.proofs.PrefixForms.{constant-fits}
use Rattle.language.proofs.Readers.{Byte}
use Rattle.meaning.proofs.Stacks.{length-snoc}
use Rattle.language.specs.Legal.{LegalColumn, LegalTable, LegalPair, LegalKey, LegalFrom, LegalSelect, LegalPlace, LegalView, ViewFields, EveryView, Legal}
use Rattle.language.specs.Written.{mask_of, column_bytes, table_bytes, key_bytes, set_kind, view_bytes, goal_bytes, file_frames}
use Rattle.language.proofs.MaskLaws.{mask-small}
use Rattle.language.proofs.SoundFrames.{pair_bytes, place_bytes}

-- one byte more
put : (b : ℕ) {bs : List ℕ} → Byte b → All Byte bs → All Byte (b ∷ bs)
put b p ps = All.cons p ps

-- ---- sixteen bits

bits-limit : (z : ℤ) → SFits w16 z → bits_of z < 65536
unfolding bits_of
bits-limit (pos n) f = omega (arith, f.sfits)
bits-limit (negsuc n) f = omega (arith, f.sfits)

module _ (z : ℤ) (l : low16 ≤ℤ z) (h : z ≤ℤ high16) where
  pub high-limit : Byte (high_byte z)
  high-limit = omega (arith, bits-limit z (constant-fits z l h))

  pub low-limit : Byte (low_byte z)
  low-limit = omega arith

-- ---- expressions and conditions, over from items of at most eight columns

operation-byte : (op : Operation) → Byte (operation_token op)
operation-byte Operation.sum = omega arith
operation-byte Operation.difference = omega arith
operation-byte Operation.product = omega arith

comparison-byte : (op : Comparison) → Byte (comparison_token op)
comparison-byte Comparison.equal = omega arith
comparison-byte Comparison.less = omega arith
comparison-byte Comparison.less_equal = omega arith

connective-byte : (op : Connective) → Byte (connective_token op)
connective-byte Connective.conjunction = omega arith
connective-byte Connective.disjunction = omega arith

aggregate-byte : (op : Aggregate) → Byte (aggregate_byte op)
aggregate-byte Aggregate.count = omega arith
aggregate-byte Aggregate.sum = omega arith
aggregate-byte Aggregate.minimum = omega arith
aggregate-byte Aggregate.maximum = omega arith

-- what is open is in the limits of a byte
record SmallOpen (o : Open) : Type 0 where
  few : length o.widths ≤ 6
  widths : All (λ c. c ≤ 8) o.widths
  count : length o.relations ≤ 16
  relations : All (λ c. c ≤ 8) o.relations

module _ {o : Open} (small : SmallOpen o) where
  item-byte : {i : ℕ} → i < length o.widths → Byte i
  item-byte h = omega (arith, small.few)

  column-byte : {i c : ℕ} → i < length o.widths → c < get_or o.widths i 0 → Byte c
  column-byte {i} h k = omega (arith, all-at small.widths 0 i h)

  -- one more item
  small-opened : length o.widths < 6 → {i : ℕ} → i < length o.relations → SmallOpen (opened_item o i)
  small-opened l {i} h = record {
    few = omega (arith, length-snoc o.widths (get_or o.relations i 0));
    widths = all_append small.widths (All.cons (all-at small.relations 0 i h) All.nil);
    count = small.count;
    relations = small.relations;
  }

mutual
  unfolding encode_e InLimitsE

  bytes_e : {o : Open} → SmallOpen o → (e : Expr) → InLimitsE o e → All Byte (encode_e e)
  bytes_e s (Expr.constant z) h = put 0x00 (omega arith) (All.cons (high-limit z h.0 h.1) (All.cons (low-limit z h.0 h.1) All.nil))
  bytes_e s (Expr.column i c) h = put 0x01 (omega arith) (All.cons (item-byte s h.0) (All.cons (column-byte s h.0 h.1) All.nil))
  bytes_e s (Expr.operation op a b) h = All.cons (operation-byte op) (all_append (bytes_e s a h.0) (bytes_e s b h.1))
  bytes_e s (Expr.rounding m a) h = put 0x05 (omega arith) (put (m / 256) (omega (arith, h.1)) (put (m % 256) (omega arith) (bytes_e s a h.2)))
  bytes_e s (Expr.choice c a b) h = put 0x06 (omega arith) (all_append (all_append (bytes_c s c h.0) (bytes_e s a h.1)) (bytes_e s b h.2))
  bytes_e s (Expr.aggregate op a) h = put 0x07 (omega arith) (All.cons (aggregate-byte op) (bytes_e s a h))

  bytes_c : {o : Open} → SmallOpen o → (c : Cond) → InLimitsC o c → All Byte (encode_c c)
  bytes_c s Cond.always h = put 0x10 (omega arith) All.nil
  bytes_c s (Cond.comparison op a b) h = All.cons (comparison-byte op) (all_append (bytes_e s a h.0) (bytes_e s b h.1))
  bytes_c s (Cond.negated c) h = put 0x14 (omega arith) (bytes_c s c h)
  bytes_c s (Cond.connection op c d) h = All.cons (connective-byte op) (all_append (bytes_c s c h.0) (bytes_c s d h.1))
  bytes_c s (Cond.exists i c) h = put 0x17 (omega arith) (put i (omega (arith, h.1, s.count)) (bytes_c (small-opened s h.0 h.1) c h.2))

place-bytes : {o : Open} → SmallOpen o → (p : Place) → LegalPlace o.widths p → All Byte (place_bytes p)
place-bytes s p h = All.cons (item-byte s h.item) (All.cons (column-byte s h.item h.column) All.nil)

-- ---- tables and foreign keys

small_power : (n : ℕ) → n ≤ 4 → 2 ^ n ≤ 16
small_power zero h = omega arith
small_power (suc zero) h = omega arith
small_power (suc (suc zero)) h = omega arith
small_power (suc (suc (suc zero))) h = omega arith
small_power (suc (suc (suc (suc zero)))) h = omega arith
small_power (suc (suc (suc (suc (suc n))))) h = absurd (omega arith)

column-bytes : (c : Column) → LegalColumn c → All Byte (column_bytes c)
column-bytes c h =
    let l : c.lo ≤ℤ high16 = omega (ints, h.ordered, h.high) in
    let u : low16 ≤ℤ c.hi = omega (ints, h.ordered, h.low) in
    All.cons (high-limit c.lo h.low l) (All.cons (low-limit c.lo h.low l)
    (All.cons (high-limit c.hi u h.high) (All.cons (low-limit c.hi u h.high) All.nil)))

table-bytes : (t : Table) → LegalTable t → All Byte (table_bytes t)
unfolding table_bytes
table-bytes t h =
    let m : mask_of t.key < 2 ^ length t.key = mask-small t.key in
    let k : length t.key ≤ 4 = omega (arith, h.key, h.count) in
    put 0x01 (omega arith) (put t.rows (omega (arith, h.rows)) (put (length t.columns) (omega (arith, h.count))
    (put (mask_of t.key) (omega (arith, small_power (length t.key) k)) (all-joined (all_map column-bytes h.columns)))))

pair-bytes : {c p : ℕ} → c ≤ 4 → p ≤ 4 → (q : Pair) → LegalPair c p q → All Byte (pair_bytes q)
pair-bytes l r q h = put q.child (omega (arith, h.child)) (put q.parent (omega (arith, h.parent)) All.nil)

key-bytes : (ts : List Table) → length ts ≤ 16 → All LegalTable ts → (k : ForeignKey) → LegalKey ts k → All Byte (key_bytes k)
unfolding key_bytes
key-bytes ts n all k h =
    let f = h.fields in
    put 0x02 (omega arith) (put k.child (omega (arith, f.child)) (put k.parent (omega (arith, f.parent)) (put (length k.pairs) (omega (arith, f.count))
    (all-joined (all_map (pair-bytes (all-at all _ k.child f.child).count.most (all-at all _ k.parent f.parent).count.most) f.pairs)))))

-- ---- views

-- at most eight columns
abbrev Narrow : Schema → Type 0
Narrow s = length s.ranges ≤ 8

table-narrow : (t : Table) → LegalTable t → Narrow (table_schema t)
table-narrow t h = simp length-map (omega (arith, h.count))

module _ (t : ℕ) (ss : List Schema) (n : length ss ≤ 16) (narrow : All Narrow ss) where
  view-narrow : (q : View) → ViewFields t ss q → Narrow (view_schema ss q)
  view-narrow (View.basic fs w es) h = simp length-map (omega (arith, h.select.count))
  view-narrow (View.grouped fs w gs v es) h = simp length-map (omega (arith, h.select.count))
  view-narrow (View.set op i j) h = omega (arith, length-set_ranges op (schema ss i).ranges (schema ss j).ranges, all-at narrow no_schema i h.left.before)

  from_bytes : (fs : List ℕ) → LegalFrom ss fs → All Byte fs
  from_bytes fs h = all_map (λ i k. omega arith) h.earlier

  from-small : (fs : List ℕ) → LegalFrom ss fs → SmallOpen (open_items ss fs)
  from-small fs h = record {
    few = omega (arith, length-map fs (λ i. length (schema ss i).ranges), h.count);
    widths = all-image _ (λ i k. all-at narrow no_schema i k) h.earlier;
    count = omega (arith, length-map ss (λ s. length s.ranges), n);
    relations = all-image _ (λ s k. k) narrow;
  }

  select-bytes : (fs : List ℕ) (es : List Expr) → LegalFrom ss fs → LegalSelect (open_items ss fs) es → All Byte (joined (map encode_e es))
  select-bytes fs es f h = all-joined (all_map (bytes_e (from-small fs f)) h.limits)

  kind-byte : (op : SetOperation) → Byte (set_kind op)
  kind-byte SetOperation.union = omega arith
  kind-byte SetOperation.intersection = omega arith

  view-bytes : (q : View) → ViewFields t ss q → All Byte (view_bytes q)
  unfolding view_bytes
  view-bytes (View.basic fs w es) h =
      let f = h.relations in
      all_append (put 0x03 (omega arith) (put (length fs) (omega (arith, f.count)) (from_bytes fs f)))
      (all_append (put (length es) (omega (arith, h.select.count)) (bytes_c (from-small fs f) w h.condition)) (select-bytes fs es f h.select))
  view-bytes (View.grouped fs w gs v es) h =
      let f = h.relations in
      let condition = bytes_c (from-small fs f) in
      all_append (put 0x04 (omega arith) (put (length fs) (omega (arith, f.count)) (from_bytes fs f)))
      (all_append
      (all_append
      (all_append (put (length gs) (omega (arith, h.count)) (put (length es) (omega (arith, h.select.count)) (condition w h.condition)))
      (all-joined (all_map (place-bytes (from-small fs f)) h.grouping)))
      (condition v h.having))
      (select-bytes fs es f h.select))
  view-bytes (View.set op i j) h = put (set_kind op) (kind-byte op) (put i (omega (arith, h.left.before)) (put j (omega (arith, h.right.before)) All.nil))

views-bytes : (t : ℕ) (qs : List View) (ss : List Schema) → EveryView (LegalView t) qs ss → length ss + length qs ≤ 16 → All Narrow ss → All (All Byte) (map view_bytes qs)
views-bytes t [] ss h n all = All.nil
views-bytes t (q ∷ qs) ss (EveryView.more h hs) n all =
    let s = view_schema ss q in
    let l : length ss ≤ 16 = omega arith in
    All.cons (view-bytes t ss l all q h.fields)
    (views-bytes t qs (ss ++ (s ∷ [])) hs (omega (arith, length-snoc ss s)) (all_append all (All.cons (view-narrow t ss l all q h.fields) All.nil)))

-- ---- files

goal-bytes : (g : Goal) → g.view < 16 → All Byte (goal_bytes g)
unfolding goal_bytes
goal-bytes g h = put 0x07 (omega arith) (put g.view (omega arith) (All.cons (sign g.negative) All.nil))
  where
    sign : (b : Bool) → Byte (cond b 1 0)
    sign true = omega arith
    sign false = omega arith

pub legal-bytes : (F : File) → Legal F → All (All Byte) (file_frames F)
unfolding file_frames
legal-bytes F h =
    let n : length F.tables ≤ 16 = omega (arith, h.relation_count) in
    all_append
    (all_append
    (all_append (all-image table_bytes table-bytes h.tables) (all-image key_bytes (key-bytes F.tables n h.tables) h.keys))
    (views-bytes (length F.tables) F.views (map table_schema F.tables) h.views
    (omega (arith, length-map F.tables table_schema, h.relation_count)) (all-image table_schema table-narrow h.tables)))
    (All.cons (goal-bytes F.goal (omega (arith, h.goal, h.relation_count))) All.nil)

pub legal-frames : (F : File) → Legal F → length (file_frames F) ≤ 33
unfolding file_frames
legal-frames F h = simp (length-append, length-map) (omega (arith, h.relation_count, h.key_count))
