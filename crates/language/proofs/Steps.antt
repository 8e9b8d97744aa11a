-- One frame: which frames a draft takes, and what it is afterwards.
--     Lawful d i     the item i is legal for the draft d
--     step_back      the frame of a lawful item, in order and with room for it, is taken
--     looked         a frame is taken, for an item whose turn it is, or refused by its fault, a number from 3 to 9
--     step-bytes     a frame of bytes that is taken is the frame of a lawful item
-- Assumes nothing.
use mathlib.Core.Path.{◌≡◌, refl, ap, subst, ◌∙◌}
use mathlib.Core.Bool.{true}
use mathlib.Core.List.{List, [], ◌∷◌, append-nil}
use mathlib.Core.Logic.{◌⊎◌, inl, inr, ⊎_elim}
use Prim.Native.Nat.{ℕ, ◌≤◌}
use native.Mathlib.Omega.{arith}
use lib.Dec.{leb}
use lib.ListN.{length}
use borrow.Author.Tests.{ne_eqb}
use Rattle.value.specs.Bag.{All}
use Rattle.value.proofs.Decides.{by-test}
use Rattle.meaning.specs.Syntax.{SetOperation, View}
use Rattle.language.specs.Reading.{Read}
use Rattle.meaning.specs.Bounds.{Schema, same_width, aggregates_fit, bounded, ranges_fit}
use Rattle.meaning.proofs.DecidedLists.{cons-all}
use Rattle.language.proofs.Readers.{Byte}
use Rattle.language.specs.Draft.{Draft, Item, added, relation_count, schemas_of, stage, stage_of, in_order, has_room}
use Rattle.language.specs.Frames.{frame, exactly_key, whole_fault}
use Rattle.language.specs.Check.{Checked, check_frame, read_checked}
use Rattle.language.specs.Refused.{Due, FirstBroken, Fault, Sound}
use Rattle.language.specs.Legal.{Limits, LegalTable, LegalKey, table_at, LegalView, NamesView}
use Rattle.language.specs.Written.{table_bytes, key_bytes, view_bytes, goal_bytes}
use Rattle.language.proofs.FairReaders.{Good, Nil, refused-limits}
use Rattle.language.proofs.FairFrames.{Well, fair-frame}
use Rattle.language.proofs.FramesBack.{table-back, key_back, basic-back, grouped-back, set_back, goal-back}
use Rattle.language.proofs.SoundFrames.{Fields, sound-frame}
use Rattle.language.proofs.Turns.{item_stage, item_bytes, Turn, room_at, stage-known, turn}

-- over the schemas of the relations before
pub record ViewRules (ss : List Schema) (q : View) : Type 0 where
  pub width : same_width ss q ≡ true
  pub aggregates : aggregates_fit ss q ≡ true
  pub bound : bounded ss q ≡ true
  pub ranges : ranges_fit ss q ≡ true

module _ (d : Draft) where
  abbrev pub Lawful : Item → Type 0
  Lawful (Item.table t) = LegalTable t
  Lawful (Item.key k) = LegalKey d.tables k
  Lawful (Item.view q) = LegalView (length d.tables) (schemas_of d) q
  Lawful (Item.goal g) = NamesView (length d.tables) (relation_count d) g.view

  -- ---- the rules on the whole frame

  abbrev pub Whole : Item → Type 0
  Whole (Item.table t) = Unit {0}
  Whole (Item.key k) = exactly_key 0 (table_at d.tables k.parent).key k.pairs ≡ true
  Whole (Item.view q) = ViewRules (schemas_of d) q
  Whole (Item.goal g) = Unit {0}

  whole-cases : (i : Item) → Whole i ⊎ FirstBroken d i (whole_fault d i)
  whole-cases (Item.table t) = inl tt
  whole-cases (Item.key k) = by-test (exactly_key 0 (table_at d.tables k.parent).key k.pairs) inl (λ a. inr (rw a (FirstBroken.pairing a)))
  whole-cases (Item.view q) =
      let ss = schemas_of d in
      by-test (same_width ss q) (λ a. by-test (aggregates_fit ss q) (λ b. by-test (bounded ss q) (λ c. by-test (ranges_fit ss q)
      (λ e. inl (record { width = a; aggregates = b; bound = c; ranges = e }))
      (λ e. inr (rw (a, b, c, e) (FirstBroken.ranges a b c e))))
      (λ c. inr (rw (a, b, c) (FirstBroken.bound a b c))))
      (λ b. inr (rw (a, b) (FirstBroken.aggregates a b))))
      (λ a. inr (rw a (FirstBroken.columns a)))
  whole-cases (Item.goal g) = inl tt

  pub whole-zero : (i : Item) → Whole i → whole_fault d i ≡ 0
  whole-zero (Item.table t) h = refl
  whole-zero (Item.key k) h = rw h
  whole-zero (Item.view q) h = rw (h.width, h.aggregates, h.bound, h.ranges)
  whole-zero (Item.goal g) h = refl

  -- the first rule that is broken, as the checker finds it
  broken-fault : {i : Item} {n : ℕ} → FirstBroken d i n → whole_fault d i ≡ n
  broken-fault (FirstBroken.pairing a) = rw a
  broken-fault (FirstBroken.columns a) = rw a
  broken-fault (FirstBroken.aggregates a b) = rw (a, b)
  broken-fault (FirstBroken.bound a b c) = rw (a, b, c)
  broken-fault (FirstBroken.ranges a b c e) = rw (a, b, c, e)

  broken-limits : {i : Item} {n : ℕ} → FirstBroken d i n → Limits 6 9 n
  broken-limits (FirstBroken.pairing a) = omega arith
  broken-limits (FirstBroken.columns a) = omega arith
  broken-limits (FirstBroken.aggregates a b) = omega arith
  broken-limits (FirstBroken.bound a b c) = omega arith
  broken-limits (FirstBroken.ranges a b c e) = omega arith

  none-broken : (i : Item) → Whole i → (n : ℕ) → FirstBroken d i n → ⊥
  none-broken i h n b = omega (arith, whole-zero i h, broken-fault b, broken-limits b)

  lawful-whole : (i : Item) → Lawful i → Whole i
  lawful-whole (Item.table t) h = tt
  lawful-whole (Item.key k) h = h.pairing
  lawful-whole (Item.view q) h = record { width = h.width; aggregates = h.aggregates; bound = h.bound; ranges = h.ranges }
  lawful-whole (Item.goal g) h = tt

  whole-lawful : (i : Item) → Fields d i → Whole i → Lawful i
  whole-lawful (Item.table t) f w = f
  whole-lawful (Item.key k) f w = record { fields = f; pairing = w }
  whole-lawful (Item.view q) f w = record { fields = f; width = w.width; aggregates = w.aggregates; bound = w.bound; ranges = w.ranges }
  whole-lawful (Item.goal g) f w = f

  -- ---- the frame of a lawful item

  check-lawful : (k : ℕ) (bs : List ℕ) {i : Item} → in_order d k ≡ true → has_room d k ≡ true → frame d k bs ≡ Read.ok i [] → Lawful i
      → check_frame d (k ∷ bs) ≡ Checked.next (added d i)
  unfolding check_frame
  check-lawful k bs {i} o r f h = rw (o, r, f, whole-zero i (lawful-whole i h))

  pub step_back : (i : Item) → leb (stage d) (item_stage i) ≡ true → room_at d (item_stage i) ≡ true → Lawful i
      → check_frame d (item_bytes i) ≡ Checked.next (added d i)
  unfolding table_bytes key_bytes view_bytes goal_bytes
  step_back (Item.table t) o r h = check-lawful 1 _ o r (table-back t h) h
  step_back (Item.key k) o r h = check-lawful 2 _ o r (key_back d k h.fields) h
  step_back (Item.view (View.basic fs w es)) o r h = check-lawful 3 _ o r (basic-back d fs w es h.fields) h
  step_back (Item.view (View.grouped fs w gs v es)) o r h = check-lawful 4 _ o r (grouped-back d fs w gs v es h.fields) h
  step_back (Item.view (View.set SetOperation.union i j)) o r h = check-lawful 5 _ o r (set_back d SetOperation.union i j h.fields) h
  step_back (Item.view (View.set SetOperation.intersection i j)) o r h = check-lawful 6 _ o r (set_back d SetOperation.intersection i j h.fields) h
  step_back (Item.goal g) o r h = check-lawful 7 _ o r (goal-back d g h) h

  -- ---- any frame

  -- f is taken and adds i
  pub record Taken (f : List ℕ) (i : Item) : Type 0 where
    pub kind : ℕ
    pub bytes : List ℕ
    pub cut : f ≡ kind ∷ bytes
    pub known : 1 ≤ stage_of kind
    pub sound : Sound d f (added d i)
    pub reads : frame d kind bytes ≡ Read.ok i []
    pub turn : Turn d i
    pub well : Well d i
    pub whole : Whole i

  -- an empty frame has a number, but no fault: no text has one
  pub data Looked (f : List ℕ) : Checked → Type 0 where
    fault : {n : ℕ} → Limits 3 9 n → (1 ≤ length f → Fault d f n) → Looked f (Checked.fault n)
    next : {i : Item} → Taken f i → Looked f (Checked.next (added d i))

  pub fault-limits : {f : List ℕ} {n : ℕ} → Fault d f n → Limits 3 9 n
  fault-limits (Fault.kind o) = omega arith
  fault-limits (Fault.room o r) = omega arith
  fault-limits (Fault.bytes {k} {n} {bs} u e) = omega (arith, refused-limits ((fair-frame d k (stage-known d k u.order)).good bs) e)
  fault-limits (Fault.whole u e b) = omega (arith, broken-limits b)

  faulty : {f : List ℕ} {n : ℕ} → Fault d f n → Looked f (Checked.fault n)
  faulty h = Looked.fault (fault-limits h) (λ _. h)

  module _ (k : ℕ) (bs : List ℕ) (u : Due d k) where
    looked-read : (m : Read Item) → frame d k bs ≡ m → Good Nil (λ i. (stage_of k ≡ item_stage i) × Well d i) m → Looked (k ∷ bs) (read_checked d m)
    looked-read (Read.ok i rest) e (Good.ok left p) =
        let reads : frame d k bs ≡ Read.ok i [] = e ∙ ap (Read.ok i) left in
        ⊎_elim
        (λ h. rw (whole-zero i h) (Looked.next (record {
          kind = k;
          bytes = bs;
          cut = refl;
          known = stage-known d k u.order;
          sound = Sound.adds u reads (none-broken i h);
          reads = reads;
          turn = turn d i (stage_of k) p.0 u.order u.room;
          well = p.1;
          whole = h;
        })))
        (λ b. rw (ne_eqb (whole_fault d i) 0 (λ z. omega (arith, broken-limits b))) (faulty (Fault.whole u reads b)))
        (whole-cases i)
    looked-read (Read.refused n) e g = faulty (Fault.bytes u e)

  pub looked : (f : List ℕ) → Looked f (check_frame d f)
  unfolding check_frame
  looked [] = Looked.fault {n = 4} (omega arith) (λ h. absurd (omega arith))
  looked (k ∷ bs) =
      by-test (in_order d k)
      (λ o. by-test (has_room d k)
      (λ r. rw (o, r) (looked-read k bs (record { order = o; room = r }) (frame d k bs) refl ((fair-frame d k (stage-known d k o)).good bs)))
      (λ r. rw (o, r) (faulty (Fault.room o r))))
      (λ o. rw o (faulty (Fault.kind o)))

  -- the checker's answer to a frame is its fault, or what it adds
  pub fault-checked : {f : List ℕ} {n : ℕ} → Fault d f n → check_frame d f ≡ Checked.fault n
  unfolding check_frame
  fault-checked (Fault.kind o) = rw o
  fault-checked (Fault.room o r) = rw (o, r)
  fault-checked (Fault.bytes u e) = rw (u.order, u.room, e)
  fault-checked (Fault.whole {n = n} u e b) = rw (u.order, u.room, e, broken-fault b, ne_eqb n 0 (λ z. omega (arith, broken-limits b)))

  pub sound-checked : {f : List ℕ} {e : Draft} → Sound d f e → check_frame d f ≡ Checked.next e
  unfolding check_frame
  sound-checked (Sound.adds {i = i} u e h) =
      let z : whole_fault d i ≡ 0 = ⊎_elim (whole-zero i) (λ b. absurd (h (whole_fault d i) b)) (whole-cases i) in
      rw (u.order, u.room, e, z)

  pub step-bytes : (f : List ℕ) (i : Item) → All Byte f → Taken f i → (f ≡ item_bytes i) × Lawful i
  step-bytes f i all t =
      let h = (sound-frame d t.kind t.known).reads t.bytes i [] (cons-all (subst (All Byte) t.cut all)).1 t.reads in
      (t.cut ∙ h.0 ∙ append-nil (item_bytes i), whole-lawful i h.1 t.whole)
