-- What a frame does whose turn has come, kind by kind. Assumes nothing.
use mathlib.Core.Path.{◌≡◌, refl, sym, ap, subst, ◌∙◌}
use mathlib.Core.Bool.{Bool, true, false, cond}
use mathlib.Core.List.{List, []}
use Prim.Native.Nat.{ℕ, ◌≤◌, ◌<◌}
use native.Mathlib.Omega.{arith}
use lib.Dec.{ltb, leb, eqb}
use lib.ListN.{length, set, drop}
use borrow.Author.Tests.{ltb-true, leb-true, eqb-true}
use Rattle.value.proofs.Decides.{by-test, and_parts}
use Rattle.meaning.specs.Syntax.{SetOperation, View}
use Rattle.language.specs.Reading.{Read, Reader}
use Rattle.meaning.specs.Bounds.{view_schema, same_width, aggregates_fit, bounded, ranges_fit}
use Rattle.language.specs.Draft.{Draft, Item, added, relation_count, schemas_of, is_view, stage_of, in_order, has_room}
use Rattle.language.specs.Written.{set_kind}
use Rattle.language.specs.Frames.{frame, whole_fault, set_frame}
use Rattle.language.specs.Check.{whole_checked, read_checked}
use Rattle.checker.specs.Faults.{fault_at, fault_of, fault_told}
use Rattle.checker.specs.Catalogued.{Catalogued, checked_fault, body_fault}
use Rattle.checker.specs.FixedFaults.{TableFault, KeyFault, SetFault, GoalFault}
use Rattle.checker.specs.Entries.{TableOf, SetOf}
use Rattle.checker.specs.ViewFaults.{own_kind, own_frame, BytesFault}
use Rattle.checker.specs.ViewRules.{Rules}
use Rattle.checker.specs.Standing.{Counts, DraftIn, Turned, with_table, with_key, with_view, with_goal}
use Rattle.catalog.specs.FileIn.{goal_of}
use Rattle.catalog.specs.Frames.{set_parts_in, goal_in}
use Rattle.catalog.specs.declared.frames.SetParts.{SetParts}
use Rattle.catalog.specs.declared.plan.Goal.{Goal as GoalHere}
use Rattle.catalog.proofs.PartsRead.{SetRead, set-read, goal-read}
use Rattle.checker.specs.declared.state.Progress.{Progress}
use Rattle.std.proofs.Common.{Result, Ok, Err}
use Rattle.text.specs.Refusals.{number_of}
use Rattle.text.specs.declared.refusal.Reason.{Reason}
use Rattle.checker.proofs.FaultLaws.{number-some}
use Rattle.checker.proofs.EntryLaws.{view-entered, key-entered, goal-entered}
use Rattle.checker.proofs.TableLaws.{table-added}
use Rattle.language.proofs.FairReaders.{Good, Nil}
use Rattle.language.proofs.FairFrames.{Well, fair-frame}
use Rattle.checker.proofs.SetLaws.{set-added}
use Rattle.checker.proofs.StandingLaws.{counts-table, counts-key, counts-view, counts-goal}
use Rattle.checker.proofs.StepLaws.{Found, only_none, only-entered, turned-refused, turned-done}
use Rattle.language.proofs.Turns.{item_stage, Turn, turn, stage-known}
use Rattle.catalog.specs.declared.relation.Relation.{Relation}

-- ---- an item that is read

stage-read : (d : Draft) (k : ℕ) {m : Read Item} {i : Item} {rest : List ℕ} → Good Nil (λ i. (stage_of k ≡ item_stage i) × Well d i) m → m ≡ Read.ok i rest
    → stage_of k ≡ item_stage i
stage-read d k {i = i} (Good.ok {a} w p) e = let q : a ≡ i = cc in p.0 ∙ ap item_stage q
stage-read d k (Good.refusal l) e = let z : ◌≡◌ {A = ℕ} 0 1 = cc in absurd (omega arith)

item-stage : (d : Draft) (k : ℕ) (bs : List ℕ) (i : Item) → in_order d k ≡ true → frame d k bs ≡ Read.ok i [] → stage_of k ≡ item_stage i
item-stage d k bs i o reads = stage-read d k ((fair-frame d k (stage-known d k o)).good bs) reads

item-turn : (d : Draft) (k : ℕ) (bs : List ℕ) (i : Item) → in_order d k ≡ true → has_room d k ≡ true → frame d k bs ≡ Read.ok i [] → Turn d i
item-turn d k bs i o r reads = turn d i (stage_of k) (item-stage d k bs i o reads) o r

key-found : {f : List ℕ} {s : Progress} {relations : List Relation} {n : ℕ} → KeyFault f relations s.tables n → Found 2 f s relations n
key-found k = λ d h o r. k.at d h.catalogued h.fits h.counts.tables

-- an answer r that refuses by the reason e
module _ {f : List ℕ} {s : Progress} {relations : List Relation} (r : Result Progress Reason) (e : Reason) (p : r ≡ Err e) where
  pub table-refused : TableFault f (number_of e) → Turned 1 f s relations relations r
  table-refused t = turned-refused r e p (λ d h o q. t.at d)

  pub key-refused : KeyFault f relations s.tables (number_of e) → Turned 2 f s relations relations r
  key-refused k = turned-refused r e p (key-found k)

  pub goal-refused : GoalFault f s.tables s.relations (number_of e) → Turned 7 f s relations relations r
  goal-refused t = turned-refused r e p (λ d h o q. t.at d h.counts.tables h.counts.relations)

module _ {f : List ℕ} {s : Progress} {relations : List Relation} {s' : Progress} where
  -- ---- 01

  pub table_done : (x : Relation) → TableFault f 0 → TableOf f x → s' ≡ with_table s → Turned 1 f s relations (set relations s.relations x) (Ok s')
  table_done x t e w = turned-done s' (only-entered s.relations x relations e.start)
      (λ d h o r. t.at d)
      (λ d i h o r reads whole. go d i h (item-stage d 1 (drop 1 f) i o reads) (item-turn d 1 (drop 1 f) i o r reads) reads)
    where
      go : (d : Draft) (i : Item) → DraftIn d s relations → 1 ≡ item_stage i → Turn d i → frame d 1 (drop 1 f) ≡ Read.ok i []
          → Counts (added d i) s' × Catalogued (added d i) (set relations s.relations x)
      go d (Item.table t) h p turn reads =
          let none : length d.views ≡ 0 = ap length turn.views in
          (rw w (counts-table h.counts t turn), table-added f s.relations x relations e d t h.catalogued (omega (arith, h.counts.relations)) (omega (arith, h.counts.relations, turn.room)) turn.views reads)
      go d (Item.key k) h p turn reads = absurd (omega arith)
      go d (Item.view q) h p turn reads = absurd (omega arith)
      go d (Item.goal g) h p turn reads = absurd (omega arith)

  -- ---- 02

  pub key-done : KeyFault f relations s.tables 0 → s' ≡ with_key s → Turned 2 f s relations relations (Ok s')
  key-done k w = turned-done s' only_none (key-found k)
      (λ d i h o r reads whole. go d i h (item-stage d 2 (drop 1 f) i o reads) (item-turn d 2 (drop 1 f) i o r reads))
    where
      go : (d : Draft) (i : Item) → DraftIn d s relations → 2 ≡ item_stage i → Turn d i → Counts (added d i) s' × Catalogued (added d i) relations
      go d (Item.table t) h p turn = absurd (omega arith)
      go d (Item.key k) h p turn = (rw w (counts-key h.counts k turn), key-entered h.catalogued k)
      go d (Item.view q) h p turn = absurd (omega arith)
      go d (Item.goal g) h p turn = absurd (omega arith)

-- ---- 03, 04

-- the fault of a read that is refused, and of one that is not
body_refused : (d : Draft) (m : Read Item) → (fault_of m ≡ 0 → ⊥) → checked_fault (read_checked d m) ≡ fault_of m
body_refused d (Read.ok i rest) nz = absurd (nz refl)
body_refused d (Read.refused n) nz = refl

body-whole : (d : Draft) (i : Item) → checked_fault (whole_checked d i) ≡ whole_fault d i
body-whole d i = by-test (eqb (whole_fault d i) 0) (λ t. rw t (sym (eqb-true (whole_fault d i) 0 t))) (λ t. rw t refl)

read-well : {P : Item → Type 0} {m : Read Item} → Good Nil P m → fault_of m ≡ 0 → (i : Item) × (m ≡ Read.ok i []) × P i
read-well (Good.ok {a} w p) z = (a, ap (Read.ok a) w, p)
read-well (Good.refusal l) z = absurd (omega arith)

as-view : (i : Item) → 3 ≡ item_stage i → (q : View) × (i ≡ Item.view q)
as-view (Item.table t) e = absurd (omega arith)
as-view (Item.key k) e = absurd (omega arith)
as-view (Item.view q) e = (q, refl)
as-view (Item.goal g) e = absurd (omega arith)

frame-own : (grouped : Bool) (d : Draft) → frame d (own_kind grouped) ≡ own_frame grouped d
frame-own true d = refl
frame-own false d = refl

stage-own : (grouped : Bool) → stage_of (own_kind grouped) ≡ 3
stage-own true = refl
stage-own false = refl

module _ (grouped : Bool) {f : List ℕ} {s : Progress} {relations : List Relation} where
  pub view-refused : (r : Result Progress Reason) (e : Reason) → r ≡ Err e → BytesFault grouped f relations s.relations (number_of e)
      → Turned (own_kind grouped) f s relations relations r
  unfolding body_fault fault_at
  view-refused r e p b = turned-refused r e p
      (λ d h o q.
      let y : number_of e ≡ fault_of (frame d (own_kind grouped) (drop 1 f)) =
      b.at d h.catalogued h.counts.relations ∙ ap (λ (m : Reader Item). fault_of (m (drop 1 f))) (sym (frame-own grouped d)) in
      y ∙ sym (body_refused d (frame d (own_kind grouped) (drop 1 f)) (λ z. number-some e (y ∙ z))))

  -- the view that is read
  view-read : BytesFault grouped f relations s.relations 0 → (d : Draft) → DraftIn d s relations → in_order d (own_kind grouped) ≡ true
      → (q : View) × (frame d (own_kind grouped) (drop 1 f) ≡ Read.ok (Item.view q) [])
  unfolding fault_at
  view-read b d h o =
      let e : fault_of (frame d (own_kind grouped) (drop 1 f)) ≡ 0 = ap (λ (m : Reader Item). fault_of (m (drop 1 f))) (frame-own grouped d) ∙ sym (b.at d h.catalogued h.counts.relations) in
      let (i, reads, p) = read-well ((fair-frame d (own_kind grouped) (stage-known d (own_kind grouped) o)).good (drop 1 f)) e in
      let (q, v) = as-view i (sym (stage-own grouped) ∙ p.0) in
      (q, reads ∙ ap (λ (x : Item). Read.ok x []) v)

  -- what the rules answer is the fault of its body
  view-found : (a : Result Relation Reason) → BytesFault grouped f relations s.relations 0 → Rules grouped f relations a
      → Found (own_kind grouped) f s relations (fault_told a)
  unfolding body_fault
  view-found a b rules d h o r =
      let (q, reads) = view-read b d h o in
      let there : own_frame grouped d (drop 1 f) ≡ Read.ok (Item.view q) [] = ap (λ (m : Reader Item). m (drop 1 f)) (sym (frame-own grouped d)) ∙ reads in
      rules.fault d q h.catalogued there ∙ sym (ap (λ (m : Read Item). checked_fault (read_checked d m)) reads ∙ body-whole d (Item.view q))

  -- a rule that is broken
  pub view-broken : (r : Result Progress Reason) (e : Reason) → r ≡ Err e → BytesFault grouped f relations s.relations 0
      → Rules grouped f relations (Err e) → Turned (own_kind grouped) f s relations relations r
  view-broken r e p b rules = turned-refused r e p (view-found (Err e) b rules)

  pub view-done : {s' : Progress} (x : Relation) → BytesFault grouped f relations s.relations 0 → Rules grouped f relations (Ok x) → s' ≡ with_view s
      → Turned (own_kind grouped) f s relations (set relations s.relations x) (Ok s')
  view-done {s'} x b rules w = turned-done s' (only-entered s.relations x relations (rules.entered x refl).start) (view-found (Ok x) b rules)
      (λ d i h o r reads whole. go d i h (sym (stage-own grouped) ∙ item-stage d (own_kind grouped) (drop 1 f) i o reads) (item-turn d (own_kind grouped) (drop 1 f) i o r reads)
      (ap (λ (m : Reader Item). m (drop 1 f)) (sym (frame-own grouped d)) ∙ reads) whole)
    where
      go : (d : Draft) (i : Item) → DraftIn d s relations → 3 ≡ item_stage i → Turn d i → own_frame grouped d (drop 1 f) ≡ Read.ok i [] → whole_fault d i ≡ 0
          → Counts (added d i) s' × Catalogued (added d i) (set relations s.relations x)
      go d (Item.table t) h e turn reads whole = absurd (omega arith)
      go d (Item.key k) h e turn reads whole = absurd (omega arith)
      go d (Item.view q) h e turn reads whole =
          let (few, same) = rules.told d q x refl h.catalogued reads whole in
          (rw w (counts-view h.counts q turn), view-entered d q s.relations x relations h.catalogued h.counts.relations (omega (arith, h.counts.relations, turn.room)) few same)
      go d (Item.goal g) h e turn reads whole = absurd (omega arith)

  -- the same, by a name that an attribute of the code can say
  pub view_done : {s' : Progress} (x : Relation) → BytesFault grouped f relations s.relations 0 → Rules grouped f relations (Ok x) → s' ≡ with_view s
      → Turned (own_kind grouped) f s relations (set relations s.relations x) (Ok s')
  view_done = view-done

-- ---- 05, 06

before : (d : Draft) (i : ℕ) → is_view d i ≡ true → i < relation_count d
before d i t = ltb-true i (relation_count d) (and_parts (leb (length d.tables) i) (ltb i (relation_count d)) t).1

whole-bounded : (d : Draft) (q : View) → whole_fault d (Item.view q) ≡ 0 → (view_schema (schemas_of d) q).bound ≤ 64
whole-bounded d q e =
    let ss = schemas_of d in
    leb-true (view_schema ss q).bound 64 (go (same_width ss q) (aggregates_fit ss q) (bounded ss q) (ranges_fit ss q) e)
  where
    go : (a b c e : Bool) → ◌≡◌ {A = ℕ} (cond a (cond b (cond c (cond e 0 9) 8) 7) 6) 0 → c ≡ true
    go true true true e z = refl
    go true true false e z = absurd (omega arith)
    go true false c e z = absurd (omega arith)
    go false b c e z = absurd (omega arith)

set-frame : (op : SetOperation) (d : Draft) → frame d (set_kind op) ≡ set_frame d op
set-frame SetOperation.union d = refl
set-frame SetOperation.intersection d = refl

module _ (op : SetOperation) {f : List ℕ} {s : Progress} {relations : List Relation} where
  set_found : {n : ℕ} → SetFault f relations s.tables s.relations op n → Found (set_kind op) f s relations n
  set_found t = λ d h o r. t.at d h.catalogued h.counts.tables h.counts.relations ∙ ap (λ (m : Reader Item). body_fault d m f) (sym (set-frame op d))

  pub set-refused : (r : Result Progress Reason) (e : Reason) → r ≡ Err e → SetFault f relations s.tables s.relations op (number_of e)
      → Turned (set_kind op) f s relations relations r
  set-refused r e p t = turned-refused r e p (set_found t)

  pub set-done : {s' : Progress} {p : SetParts} (x : Relation) → SetFault f relations s.tables s.relations op 0 → p ≡ set_parts_in f
      → SetOf op p.left p.right relations x → s' ≡ with_view s → Turned (set_kind op) f s relations (set relations s.relations x) (Ok s')
  set-done {s'} {p} x t pe e w = turned-done s' (only-entered s.relations x relations e.start) (set_found t)
      (λ d i h o r reads whole. go d i h (set-read d op f i (ap (λ (m : Reader Item). m (drop 1 f)) (sym (set-frame op d)) ∙ reads))
      (item-turn d (set_kind op) (drop 1 f) i o r reads) whole)
    where
      own : SetOf op (set_parts_in f).left (set_parts_in f).right relations x
      own = subst (λ (y : SetParts). SetOf op y.left y.right relations x) pe e

      go : (d : Draft) (i : Item) → DraftIn d s relations → SetRead d op f i → Turn d i → whole_fault d i ≡ 0
          → Counts (added d i) s' × Catalogued (added d i) (set relations s.relations x)
      go d i h read turn whole =
          let left = (set_parts_in f).left in
          let right = (set_parts_in f).right in
          let q : View = View.set op left right in
          let turn' : Turn d (Item.view q) = subst (Turn d) read.view turn in
          let whole' : whole_fault d (Item.view q) ≡ 0 = subst (λ (y : Item). whole_fault d y ≡ 0) read.view whole in
          subst (λ (y : Item). Counts (added d y) s' × Catalogued (added d y) (set relations s.relations x)) (sym read.view) (
            rw w (counts-view h.counts q turn'),
            set-added op left right s.relations x relations own d h.catalogued h.counts.relations (omega (arith, h.counts.relations, turn'.room)) (before d left read.left) (before d right read.right) (whole-bounded d q whole'),
          )

-- ---- 07

pub goal-done : {f : List ℕ} {s : Progress} {relations : List Relation} {s' : Progress} {g : GoalHere} → GoalFault f s.tables s.relations 0
    → g ≡ goal_in f → s' ≡ with_goal s g → Turned 7 f s relations relations (Ok s')
goal-done {f} {s} {relations} {s'} {g} t e w = turned-done s' only_none (λ d h o r. t.at d h.counts.tables h.counts.relations)
    (λ d i h o r reads whole.
    let goal = goal_of (goal_in f) in
    subst (λ (x : Item). Counts (added d x) s' × Catalogued (added d x) relations) (sym (goal-read d f i reads))
    (rw w (counts-goal h.counts goal g (ap goal_of e)), goal-entered h.catalogued goal))
