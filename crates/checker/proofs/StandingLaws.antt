-- The counts after a frame stand for the draft with what it adds. Assumes nothing.
use mathlib.Core.Path.{◌≡◌, refl, sym, ap, ◌∙◌}
use mathlib.Core.Bool.{Bool, true, false, cond}
use mathlib.Core.List.{List, [], ◌∷◌, ◌++◌}
use mathlib.Core.Option.{Option, none, some}
use Prim.Native.Nat.{ℕ, ◌≤◌, ◌<◌}
use native.Mathlib.Omega.{arith}
use lib.Dec.{leb, ltb}
use borrow.Author.Tests.{leb-true, leb-false, le-leb, lt-leb}
use Rattle.value.proofs.Decides.{by-test}
use Rattle.meaning.specs.Syntax.{Table, ForeignKey, View, Goal}
use Rattle.meaning.proofs.Stacks.{length-snoc}
use Rattle.language.specs.Draft.{Draft, empty, added, is_nil, stage, stage_of, in_order, has_room, Item}
use Rattle.language.specs.Check.{check_frame, read_checked, Checked}
use Rattle.language.specs.Frames.{frame}
use Rattle.std.specs.Prelude.{Some, None}
use Rattle.catalog.specs.Kinds.{kind_at, number_of}
use Rattle.catalog.specs.declared.kind.Kind.{Kind}
use Rattle.catalog.proofs.KindNumbers.{kind-number, no-kind}
use Rattle.catalog.specs.FileIn.{goal_of}
use Rattle.catalog.specs.declared.plan.Goal.{Goal as GoalHere}
use Rattle.checker.specs.Standing.{Counts, stage_number, start_progress, room_for, turn_fault, with_table, with_key, with_view, with_goal}
use Rattle.checker.specs.declared.state.Progress.{Progress}
use Rattle.checker.specs.declared.state.Stage.{Stage}
use Rattle.checker.specs.declared.state.Stage.TheVariants.{Tables, Keys, Views, Goal as GoalStage, Ended}
use Rattle.language.proofs.Turns.{draft, by_kind, TableTurn, KeyTurn, ViewTurn}

-- ---- the turn of a kind, as the code finds it

stage-some : (t : Stage) → 1 ≤ stage_number t
stage-some Tables = omega arith
stage-some Keys = omega arith
stage-some Views = omega arith
stage-some GoalStage = omega arith
stage-some Ended = omega arith

module _ (s : Progress) {t : Stage} where
  pub room-keys : t ≡ Keys → ltb s.keys 16 ≡ room_for s (stage_number t)
  unfolding room_for
  room-keys e = rw e

  pub room-goal : t ≡ GoalStage → true ≡ room_for s (stage_number t)
  unfolding room_for
  room-goal e = rw e

pub room-other : (s : Progress) (t : Stage) → (t ≡ Keys → ⊥) → (t ≡ GoalStage → ⊥) → ltb s.relations 16 ≡ room_for s (stage_number t)
unfolding room_for
room-other s Tables k g = refl
room-other s Keys k g = absurd (k refl)
room-other s Views k g = refl
room-other s GoalStage k g = absurd (g refl)
room-other s Ended k g = refl

module _ (s : Progress) (kind : ℕ) {n : ℕ} (e : n ≡ stage_of kind) where
  pub turn-early : n < stage_number s.stage → 3 ≡ turn_fault s kind
  unfolding turn_fault
  turn-early h = rw (← e, lt-leb (stage_number s.stage) n h)

  pub turn-room : stage_number s.stage ≤ n → (b : Bool) → b ≡ room_for s n → cond b 0 5 ≡ turn_fault s kind
  unfolding turn_fault
  turn-room h b q = rw (← e, le-leb (stage_number s.stage) n h, ← q)

-- of no kind
pub turn-unknown : (s : Progress) (kind : ℕ) → 0 ≡ stage_of kind → 3 ≡ turn_fault s kind
turn-unknown s kind e = turn-early s kind e (stage-some s.stage)

-- the turn of the kind of a number
module _ (s : Progress) (n : ℕ) {k : Kind} (e : kind_at n ≡ Some k) {m : ℕ} (q : m ≡ stage_of (number_of k)) where
  of_kind : m ≡ stage_of n
  of_kind = q ∙ ap stage_of (sym (kind-number n k e))

  pub kind-early : m < stage_number s.stage → 3 ≡ turn_fault s n
  kind-early h = turn-early s n of_kind h

  pub kind-room : stage_number s.stage ≤ m → (b : Bool) → b ≡ room_for s m → cond b 0 5 ≡ turn_fault s n
  kind-room h b p = turn-room s n of_kind h b p

-- a number of no kind has no stage
no-stage : (n : ℕ) → kind_at n ≡ None → 0 ≡ stage_of n
no-stage n e = by-test (leb 1 (stage_of n))
    (λ t. absurd (by_kind (λ j. n ≡ j → ⊥) (λ q. at (omega (arith, q)) (omega (arith, q))) (λ q. at (omega (arith, q)) (omega (arith, q)))
    (λ q. at (omega (arith, q)) (omega (arith, q))) (λ q. at (omega (arith, q)) (omega (arith, q))) (λ q. at (omega (arith, q)) (omega (arith, q)))
    (λ q. at (omega (arith, q)) (omega (arith, q))) (λ q. at (omega (arith, q)) (omega (arith, q))) n (leb-true 1 (stage_of n) t) refl))
    (λ t. omega (arith, leb-false 1 (stage_of n) t))
  where
    at : 1 ≤ n → n ≤ 7 → ⊥
    at = no-kind n e

pub turn-none : (s : Progress) (n : ℕ) → kind_at n ≡ None → 3 ≡ turn_fault s n
turn-none s n e = turn-unknown s n (no-stage n e)

-- ---- the stage

nil-snoc : {A : Type 0} (xs : List A) (x : A) → is_nil (xs ++ (x ∷ [])) ≡ false
nil-snoc [] x = refl
nil-snoc (y ∷ xs) x = refl

stage-table : (ts : List Table) (ks : List ForeignKey) (qs : List View) (g : Option Goal) → ks ≡ [] → qs ≡ [] → g ≡ none → stage (draft ts ks qs g) ≡ 1
stage-table ts ks qs g a b c = rw (c, b, a)

stage-key : (ts : List Table) (ks : List ForeignKey) (k : ForeignKey) (qs : List View) (g : Option Goal) → qs ≡ [] → g ≡ none
    → stage (draft ts (ks ++ (k ∷ [])) qs g) ≡ 2
stage-key ts ks k qs g b c = rw (c, b, nil-snoc ks k)

stage-view : (ts : List Table) (ks : List ForeignKey) (qs : List View) (q : View) (g : Option Goal) → g ≡ none
    → stage (draft ts ks (qs ++ (q ∷ [])) g) ≡ 3
stage-view ts ks qs q g c = rw (c, nil-snoc qs q)

-- ---- the counts

no-goal : {A : Type 0} {o : Option Goal} {g : Goal} → o ≡ none → o ≡ some g → A
no-goal {o = o} {g = g} p q = let z : ◌≡◌ {A = ℕ} 0 1 = cc in absurd (omega arith)

pub counts-empty : Counts empty start_progress
counts-empty = record { tables = refl; relations = refl; keys = refl; stage_is = refl; goal = λ g e. no-goal refl e }

module _ {d : Draft} {s : Progress} (h : Counts d s) where
  pub counts-table : (t : Table) → TableTurn d → Counts (added d (Item.table t)) (with_table s)
  counts-table t turn = record {
    tables = omega (arith, h.tables, turn.room, length-snoc d.tables t);
    relations = omega (arith, h.relations, turn.room, length-snoc d.tables t);
    keys = h.keys;
    stage_is = sym (stage-table (d.tables ++ (t ∷ [])) d.keys d.views d.goal turn.keys turn.views turn.goal);
    goal = λ g e. no-goal turn.goal e;
  }

  pub counts-key : (k : ForeignKey) → KeyTurn d → Counts (added d (Item.key k)) (with_key s)
  counts-key k turn = record {
    tables = h.tables;
    relations = h.relations;
    keys = omega (arith, h.keys, turn.room, length-snoc d.keys k);
    stage_is = sym (stage-key d.tables d.keys k d.views d.goal turn.views turn.goal);
    goal = λ g e. no-goal turn.goal e;
  }

  pub counts-view : (q : View) → ViewTurn d → Counts (added d (Item.view q)) (with_view s)
  counts-view q turn = record {
    tables = h.tables;
    relations = omega (arith, h.relations, turn.room, length-snoc d.views q);
    keys = h.keys;
    stage_is = sym (stage-view d.tables d.keys d.views q d.goal turn.goal);
    goal = λ g e. no-goal turn.goal e;
  }

  pub counts-goal : (g : Goal) (here : GoalHere) → goal_of here ≡ g → Counts (added d (Item.goal g)) (with_goal s here)
  counts-goal g here q = record {
    tables = h.tables;
    relations = h.relations;
    keys = h.keys;
    stage_is = refl;
    goal = λ g' e. let p : g ≡ g' = cc in (ap (λ (x : Goal). x.view) (q ∙ p), ap (λ (x : Goal). x.negative) (q ∙ p));
  }

  -- ---- whose turn it is

  turn_is : (k : ℕ) → turn_fault s k ≡ cond (in_order d k) (cond (has_room d k) 0 5) 3
  unfolding turn_fault room_for
  turn_is k = rw (h.stage_is, h.keys, h.relations)

  pub turn-passed : (k : ℕ) → turn_fault s k ≡ 0 → (in_order d k ≡ true) × (has_room d k ≡ true)
  turn-passed k z = go (in_order d k) (has_room d k) (sym (turn_is k) ∙ z)
    where
      go : (a b : Bool) → ◌≡◌ {A = ℕ} (cond a (cond b 0 5) 3) 0 → (a ≡ true) × (b ≡ true)
      go true true e = (refl, refl)
      go true false e = absurd (omega arith)
      go false b e = absurd (omega arith)

  pub turn-refused : (k : ℕ) (bs : List ℕ) → (turn_fault s k ≡ 0 → ⊥) → check_frame d (k ∷ bs) ≡ Checked.fault (turn_fault s k)
  unfolding check_frame
  turn-refused k bs n = go (in_order d k) (has_room d k) (turn_is k)
    where
      go : (a b : Bool) → turn_fault s k ≡ cond a (cond b 0 5) 3
          → cond a (cond b (read_checked d (frame d k bs)) (Checked.fault 5)) (Checked.fault 3) ≡ Checked.fault (turn_fault s k)
      go true true e = absurd (n e)
      go true false e = ap Checked.fault (sym e)
      go false b e = ap Checked.fault (sym e)
