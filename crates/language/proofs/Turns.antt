-- What each item is to a draft: its place in the order, its bytes, and how a draft stands when its turn has come.
--     by_kind    a kind that is known is one of seven
--     turn       an item in order, with room for it, finds nothing of a later kind before it
-- Assumes nothing.
use mathlib.Core.Path.{◌≡◌, refl, ap, ◌∙◌}
use mathlib.Core.Bool.{Bool, true, cond}
use mathlib.Core.List.{List, [], ◌∷◌, map}
use mathlib.Core.Option.{Option, none, some}
use Prim.Native.Nat.{ℕ, zero, suc, ◌+◌, ◌≤◌, ◌<◌}
use native.Mathlib.Omega.{arith}
use lib.Dec.{ltb, leb, eqb}
use lib.ListN.{length, length-map, get_or-map}
use borrow.Author.Tests.{ltb-true, leb-true, ne_eqb, lt-leb, le-leb}
use Rattle.value.proofs.Decides.{and_parts}
use Rattle.meaning.specs.Syntax.{Table, ForeignKey, View, Goal}
use Rattle.meaning.specs.Bounds.{Schema, no_schema, table_schema, view_schema}
use Rattle.meaning.proofs.Stacks.{length-stack, stack-keeps}
use Rattle.language.specs.Draft.{Draft, Item, relation_count, is_view, schemas_of, width, stage, stage_of, in_order}
use Rattle.language.specs.Legal.{NamesView, table_at}
use Rattle.language.specs.Written.{table_bytes, key_bytes, view_bytes, goal_bytes}

abbrev pub item_stage : Item → ℕ
item_stage (Item.table t) = 1
item_stage (Item.key k) = 2
item_stage (Item.view q) = 3
item_stage (Item.goal g) = 4

abbrev pub item_bytes : Item → List ℕ
item_bytes (Item.table t) = table_bytes t
item_bytes (Item.key k) = key_bytes k
item_bytes (Item.view q) = view_bytes q
item_bytes (Item.goal g) = goal_bytes g

-- ---- kinds

unknown : (n : ℕ) → stage_of (suc (suc (suc (suc (suc (suc (suc (suc n)))))))) ≡ 0
unknown n =
    let k = suc (suc (suc (suc (suc (suc (suc (suc n))))))) in
    rw (ne_eqb k 1 (λ e. omega arith), ne_eqb k 2 (λ e. omega arith), le-leb 3 k (omega arith), lt-leb k 6 (omega arith), ne_eqb k 7 (λ e. omega arith))

pub by_kind : (P : ℕ → Type 0) → P 1 → P 2 → P 3 → P 4 → P 5 → P 6 → P 7 → (k : ℕ) → 1 ≤ stage_of k → P k
by_kind P p1 p2 p3 p4 p5 p6 p7 zero h = absurd (omega arith)
by_kind P p1 p2 p3 p4 p5 p6 p7 (suc zero) h = p1
by_kind P p1 p2 p3 p4 p5 p6 p7 (suc (suc zero)) h = p2
by_kind P p1 p2 p3 p4 p5 p6 p7 (suc (suc (suc zero))) h = p3
by_kind P p1 p2 p3 p4 p5 p6 p7 (suc (suc (suc (suc zero)))) h = p4
by_kind P p1 p2 p3 p4 p5 p6 p7 (suc (suc (suc (suc (suc zero))))) h = p5
by_kind P p1 p2 p3 p4 p5 p6 p7 (suc (suc (suc (suc (suc (suc zero)))))) h = p6
by_kind P p1 p2 p3 p4 p5 p6 p7 (suc (suc (suc (suc (suc (suc (suc zero))))))) h = p7
by_kind P p1 p2 p3 p4 p5 p6 p7 (suc (suc (suc (suc (suc (suc (suc (suc n)))))))) h = absurd (omega (arith, unknown n))

-- ---- the order

module _ (ts : List Table) where
  abbrev pub draft : List ForeignKey → List View → Option Goal → Draft
  draft ks qs g = record { tables = ts; keys = ks; views = qs; goal = g }

  stage-some : (ks : List ForeignKey) (qs : List View) (g : Option Goal) → 1 ≤ stage (draft ks qs g)
  stage-some ks qs (some g) = omega arith
  stage-some ks (q ∷ qs) none = omega arith
  stage-some (k ∷ ks) [] none = omega arith
  stage-some [] [] none = omega arith

  pub stage-views : (ks : List ForeignKey) (qs : List View) → stage (draft ks qs none) ≤ 3
  stage-views ks (q ∷ qs) = omega arith
  stage-views (k ∷ ks) [] = omega arith
  stage-views [] [] = omega arith

  pub stage-keys : (ks : List ForeignKey) → stage (draft ks [] none) ≤ 2
  stage-keys (k ∷ ks) = omega arith
  stage-keys [] = omega arith

  no-goal : (ks : List ForeignKey) (qs : List View) (g : Option Goal) → stage (draft ks qs g) ≤ 4 → g ≡ none
  no-goal ks qs none h = refl
  no-goal ks qs (some g) h = absurd (omega arith)

  no-views : (ks : List ForeignKey) (qs : List View) (g : Option Goal) → stage (draft ks qs g) ≤ 2 → qs ≡ []
  no-views ks qs (some g) h = absurd (omega arith)
  no-views ks [] none h = refl
  no-views ks (q ∷ qs) none h = absurd (omega arith)

  no_keys : (ks : List ForeignKey) (qs : List View) (g : Option Goal) → stage (draft ks qs g) ≤ 1 → ks ≡ []
  no_keys ks qs (some g) h = absurd (omega arith)
  no_keys ks (q ∷ qs) none h = absurd (omega arith)
  no_keys [] [] none h = refl
  no_keys (k ∷ ks) [] none h = absurd (omega arith)

pub record TableTurn (d : Draft) : Type 0 where
  pub keys : d.keys ≡ []
  pub views : d.views ≡ []
  pub goal : d.goal ≡ none
  pub room : relation_count d < 16

pub record KeyTurn (d : Draft) : Type 0 where
  pub views : d.views ≡ []
  pub goal : d.goal ≡ none
  pub room : length d.keys < 16

pub record ViewTurn (d : Draft) : Type 0 where
  pub goal : d.goal ≡ none
  pub room : relation_count d < 16

abbrev pub Turn : Draft → Item → Type 0
Turn d (Item.table t) = TableTurn d
Turn d (Item.key k) = KeyTurn d
Turn d (Item.view q) = ViewTurn d
Turn d (Item.goal g) = d.goal ≡ none

-- whether there is room for an item of that stage
abbrev pub room_at : Draft → ℕ → Bool
room_at d s = cond (eqb s 2) (ltb (length d.keys) 16) (cond (eqb s 4) true (ltb (relation_count d) 16))

module _ (d : Draft) where
  pub stage-known : (k : ℕ) → in_order d k ≡ true → 1 ≤ stage_of k
  stage-known k h = omega (arith, stage-some d.tables d.keys d.views d.goal, leb-true (stage d) (stage_of k) h)

  pub turn : (i : Item) (s : ℕ) → s ≡ item_stage i → leb (stage d) s ≡ true → room_at d s ≡ true → Turn d i
  turn (Item.table t) s e o r =
      let h : stage d ≤ 1 = omega (arith, leb-true (stage d) s o) in
      record {
        keys = no_keys d.tables d.keys d.views d.goal h;
        views = no-views d.tables d.keys d.views d.goal (omega arith);
        goal = no-goal d.tables d.keys d.views d.goal (omega arith);
        room = ltb-true (relation_count d) 16 (rw e at r);
      }
  turn (Item.key k) s e o r =
      let h : stage d ≤ 2 = omega (arith, leb-true (stage d) s o) in
      record {
        views = no-views d.tables d.keys d.views d.goal h;
        goal = no-goal d.tables d.keys d.views d.goal (omega arith);
        room = ltb-true (length d.keys) 16 (rw e at r);
      }
  turn (Item.view q) s e o r =
      let h : stage d ≤ 3 = omega (arith, leb-true (stage d) s o) in
      record {
        goal = no-goal d.tables d.keys d.views d.goal (omega arith);
        room = ltb-true (relation_count d) 16 (rw e at r);
      }
  turn (Item.goal g) s e o r =
      let h : stage d ≤ 4 = omega (arith, leb-true (stage d) s o) in
      no-goal d.tables d.keys d.views d.goal h

  -- ---- what a draft knows of its relations

  pub count-schemas : length (schemas_of d) ≡ relation_count d
  count-schemas =
      length-stack view_schema d.views (map table_schema d.tables) ∙ ap (λ n. n + length d.views) (length-map d.tables table_schema)

  pub width-table : (i : ℕ) → i < length d.tables → width d i ≡ length (table_at d.tables i).columns
  width-table i h =
      let ss = map table_schema d.tables in
      let l : i < length ss = rw (length-map d.tables table_schema) h in
      ap (λ (s : Schema). length s.ranges) (stack-keeps view_schema no_schema d.views ss i l ∙ get_or-map table_schema d.tables i _)
      ∙ length-map (table_at d.tables i).columns _

  pub names-view : (i : ℕ) → is_view d i ≡ true → NamesView (length d.tables) (relation_count d) i
  names-view i t =
      let p = and_parts (leb (length d.tables) i) (ltb i (relation_count d)) t in
      record { behind = leb-true (length d.tables) i p.0; before = ltb-true i (relation_count d) p.1 }
