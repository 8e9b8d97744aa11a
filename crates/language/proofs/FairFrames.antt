-- Frames of any numbers, bytes or not: what a frame's reader reads is in order and in bounds, and its refusals have numbers from 4 to 6.
-- Assumes nothing.
use mathlib.Core.Path.{◌≡◌, refl}
use mathlib.Core.Bool.{Bool, true}
use mathlib.Core.List.{List, [], ◌∷◌, map}
use Prim.Native.Nat.{ℕ, ◌^◌, ◌≤◌}
use lib.Dec.{ltb, leb}
use lib.ListN.{length, get_or, length-map}
use lib.Signed.{le_z}
use Rattle.value.specs.Bag.{All}
use Rattle.value.specs.Integer.{bytes_z}
use Rattle.value.proofs.Decides.{and_parts}
use Rattle.value.proofs.Values.{all_map}
use Rattle.meaning.specs.Lists.{all, joined}
use Rattle.meaning.specs.Syntax.{Expr, SetOperation}
use Rattle.meaning.specs.Bounds.{ordered, earlier, inner_e, inner_c}
use Rattle.meaning.proofs.Elements.{all_append, all-joined}
use Rattle.language.specs.Reading.{open_items}
use Rattle.language.specs.Draft.{Draft, Item, relation_count, is_table, is_view, width, schemas_of, stage_of}
use Rattle.language.specs.Frames.{column_field, table_frame, pair_field, key_frame, from_list, basic_frame, place_field, grouped_frame, set_frame, goal_frame, frame}
use Rattle.language.specs.Legal.{NamesView}
use Rattle.language.proofs.FairReaders.{Fair, Anything, Nil, Before, five, six, fair-done, fair-refuse, fair-bind, fair-map, fair-either, fair-byte, fair-byte_if, fair-field, fair-ending, fair-times, fair_e, fair_c}
use Rattle.language.proofs.Turns.{item_stage, by_kind, count-schemas, names-view}

pub all_true : {A : Type 0} (p : A → Bool) {xs : List A} → All (λ x. p x ≡ true) xs → all p xs ≡ true
all_true p All.nil = refl
all_true p (All.cons h hs) = rw (h, all_true p hs)

fair-column : Fair Anything column_field (λ c. le_z c.lo c.hi ≡ true)
fair-column =
    fair-bind fair-byte (λ a _. fair-bind fair-byte (λ b _. fair-bind fair-byte (λ c _. fair-bind fair-byte (λ d _.
    fair-either (le_z (bytes_z a b) (bytes_z c d)) (λ t. fair-done t) (λ _. fair-refuse five)))))

fair-pair : (c p : ℕ) → Fair Anything (pair_field c p) Anything
fair-pair c p = fair-bind (fair-byte_if (λ i. ltb i c) six) (λ i _. fair-bind (fair-byte_if (λ j. ltb j p) six) (λ j _. fair-done tt))

fair-place : (cols : List ℕ) → Fair Anything (place_field cols) Anything
fair-place cols =
    fair-bind (fair-byte_if (λ i. ltb i (length cols)) six) (λ i _. fair-bind (fair-byte_if (λ c. ltb c (get_or cols i 0)) six) (λ c _. fair-done tt))

module _ (d : Draft) where
  abbrev pub Well : Item → Type 0
  Well (Item.table t) = ordered t ≡ true
  Well (Item.key k) = Unit {0}
  Well (Item.view q) = earlier (schemas_of d) q ≡ true
  Well (Item.goal g) = NamesView (length d.tables) (relation_count d) g.view

  -- an item in its place in the order
  abbrev InPlace : ℕ → Item → Type 0
  InPlace s i = (s ≡ item_stage i) × Well i

  -- the relations before the view
  abbrev N : ℕ
  N = length (schemas_of d)

  before-schemas : (fs : List ℕ) → Before (relation_count d) fs → Before N fs
  before-schemas fs h = rw (count-schemas d) h

  -- those into which its expressions and conditions look
  open-before : (fs is : List ℕ) → Before (length (open_items (schemas_of d) fs).relations) is → Before N is
  open-before fs is h = rw (length-map (schemas_of d) (λ s. length s.ranges)) at h

  selects-before : (fs : List ℕ) {es : List Expr} → All (λ e. Before (length (open_items (schemas_of d) fs).relations) (inner_e e)) es → Before N (joined (map inner_e es))
  selects-before fs h = all-joined {f = inner_e} (all_map (λ e k. open-before fs (inner_e e) k) h)

  view-before : (i : ℕ) → is_view d i ≡ true → ltb i (relation_count d) ≡ true
  view-before i t = (and_parts (leb (length d.tables) i) (ltb i (relation_count d)) t).1

  fair-table : Fair Nil table_frame (InPlace 1)
  fair-table =
      fair-bind (fair-field 0 8) (λ r _. fair-bind (fair-field 1 4) (λ n _. fair-bind (fair-byte_if (λ m. ltb m (2 ^ n)) five) (λ m _.
      fair-bind (fair-times fair-column n) (λ cs h. fair-ending _ (refl, all_true _ h.1)))))

  fair-key : Fair Nil (key_frame d) (InPlace 2)
  fair-key =
      fair-bind (fair-byte_if (is_table d) six) (λ c _. fair-bind (fair-byte_if (is_table d) six) (λ p _. fair-bind (fair-field 1 4) (λ n _.
      fair-bind (fair-times (fair-pair (width d c) (width d p)) n) (λ ps _. fair-ending _ (refl, tt)))))

  fair-from : Fair Anything (from_list d) (Before N)
  fair-from = fair-bind (fair-field 1 3) (λ n _.
      fair-map (λ fs h. before-schemas fs h.1) (fair-times (fair-byte_if (λ i. ltb i (relation_count d)) six) n))

  fair-basic : Fair Nil (basic_frame d) (InPlace 3)
  fair-basic =
      fair-bind fair-from (λ fs h. fair-bind (fair-field 1 8) (λ n _. let o = open_items (schemas_of d) fs in
      fair-bind (fair_c o) (λ w p. fair-bind (fair-times (fair_e o) n) (λ es q.
      fair-ending _ (refl, all_true _ (all_append h (all_append (open-before fs (inner_c w) p) (selects-before fs q.1))))))))

  fair-grouped : Fair Nil (grouped_frame d) (InPlace 3)
  fair-grouped =
      fair-bind fair-from (λ fs h. fair-bind (fair-field 0 4) (λ g _. fair-bind (fair-field 1 8) (λ n _. let o = open_items (schemas_of d) fs in
      fair-bind (fair_c o) (λ w p. fair-bind (fair-times (fair-place o.widths) g) (λ gs _. fair-bind (fair_c o) (λ v r.
      fair-bind (fair-times (fair_e o) n) (λ es q.
      fair-ending _ (refl, all_true _ (all_append h (all_append (open-before fs (inner_c w) p) (all_append (open-before fs (inner_c v) r) (selects-before fs q.1))))))))))))

  fair-set : (op : SetOperation) → Fair Nil (set_frame d op) (InPlace 3)
  fair-set op =
      fair-bind (fair-byte_if (is_view d) six) (λ i p. fair-bind (fair-byte_if (is_view d) six) (λ j q.
      fair-ending _ (refl, all_true _ (before-schemas (i ∷ j ∷ []) (All.cons (view-before i p) (All.cons (view-before j q) All.nil))))))

  fair-goal : Fair Nil (goal_frame d) (InPlace 4)
  fair-goal =
      fair-bind (fair-byte_if (is_view d) six) (λ v p. fair-bind (fair-field 0 1) (λ s _. fair-ending _ (refl, names-view d v p)))

  pub fair-frame : (k : ℕ) → 1 ≤ stage_of k → Fair Nil (frame d k) (λ i. (stage_of k ≡ item_stage i) × Well i)
  fair-frame =
      by_kind (λ k. Fair Nil (frame d k) (InPlace (stage_of k))) fair-table fair-key fair-basic fair-grouped
      (fair-set SetOperation.union) (fair-set SetOperation.intersection) fair-goal
