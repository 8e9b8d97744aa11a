-- One view over relations that lie in their bounds: its rows lie in its bounds, and 32 bits hold every result inside its expressions.
-- Assumes nothing.
use mathlib.Core.Path.{◌≡◌, refl, sym}
use mathlib.Core.Bool.{Bool, true, ◌&&◌, true≢false}
use mathlib.Core.List.{List, [], ◌∷◌, map}
use Prim.Native.Nat.{ℕ, zero, suc, ◌≤◌}
use native.Mathlib.Omega.{arith}
use lib.ListN.{length, get_or, length-append, length-map}
use Rattle.value.specs.Bag.{All}
use Rattle.value.proofs.Decides.{and_parts, dec-true, eqb-dec}
use Rattle.value.proofs.Values.{all_map}
use Rattle.range.specs.Ranges.{Inside}
use Rattle.range.specs.declared.Range.{Range}
use Rattle.range.proofs.Soundness.{hull-left, hull-right}
use Rattle.meaning.specs.Lists.{Any, Each, all, keep, combinations}
use Rattle.meaning.specs.Syntax.{Expr, Cond, View, Place, Row, Combination, SetOperation}
use Rattle.meaning.specs.Evaluation.{row_test, alone, satisfies, selected, key_of}
use Rattle.meaning.specs.Rows.{group_keys, together, kept, rows_of}
use Rattle.meaning.specs.Bounds.{Schema, schema, OpenRanges, product_bound, open_ranges, within_e, within_c, hulls, view_schema, names, same_width, in_where, in_basic, in_grouped, allowed_e, allowed_c, aggregates_fit, ranges_fit}
use Rattle.meaning.specs.Clear.{ClearC, BasicClear, Chosen, GroupedClear, ViewClear, InBounds}
use Rattle.meaning.proofs.Elements.{all-image, all_append, all-before, all-given, all_keep, all-common, all-self, all_from, any-all, each-images, all-combinations}
use Rattle.meaning.proofs.Sizes.{combinations-bound, length-keep, length-firsts, length-common}
use Rattle.meaning.proofs.Spread.{spread-cell, key-members, group-member}
use Rattle.meaning.proofs.WellFormed.{group-fits}
use Rattle.meaning.proofs.RangeOfValue.{Covered, RelationsCovered, ScopeCovered, covered-at, alone-covered, selected-inside, selected-clear, clear-condition}

-- ---- what a view keeps of the product

pub keep-chosen : (p : Combination → Bool) (C : List Combination) → Chosen C (keep p C)
keep-chosen p C = record { from = all_keep p (all-self C); size = length-keep p C }

-- ---- negated views: other combinations of the same product, and conditions over the same expressions

module _ {M : ℕ → List Row} {fs : List ℕ} {w : Cond} {es : List Expr} where
  pub basic-negated : BasicClear M fs w es → BasicClear M fs (Cond.negated w) es
  basic-negated c = record { condition = c.condition; select = c.select }

  module _ {gs : List Place} {h : Cond} where
    pub where-negated : GroupedClear M fs w gs h es → GroupedClear M fs (Cond.negated w) gs h es
    where-negated c = record { condition = c.condition; having = λ x. c.having x; select = λ x. c.select x }

    pub having-negated : GroupedClear M fs w gs h es → GroupedClear M fs w gs (Cond.negated h) es
    having-negated c = record { condition = c.condition; having = λ x. c.having x; select = λ x. c.select x }

-- ---- union columns

hulls-left : {as' : List Range} (bs : List Range) {r : Row} → length as' ≡ length bs → Each Inside as' r → Each Inside (hulls as' bs) r
hulls-left bs e Each.nil = Each.nil
hulls-left [] e (Each.cons i is) = absurd (omega arith)
hulls-left (b ∷ bs) e (Each.cons {x = a} i is) = Each.cons (hull-left {a = a} i b) (hulls-left bs (omega arith) is)

hulls-right : (as' : List Range) {bs : List Range} {r : Row} → length as' ≡ length bs → Each Inside bs r → Each Inside (hulls as' bs) r
hulls-right [] e Each.nil = Each.nil
hulls-right [] e (Each.cons i is) = absurd (omega arith)
hulls-right (a ∷ as') e Each.nil = absurd (omega arith)
hulls-right (a ∷ as') e (Each.cons {x = b} i is) = Each.cons (hull-right {a = b} i a) (hulls-right as' (omega arith) is)

-- ---- one view, over relations that lie in their bounds

module _ (ss : List Schema) (M : ℕ → List Row) where
  -- a view of relations that have at most their bounds of rows has at most its own
  pub view-size : (q : View) → All (λ i. length (M i) ≤ (schema ss i).bound) (names q) → length (rows_of M q) ≤ (view_schema ss q).bound
  view-size (View.basic fs w es) n =
      let f : Combination → Row = λ m. selected es (alone M m) in
      rw (length-map (kept M fs w) f) (omega (
        arith,
        length-keep (λ m. satisfies w (alone M m)) (combinations (map M fs)),
        combinations-bound M (λ i. (schema ss i).bound) (all-before fs _ n),
      ))
  view-size (View.grouped fs w gs h es) n =
      let S = kept M fs w in
      let p : Row → Bool = λ k. satisfies h (together M gs S k) in
      let f : Row → Row = λ k. selected es (together M gs S k) in
      rw (length-map (keep p (group_keys gs S)) f) (omega (
        arith,
        length-keep p (group_keys gs S),
        length-firsts row_test (map (key_of gs) S),
        length-map S (key_of gs),
        length-keep (λ m. satisfies w (alone M m)) (combinations (map M fs)),
        combinations-bound M (λ i. (schema ss i).bound) (all-before fs _ n),
      ))
  view-size (View.set SetOperation.union i j) (All.cons l (All.cons r All.nil)) = rw (length-append (M i) (M j)) (omega arith)
  view-size (View.set SetOperation.intersection i j) (All.cons l (All.cons r All.nil)) = omega (arith, length-common row_test (M i) (M j))

-- the ranges of a relation's columns
ranges-at : (ss : List Schema) (i : ℕ) → get_or (map (λ s. s.ranges) ss) i [] ≡ (schema ss i).ranges
ranges-at [] i = refl
ranges-at (s ∷ ss) zero = refl
ranges-at (s ∷ ss) (suc i) = ranges-at ss i

-- over relations that lie in their bounds; one that is not there has no rows
module _ (ss : List Schema) (M : ℕ → List Row) (every : (i : ℕ) → InBounds (schema ss i) (M i)) where
  module _ (fs : List ℕ) where
    abbrev o : OpenRanges
    o = open_ranges ss fs

    combinations-covered : All (Covered o) (combinations (map M fs))
    combinations-covered = all-combinations (each-images (λ i. (schema ss i).ranges) M (all-given (λ i. (every i).values) fs))

    combinations-size : length (combinations (map M fs)) ≤ product_bound ss fs
    combinations-size = combinations-bound M (λ i. (schema ss i).bound) (all-given (λ i. (every i).size) fs)

    relations-covered : RelationsCovered o M
    relations-covered = record { at = λ i. rw (ranges-at ss i) (every i).values }

    -- the scope of a combination, in where and in the select of a basic view
    where-covered : (m : Combination) → Covered o m → ScopeCovered o in_where (alone M m)
    where-covered m h = alone-covered o in_where refl M (λ _. relations-covered) m h

    basic-covered : (m : Combination) → Covered o m → ScopeCovered o in_basic (alone M m)
    basic-covered m h = alone-covered o in_basic refl M (λ e. absurd (true≢false (sym e))) m h

    -- where, at every combination
    where-clear : (w : Cond) → allowed_c in_where w ≡ true → within_c o w ≡ true → All (λ m. ClearC (alone M m) w) (combinations (map M fs))
    where-clear w a r = all_map (λ m h. clear-condition o in_where (alone M m) (where-covered m h) w a r) combinations-covered

    -- the scope of a group of whichever combinations are kept
    module _ (gs : List Place) {S : List Combination} (chosen : Chosen (combinations (map M fs)) S) (k : Row) (some-member : Any (λ m. k ≡ key_of gs m) S) where
      together-covered : ScopeCovered o (in_grouped gs) (together M gs S k)
      together-covered =
          let covered = all_from combinations-covered chosen.from in
          let same : Combination → Bool = λ m. row_test.same k (key_of gs m) in
          record {
            items = λ i c g. any-all covered some-member (λ m h e. rw (e, spread-cell gs m i c g) (covered-at o h i c));
            group = λ e. record {
              member = group-member gs S k some-member;
              size = omega (arith, length-keep same S, chosen.size, combinations-size);
              columns = all_keep same covered;
            };
            every-item = λ e. absurd (true≢false (sym e));
            relations = λ e. absurd (true≢false (sym e));
          }

  -- each value lies in its column's range
  view-values : (q : View) → same_width ss q ≡ true → aggregates_fit ss q ≡ true → All (Each Inside (view_schema ss q).ranges) (rows_of M q)
  view-values (View.basic fs w es) s a =
      let (b, c) = and_parts (allowed_c in_where w) (all (allowed_e in_basic) es) a in
      all-image (λ m. selected es (alone M m)) (λ m h. selected-inside (o fs) in_basic (alone M m) (basic-covered fs m h) es c)
      (all_keep (λ m. satisfies w (alone M m)) (combinations-covered fs))
  view-values (View.grouped fs w gs h es) s a =
      let S = kept M fs w in
      let chosen = keep-chosen (λ m. satisfies w (alone M m)) (combinations (map M fs)) in
      all-image (λ k. selected es (together M gs S k))
      (λ k m. selected-inside (o fs) (in_grouped gs) (together M gs S k) (together-covered fs gs chosen k m) es (group-fits w gs h es a).select)
      (all_keep (λ k. satisfies h (together M gs S k)) (key-members gs S))
  view-values (View.set SetOperation.union i j) s a =
      let e = dec-true (eqb-dec (length (schema ss i).ranges) (length (schema ss j).ranges)) s in
      all_append (all_map (λ v is. hulls-left (schema ss j).ranges e is) (every i).values) (all_map (λ v is. hulls-right (schema ss i).ranges e is) (every j).values)
  view-values (View.set SetOperation.intersection i j) s a = all-common row_test (M j) (every i).values

  pub view-bounds : (q : View) → same_width ss q ≡ true → aggregates_fit ss q ≡ true → InBounds (view_schema ss q) (rows_of M q)
  view-bounds q s a = record { size = view-size ss M q (all-given (λ i. (every i).size) (names q)); values = view-values q s a }

  -- 32 bits hold every result inside its expressions
  pub view-clear : (q : View) → aggregates_fit ss q ≡ true → ranges_fit ss q ≡ true → ViewClear M q
  view-clear (View.basic fs w es) a r =
      let (a₁, a₂) = and_parts (allowed_c in_where w) (all (allowed_e in_basic) es) a in
      let (r₁, r₂) = and_parts (within_c (o fs) w) (all (within_e (o fs)) es) r in
      record {
        condition = where-clear fs w a₁ r₁;
        select = all_map (λ m h. selected-clear (o fs) in_basic (alone M m) (basic-covered fs m h) es a₂ r₂) (combinations-covered fs);
      }
  view-clear (View.grouped fs w gs h es) a r =
      let f = group-fits w gs h es a in
      let (r₁, r') = and_parts (within_c (o fs) w) (within_c (o fs) h && all (within_e (o fs)) es) r in
      let (r₂, r₃) = and_parts (within_c (o fs) h) (all (within_e (o fs)) es) r' in
      record {
        condition = where-clear fs w f.condition r₁;
        having = λ {S} x. all_map (λ k m. clear-condition (o fs) (in_grouped gs) (together M gs S k) (together-covered fs gs x k m) h f.having r₂) (key-members gs S);
        select = λ {S} x. all_map (λ k m. selected-clear (o fs) (in_grouped gs) (together M gs S k) (together-covered fs gs x k m) es f.select r₃) (key-members gs S);
      }
  view-clear (View.set op i j) a r = tt
