-- The range of a column in the catalog, and grouping columns in the frame. Assumes nothing.
use Rattle.std.specs.Prelude.{Some}
use mathlib.Core.Path.{◌≡◌, refl, sym, ap, ap₂, ◌∙◌}
use mathlib.Core.Bool.{Bool, true, false, ◌&&◌, ◌||◌}
use mathlib.Core.List.{List, []}
use Prim.Native.Nat.{ℕ, zero, suc, ◌+◌, ◌*◌, ◌-◌, ◌≤◌, ◌<◌, min}
use native.Mathlib.Omega.{arith}
use lib.Dec.{eqb, leb}
use lib.IntN.{pos}
use lib.ListN.{length, get_or, get_or-eq_default, length-map}
use borrow.Author.Tests.{leb-true, leb-false}
use mir.Syntax.{w32}
use mir.Val.{SFits}
use Rattle.value.proofs.Decides.{by-test}
use Rattle.range.specs.Ranges.{ranged, constant_of}
use Rattle.range.specs.declared.Range.{Range}
use Rattle.range.proofs.Bits32.{ranged-fits}
use Rattle.meaning.specs.Syntax.{Place}
use Rattle.meaning.specs.Bounds.{any_column, grouping_column}
use Rattle.meaning.proofs.ListSteps.{map_at}
use Rattle.catalog.specs.Relations.{ranges_in, range_at, items_in}
use Rattle.bounds.specs.Walk.{places_from, item_range, permitted_in, permitted_of, is_grouped, is_where}
use Rattle.bounds.specs.declared.Part.{Part}
use Rattle.bounds.specs.declared.Part.TheVariants.{Where, Plain, Grouped}
use Rattle.bounds.specs.declared.Rule.{Rule}
use Rattle.catalog.specs.declared.relation.Relation.{Relation}

-- ---- columns

module _ (relations : List Relation) (items : List ℕ) (i c : ℕ) where
  abbrev Answers : Range → Type 0
  Answers r = Some r ≡ ranged (item_range relations items i c)

  pub no_item : length items ≤ i → Answers (constant_of (pos 0))
  unfolding item_range ranged
  no_item h =
      let k : length (items_in relations items) ≤ i = rw (length-map items (ranges_in relations)) h in
      rw (get_or-eq_default (items_in relations items) [] k)

  pub some_item : i < length items → {r : Range} → SFits w32 r.lo → SFits w32 r.hi → r ≡ range_at relations (get_or items i 0) c → Answers r
  unfolding item_range
  some_item h {r} l u e =
      let there = ap (λ (rs : List Range). get_or rs c (constant_of (pos 0))) (map_at (ranges_in relations) items i 0 [] h) in
      sym (ranged-fits r l u) ∙ ap (λ (q : Range). ranged q) (e ∙ sym there)

-- ---- grouping columns

module _ (frame : List ℕ) where
  -- past the end every byte is 0
  past_end : (n p q : ℕ) → length frame ≤ p → length frame ≤ q → places_from frame p n ≡ places_from frame q n
  unfolding places_from
  past_end zero p q h k = refl
  past_end (suc n) p q h k =
      rw (
        get_or-eq_default frame 0 {n = p} h,
        get_or-eq_default frame 0 {n = p + 1} (omega arith),
        get_or-eq_default frame 0 {n = q} k,
        get_or-eq_default frame 0 {n = q + 1} (omega arith),
        past_end n (p + 2) (q + 2) (omega arith) (omega arith),
      )

  module _ (i c : ℕ) where
    pub past-grouping : {r : Bool} (n p : ℕ) → r ≡ grouping_column (places_from frame (min p (length frame)) n) i c
        → r ≡ grouping_column (places_from frame p n) i c
    past-grouping n p e = by-test (leb p (length frame))
        (λ t. let h : min p (length frame) ≡ p = omega (arith, leb-true p (length frame) t) in rw h at e)
        (λ t. let l : length frame < p = leb-false p (length frame) t in
        e ∙ ap (λ (gs : List Place). grouping_column gs i c) (past_end n (min p (length frame)) p (omega arith) (omega arith)))

    -- whether the column at a position is the one that is looked for
    abbrev same_at : ℕ → Bool
    same_at at = eqb (get_or frame at 0) i && eqb (get_or frame (at + 1) 0) c

    turn : (at left : ℕ) → 0 < left
        → grouping_column (places_from frame at left) i c ≡ (same_at at || grouping_column (places_from frame (at + 2) (left - 1)) i c)
    unfolding places_from
    turn at zero h = absurd (omega arith)
    turn at (suc n) h =
        let k : n ≡ suc n - 1 = omega arith in
        ap (λ (m : ℕ). same_at at || grouping_column (places_from frame (at + 2) m) i c) k

    -- none of the first k columns is the one: what is left decides
    pub record Seeking (places count k : ℕ) : Type 0 where
      pub same : grouping_column (places_from frame places count) i c ≡ grouping_column (places_from frame (places + 2 * k) (count - k)) i c

    pub none_passed : {places count : ℕ} → Seeking places count 0
    none_passed {places} {count} =
        let p : places ≡ places + 2 * 0 = omega arith in
        let n : count ≡ count - 0 = omega arith in
        record { same = ap₂ (λ (a m : ℕ). grouping_column (places_from frame a m) i c) p n }

    module _ {places count k : ℕ} (s : Seeking places count k) where
      pub seek_found : k < count → same_at (places + 2 * k) ≡ true → true ≡ grouping_column (places_from frame places count) i c
      seek_found h e = sym (s.same ∙ turn (places + 2 * k) (count - k) (omega arith) ∙ rw e)

      pub seek-on : k < count → same_at (places + 2 * k) ≡ false → Seeking places count (k + 1)
      seek-on h e =
          let p : places + 2 * k + 2 ≡ places + 2 * (k + 1) = omega arith in
          let n : count - k - 1 ≡ count - (k + 1) = omega arith in
          let t : grouping_column (places_from frame (places + 2 * k) (count - k)) i c ≡ grouping_column (places_from frame (places + 2 * k + 2) (count - k - 1)) i c =
          turn (places + 2 * k) (count - k) (omega arith) ∙ rw e in
          record { same = s.same ∙ t ∙ ap₂ (λ (a m : ℕ). grouping_column (places_from frame a m) i c) p n }

      pub seek-none : count ≤ k → false ≡ grouping_column (places_from frame places count) i c
      unfolding places_from
      seek-none h = let z : count - k ≡ 0 = omega arith in sym (s.same ∙ rw z)

-- which columns may stand outside 07, where 07 may stand, and where 17
module _ (frame : List ℕ) (rule : Rule) where
  pub columns-grouping : {places count : ℕ} → rule.part ≡ Grouped places count → (permitted_of frame rule).columns ≡ grouping_column (places_from frame places count)
  unfolding permitted_of
  columns-grouping e = rw e

  pub columns-where : rule.part ≡ Where → (permitted_of frame rule).columns ≡ any_column
  unfolding permitted_of
  columns-where e = rw e

  pub columns-plain : rule.part ≡ Plain → (permitted_of frame rule).columns ≡ any_column
  unfolding permitted_of
  columns-plain e = rw e

  pub aggregates-are : (permitted_of frame rule).aggregates ≡ is_grouped rule.part
  unfolding permitted_of
  aggregates-are = go rule.part
    where
      go : (p : Part) → (permitted_in frame p).aggregates ≡ is_grouped p
      go Where = refl
      go Plain = refl
      go (Grouped places count) = refl

  pub exists-are : (permitted_of frame rule).exists ≡ is_where rule.part
  unfolding permitted_of
  exists-are = go rule.part
    where
      go : (p : Part) → (permitted_in frame p).exists ≡ is_where p
      go Where = refl
      go Plain = refl
      go (Grouped places count) = refl
