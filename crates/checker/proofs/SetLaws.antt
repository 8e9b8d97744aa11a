-- The relations with a union or an intersection stand for the draft with it. Assumes nothing.
use mathlib.Core.Path.{◌≡◌, refl, sym, ap, ap₂, ◌∙◌}
use mathlib.Core.List.{List, [], ◌∷◌}
use Prim.Native.Nat.{ℕ, zero, suc, ◌≤◌, ◌<◌, min}
use native.Mathlib.Omega.{arith}
use lib.IntN.{ℤ}
use lib.ListN.{length, get_or, set}
use lib.Signed.{le_z}
use Rattle.value.specs.Integer.{min_z, max_z}
use Rattle.value.proofs.Decides.{by-test}
use Rattle.range.specs.declared.Range.{Range}
use Rattle.range.specs.Ranges.{hull_of}
use Rattle.meaning.specs.Syntax.{SetOperation, View}
use Rattle.meaning.specs.Bounds.{Schema, schema, hulls, set_bound, set_ranges, view_schema}
use Rattle.meaning.proofs.Sizes.{length-hulls}
use Rattle.catalog.specs.Relations.{no_range, relation_at, width_at, ranges_in, ranges_of}
use Rattle.catalog.specs.declared.relation.Relation.{Relation}
use Rattle.language.specs.Draft.{Draft, Item, added, relation_count, schemas_of}
use Rattle.checker.specs.Catalogued.{Catalogued}
use Rattle.checker.specs.Entries.{hull_at, joined_with, SetOf}
use Rattle.catalog.proofs.RelationLaws.{length-ranges}
use Rattle.checker.proofs.EntryLaws.{view-entered, ranges-told}
use Rattle.checker.proofs.FixedLaws.{bound-known}

-- ---- hulls

hulls-at : (as' bs : List Range) (c : ℕ) → c < length as' → c < length bs → get_or (hulls as' bs) c no_range ≡ hull_of (get_or as' c no_range) (get_or bs c no_range)
hulls-at [] bs c h k = absurd (omega arith)
hulls-at (a ∷ as') [] c h k = absurd (omega arith)
hulls-at (a ∷ as') (b ∷ bs) zero h k = refl
hulls-at (a ∷ as') (b ∷ bs) (suc c) h k = hulls-at as' bs c (omega arith) (omega arith)

min_self : (z : ℤ) → min_z z z ≡ z
unfolding min_z
min_self z = by-test (le_z z z) (λ e. rw e) (λ e. rw e)

max_self : (z : ℤ) → max_z z z ≡ z
unfolding max_z
max_self z = by-test (le_z z z) (λ e. rw e) (λ e. rw e)

-- the hull of a range with itself is that range
hull-self : (x : Range) → hull_of x x ≡ x
hull-self x = ap₂ (λ l h. record { lo = l; hi = h }) (min_self x.lo) (max_self x.hi)

hulls-self : (as' : List Range) → hulls as' as' ≡ as'
hulls-self [] = refl
hulls-self (a ∷ as') = ap₂ ◌∷◌ (hull-self a) (hulls-self as')

-- an intersection's ranges are the hulls of the left's with themselves
set-hulls : (op : SetOperation) (rs : ℕ → List Range) (i j : ℕ) → set_ranges op (rs i) (rs j) ≡ hulls (rs i) (rs (joined_with op i j))
set-hulls SetOperation.union rs i j = refl
set-hulls SetOperation.intersection rs i j = sym (hulls-self (rs i))

-- ---- the relation of a set view

module _ {d : Draft} {rs : List Relation} (c : Catalogued d rs) where
  ranges-are : (i : ℕ) → (schema (schemas_of d) i).ranges ≡ ranges_in rs i
  ranges-are i = ap (λ (s : Schema). s.ranges) (sym (c.schemas i))

pub set-added : (op : SetOperation) (left right r : ℕ) (x : Relation) (rs : List Relation) → SetOf op left right rs x → (d : Draft) → Catalogued d rs
    → r ≡ relation_count d → r < 16 → left < relation_count d → right < relation_count d
    → (view_schema (schemas_of d) (View.set op left right)).bound ≤ 64
    → Catalogued (added d (Item.view (View.set op left right))) (set rs r x)
unfolding hull_at
set-added op left right r x rs h d c e z l k m =
    let other = joined_with op left right in
    let L = ranges_in rs left in
    let O = ranges_in rs other in
    let w : x.width ≡ min (width_at rs left) (width_at rs other) = h.width in
    let few : x.width ≤ 8 = omega (arith, w, c.widths left) in
    let lw : length L ≡ width_at rs left = length-ranges (relation_at rs left) in
    let ow : length O ≡ width_at rs other = length-ranges (relation_at rs other) in
    let n : length (hulls L O) ≡ x.width = omega (arith, w, lw, ow, length-hulls L O) in
    let bounds : set_bound op (schema (schemas_of d) left).bound (schema (schemas_of d) right).bound ≡ x.bound =
    omega (arith, h.bound, ap₂ (set_bound op) (bound-known c left) (bound-known c right)) in
    let ranges : ranges_of x ≡ hulls L O = ranges-told x (hull_at rs left other) h.ranges few (hulls L O) n
    (λ i q. sym (hulls-at L O i (omega (arith, w, lw, ow)) (omega (arith, w, lw, ow)))) in
    let hull : set_ranges op (schema (schemas_of d) left).ranges (schema (schemas_of d) right).ranges ≡ hulls L O =
    ap₂ (set_ranges op) (ranges-are c left) (ranges-are c right) ∙ set-hulls op (ranges_in rs) left right in
    view-entered d (View.set op left right) r x rs c e z few
    (ap₂ (λ a xs. record { bound = a; ranges = xs }) bounds (hull ∙ sym ranges))
