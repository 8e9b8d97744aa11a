-- What a legal file says of each of its relations. Assumes nothing.
use mathlib.Core.Path.{◌≡◌, refl, sym, ◌∙◌}
use mathlib.Core.List.{List, [], ◌∷◌, ◌++◌, map}
use mathlib.Core.Option.{some, none-ne-some}
use Prim.Native.Nat.{ℕ, zero, suc, ◌+◌, ◌-◌, ◌≤◌, ◌<◌}
use native.Mathlib.Nat.{add-zero}
use native.Mathlib.Omega.{arith}
use lib.ListN.{length, get_elem?, take, length-map, length-take}
use lib.Seq.{take_at, get_or-take}
use borrow.Author.Tests.{leb-true}
use Rattle.value.specs.Bag.{All}
use Rattle.meaning.specs.Lists.{stack}
use Rattle.meaning.specs.Syntax.{View, Table, File}
use Rattle.meaning.specs.Algebra.{query}
use Rattle.meaning.specs.Bounds.{Schema, no_schema, schema, schemas, table_schema, view_schema}
use Rattle.meaning.proofs.Elements.{all-image, all_append}
use Rattle.meaning.proofs.Sizes.{length-set_ranges}
use Rattle.meaning.proofs.Relations.{query-split}
use Rattle.meaning.proofs.Stacks.{length-snoc, stack-take, stack_at, length-stack}
use Rattle.language.specs.Legal.{Legal, LegalTable, LegalView, EveryView}
use Rattle.cases.specs.Relations.{Small}

-- a property of every view is one of each, over the schemas before it
every-at : {P : List Schema → View → Type 0} {qs : List View} {ss : List Schema} → EveryView P qs ss → (k : ℕ) (q : View) → get_elem? qs k ≡ some q
    → P (take (length ss + k) (stack view_schema qs ss)) q
every-at EveryView.none k q e = absurd (none-ne-some q e)
every-at {P} (EveryView.more {q = y} {qs} {ss} p r) zero q e =
    let b = view_schema ss y in
    let yq : y ≡ q = cc in
    let l : length ss ≤ length (ss ++ (b ∷ [])) = rw (length-snoc ss b) (omega arith) in
    rw (add-zero (length ss), stack-take view_schema qs (ss ++ (b ∷ [])) (length ss) l, take_at ss (b ∷ []) (length ss) refl, ← yq) p
every-at {P} (EveryView.more {q = y} {qs} {ss} p r) (suc k) q e =
    let b = view_schema ss y in
    let l : length (ss ++ (b ∷ [])) + k ≡ length ss + suc k = rw (length-snoc ss b) (omega arith) in
    rw l at (every-at r k q e)

-- ---- every relation has room in its stretch

schema-small : {ss : List Schema} → All Small ss → (i : ℕ) → Small (schema ss i)
schema-small All.nil i = record { bound = omega arith; columns = omega arith }
schema-small (All.cons p ps) zero = p
schema-small (All.cons p ps) (suc i) = schema-small ps i

view-small : {t : ℕ} {ss : List Schema} (q : View) → All Small ss → LegalView t ss q → Small (view_schema ss q)
view-small {ss = ss} (View.basic fs w es) s l = record {
  bound = leb-true (view_schema ss (View.basic fs w es)).bound 64 l.bound;
  columns = rw length-map l.fields.select.count.most;
}
view-small {ss = ss} (View.grouped fs w gs h es) s l = record {
  bound = leb-true (view_schema ss (View.grouped fs w gs h es)).bound 64 l.bound;
  columns = rw length-map l.fields.select.count.most;
}
view-small {ss = ss} (View.set op i j) s l = record {
  bound = leb-true (view_schema ss (View.set op i j)).bound 64 l.bound;
  columns = omega (arith, length-set_ranges op (schema ss i).ranges (schema ss j).ranges, (schema-small s i).columns);
}

views-small : {t : ℕ} {qs : List View} {ss : List Schema} → All Small ss → EveryView (LegalView t) qs ss → All Small (stack view_schema qs ss)
views-small s EveryView.none = s
views-small s (EveryView.more {q = q} p r) = views-small (all_append s (All.cons (view-small q s p) All.nil)) r

table-small : (t : Table) → LegalTable t → Small (table_schema t)
table-small t l = record { bound = omega (arith, l.rows.most); columns = rw length-map (omega (arith, l.count.most)) }

module _ {F : File} (L : Legal F) where
  pub relation-small : (i : ℕ) → Small (schema (schemas F) i)
  relation-small i = schema-small (views-small (all-image table_schema table-small L.tables) L.views) i

-- ---- the relations before a view

module _ {F : File} (L : Legal F) (v : ℕ) (q : View) (e : query (length F.tables) F v ≡ some q) where
  abbrev before : List Schema
  before = take v (schemas F)

  abbrev tables : List Schema
  tables = map table_schema F.tables

  place : length tables + (v - length F.tables) ≡ v
  place = let h = (query-split (length F.tables) F v q e).0 in rw length-map (omega arith)

  pub view-legal : LegalView (length F.tables) before q
  view-legal = rw place at (every-at L.views (v - length F.tables) q (query-split (length F.tables) F v q e).1)

  pub before-length : length before ≡ v
  before-length =
      let s = query-split (length F.tables) F v q e in
      length-take v (schemas F) ∙ omega (arith, s.2, length-stack view_schema F.views tables, length-map F.tables table_schema)

  pub before-schema : (i : ℕ) → i < v → schema before i ≡ schema (schemas F) i
  before-schema i h = get_or-take v (schemas F) i no_schema h

  pub own-schema : view_schema before q ≡ schema (schemas F) v
  own-schema = sym (rw place at (stack_at view_schema no_schema F.views tables (v - length F.tables) q (query-split (length F.tables) F v q e).1))
