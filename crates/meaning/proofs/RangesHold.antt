-- For a well-formed file and a database within its value ranges, every value of every relation lies in its column's range, every
-- relation has at most its bound of rows, and 32 bits hold every result inside every expression that is evaluated. Assumes nothing.
use Rattle.value.specs.Bag.{All}
use mathlib.Core.Path.{◌≡◌, fun_ext, subst}
use mathlib.Core.Bool.{Bool, true, ◌&&◌}
use mathlib.Core.List.{List, [], map}
use mathlib.Core.Option.{some}
use Prim.Native.Nat.{ℕ, ◌+◌, ◌-◌, ◌≤◌}
use native.Mathlib.Omega.{arith}
use lib.ListN.{length, get_elem?, take}
use Rattle.value.specs.Value.{Column}
use Rattle.value.proofs.Decides.{and_parts}
use Rattle.value.proofs.Values.{all_map}
use Rattle.range.specs.Ranges.{range_from}
use Rattle.range.specs.declared.Range.{Range}
use Rattle.range.proofs.Soundness.{column-inside}
use Rattle.meaning.specs.Lists.{Each, all, stack}
use Rattle.meaning.specs.Syntax.{View, Table, File, Row, Database}
use Rattle.meaning.specs.Rows.{rows_of, relation, rows}
use Rattle.meaning.specs.Algebra.{query, below}
use Rattle.meaning.specs.Valid.{InRange, Shaped}
use Rattle.meaning.specs.Bounds.{Schema, no_schema, schema, table_schema, view_schema, schemas, earlier, same_width, aggregates_fit, bounded, ranges_fit, ordered, every_view, goal_names_relation, well_formed}
use Rattle.meaning.specs.Clear.{ViewClear, InBounds, RangesHold}
use Rattle.meaning.proofs.Elements.{each_at, each-image}
use Rattle.meaning.proofs.DecidedLists.{each-length}
use Rattle.meaning.proofs.Relations.{query-split}
use Rattle.meaning.proofs.Stacks.{get_elem-lt, stack-before, stack-both, stacks-each, stacks-at}
use Rattle.meaning.proofs.ViewRanges.{view-bounds, view-clear}

-- ---- tables

table-bounds : (t : Table) (R : List Row) → InRange t R → InBounds (table_schema t) R
table-bounds t R h =
    let f : Column → Range = λ c. range_from c.lo c.hi in
    record { size = omega (arith, h.rows); values = all_map (λ r e. each-image f (λ c v w. column-inside w) e) h.values }

pub tables-bounds : {ts : List Table} {d : Database} → Each InRange ts d → Each InBounds (map table_schema ts) d
tables-bounds h = each-image table_schema table-bounds h

-- ---- relations before a view

-- a relation that is not there has no rows, so that each one that a view names lies in its bounds
pub relation-bounds : {ss : List Schema} {rs : List (List Row)} → Each InBounds ss rs → (i : ℕ) → InBounds (schema ss i) (relation rs i)
relation-bounds h i = each_at no_schema [] (record { size = omega arith; values = All.nil }) h i

-- ---- the file

abbrev view_rows : List (List Row) → View → List Row
view_rows rs q = rows_of (relation rs) q

-- the list of the relations before view k are the relations below it
pub relations-before : (F : File) (d : Database) (k : ℕ) → k ≤ length F.views
    → relation (stack (λ rs q. rows_of (relation rs) q) (take k F.views) d) ≡ below (length d + k) (rows F d)
relations-before F d k h = fun_ext (stack-before view_rows [] F.views d k h)

abbrev Clear : List (List Row) → View → Type 0
Clear rs q = ViewClear (relation rs) q

-- the rules that this rests on
abbrev rules : List Schema → View → Bool
rules ss q = same_width ss q && (aggregates_fit ss q && ranges_fit ss q)

view-step : (ss : List Schema) (rs : List (List Row)) (q : View) → Each InBounds ss rs → rules ss q ≡ true
    → InBounds (view_schema ss q) (view_rows rs q) × Clear rs q
view-step ss rs q h e =
    let (s, e') = and_parts (same_width ss q) (aggregates_fit ss q && ranges_fit ss q) e in
    let (a, r) = and_parts (aggregates_fit ss q) (ranges_fit ss q) e' in
    let n = relation-bounds h in
    (view-bounds ss (relation rs) n q s a, view-clear ss (relation rs) n q a r)

module _ (F : File) (d : Database) (shaped : Shaped F d)
    (width : every_view same_width F ≡ true) (aggregates : every_view aggregates_fit F ≡ true) (ranges : every_view ranges_fit F ≡ true) where
  every-rule : every_view rules F ≡ true
  every-rule =
      let ss = map table_schema F.tables in
      stack-both view_schema same_width (λ ss q. aggregates_fit ss q && ranges_fit ss q) F.views ss width
      (stack-both view_schema aggregates_fit ranges_fit F.views ss aggregates ranges)

  pub every-relation : (v : ℕ) → InBounds (schema (schemas F) v) (rows F d v)
  every-relation v = relation-bounds (stacks-each view_schema view_rows rules InBounds Clear view-step
      F.views (map table_schema F.tables) d every-rule (tables-bounds shaped)) v

  -- over the list of the relations before the view
  pub every-view : (k : ℕ) (q : View) → get_elem? F.views k ≡ some q
      → ViewClear (relation (stack (λ rs q. rows_of (relation rs) q) (take k F.views) d)) q
  every-view = stacks-at view_schema view_rows rules InBounds Clear view-step
      F.views (map table_schema F.tables) d every-rule (tables-bounds shaped)

  pub rules-hold : RangesHold F d
  rules-hold = record {
    relations = every-relation;
    views = λ v q e.
        let k = v - length F.tables in
        let (l, g, _) = query-split (length F.tables) F v q e in
        let h = get_elem-lt F.views k q g in
        let vk : length d + k ≡ v = omega (arith, each-length shaped) in
        subst (λ M. ViewClear M q) (rw vk at (relations-before F d k (omega arith))) (every-view k q g);
  }

pub ranges-hold : (F : File) (d : Database) → well_formed F ≡ true → Shaped F d → RangesHold F d
unfolding well_formed
ranges-hold F d e shaped =
    let (_, e₁) = and_parts (all ordered F.tables) _ e in
    let (_, e₂) = and_parts (every_view earlier F) _ e₁ in
    let (width, e₃) = and_parts (every_view same_width F) _ e₂ in
    let (aggregates, e₄) = and_parts (every_view aggregates_fit F) _ e₃ in
    let (_, e₅) = and_parts (every_view bounded F) _ e₄ in
    let (ranges, _) = and_parts (every_view ranges_fit F) (goal_names_relation F F.goal) e₅ in
    rules-hold F d shaped width aggregates ranges

-- of the query as the definitions of meaning name it
pub query-clear : (F : File) (d : Database) → Shaped F d → RangesHold F d
    → (v : ℕ) (q : View) → query (length d) F v ≡ some q → ViewClear (below v (rows F d)) q
query-clear F d shaped r v q e = r.views v q (rw (each-length shaped) at e)
