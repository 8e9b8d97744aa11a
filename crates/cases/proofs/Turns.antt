-- The views of a file one after the other: what one turn adds to what is known. Assumes nothing.
use mathlib.Core.Path.{◌≡◌, sym, ap, subst, ◌∙◌}
use mathlib.Core.Logic.{⊎_elim}
use mathlib.Core.Bool.{Bool, cond}
use mathlib.Core.List.{List}
use mathlib.Core.Option.{some}
use Prim.Native.Nat.{ℕ, suc, ◌+◌, ◌-◌, ◌≤◌, ◌<◌}
use native.Mathlib.Nat.{eq-or-lt_of_le, le_of_suc-le-suc}
use native.Mathlib.Omega.{arith}
use lib.IntN.{ℤ}
use lib.ListN.{length, get_or, take}
use borrow.Author.Tests.{lt-ltb, le-ltb}
use Rattle.value.specs.Bag.{All}
use Rattle.value.proofs.Values.{all_map}
use Rattle.meaning.specs.Syntax.{View, Row, Goal, File, Database}
use Rattle.meaning.specs.Rows.{rows}
use Rattle.meaning.specs.Algebra.{query, below}
use Rattle.meaning.specs.Bounds.{schema, schemas, names}
use Rattle.meaning.specs.Valid.{Shaped}
use Rattle.meaning.specs.Decided.{negative}
use Rattle.meaning.specs.Clear.{RangesHold}
use Rattle.meaning.proofs.Elements.{all_both}
use Rattle.meaning.proofs.DecidedLists.{each-length}
use Rattle.meaning.proofs.DecidedCases.{Stacked, negative-view}
use Rattle.meaning.proofs.Relations.{rows-view}
use Rattle.meaning.proofs.RangesHold.{ranges-hold, query-clear}
use Rattle.meaning.proofs.Stacks.{get_elem-some}
use Rattle.language.proofs.LegalAccepted.{legal-well_formed}
use Rattle.language.specs.Legal.{Legal}
use Rattle.language.specs.Written.{view_bytes}
use Rattle.catalog.specs.Relations.{width_at}
use Rattle.catalog.specs.Frames.{frame_in}
use Rattle.catalog.specs.FileIn.{Source, FileLaid}
use Rattle.catalog.specs.declared.relation.Relation.{Relation}
use Rattle.store.specs.Layout.{area}
use Rattle.store.specs.Rows.{rows_in}
use Rattle.views.proofs.Copying.{apart-rows}
use Rattle.cases.specs.declared.needs.Needs.{Needs}
use Rattle.cases.specs.Needs.{Needed, Asked, Asks, Covers}
use Rattle.cases.specs.Relations.{columns_of, OperandsIn, SignsIn}
use Rattle.cases.specs.Judgement.{Memory, memory_from, SignNoted, RowsNoted, Known}
use Rattle.cases.proofs.ViewLaws.{names-before}
use Rattle.cases.proofs.SignLaws.{operands-kept}
use Rattle.cases.proofs.FileLaws.{relation-small, view-legal, before-length, before-schema, own-schema}

-- relation v, behind the tables, is a view
pub view-there : (F : File) (v : ℕ) → length F.tables ≤ v → v < length F.tables + length F.views → (q : View) × (query (length F.tables) F v ≡ some q)
view-there F v h l =
    let n = length F.tables in
    let (q, e) = get_elem-some F.views (v - n) (omega arith) in
    (q, rw (le-ltb v n h) e)

module _ {F : File} {g : Goal} {d : Database} {source : Source} {needs : Needs} (G : FileLaid F source) (C : Covers F g needs) (shaped : Shaped F d) where
  abbrev L : Legal F
  L = G.legal

  abbrev relations : List Relation
  relations = source.relations

  abbrev n : ℕ
  n = length F.tables

  abbrev M : ℕ → ℕ → List Row
  M v = below v (rows F d)

  abbrev neg : ℕ → Bool
  neg i = negative F d (suc i) i

  in_order : Stacked (length d) F
  in_order = subst (λ k. Stacked k F) (sym (each-length shaped))
      (record { earlier = λ v q e. all_map (λ i h. omega (arith, before-length L v q e)) (names-before q (view-legal L v q e)) })

  holds : RangesHold F d
  holds = ranges-hold F d (legal-well_formed F L) shaped

  in-d : (v : ℕ) {q : View} → query n F v ≡ some q → query (length d) F v ≡ some q
  in-d v {q} e = subst (λ k. query k F v ≡ some q) (sym (each-length shaped)) e

  -- the relations that a view names, where their rows are needed
  operands-in : (v : ℕ) (q : View) (e : query n F v ≡ some q) → v < n + length F.views → {memory : Memory} → Known F d needs memory v
      → area ≤ length memory.work → All (Needed needs) (names q) → OperandsIn n (take v (schemas F)) (M v) memory.counts memory.work v q
  operands-in v q e l K whole flags =
      let legal = view-legal L v q e in
      let place = before-length L v q e in
      let below-v : All (λ i. i < v) (names q) = all_map (λ i h. omega arith) (names-before q legal) in
      let same : (i : ℕ) → i < v → schema (take v (schemas F)) i ≡ schema (schemas F) i = before-schema L v q e in
      record {
        legal = legal;
        place = place;
        clear = query-clear F d shaped holds v q (in-d v e);
        rows = all_map (λ i h. rw (same i h.0, lt-ltb i v h.0) (K.rows-known i h.0 h.1)) (all_both below-v flags);
        bounds = all_map (λ i h. rw (same i h, lt-ltb i v h) (holds.relations i).size) below-v;
        small = all_map (λ i h. rw (same i h) (relation-small L i)) below-v;
        relation = omega (arith, L.relation_count);
        whole = whole;
      }

  -- what tells whether a view is negative, where it is asked
  signs-in : (v : ℕ) (q : View) (e : query n F v ≡ some q) → v < n + length F.views → {memory : Memory} → Known F d needs memory v
      → area ≤ length memory.work → Asks needs q → SignsIn n (take v (schemas F)) (M v) neg memory.counts memory.signs memory.work v q
  signs-in v (View.basic fs w es) e l K whole flags = operands-in v (View.basic fs w es) e l K whole flags
  signs-in v (View.grouped fs w gs h es) e l K whole flags = operands-in v (View.grouped fs w gs h es) e l K whole flags
  signs-in v (View.set op i j) e l K whole (fi, fj) =
      let legal = (view-legal L v (View.set op i j) e).fields in
      let place = before-length L v (View.set op i j) e in (
        record { told = K.signs-known i legal.left.behind (omega (arith, legal.left.before)) fi },
        record { told = K.signs-known j legal.right.behind (omega (arith, legal.right.before)) fj },
      )

  -- ---- one turn

  module _ (v : ℕ) {memory : Memory} (K : Known F d needs memory v) (whole : area ≤ length memory.work) (counts-size : 16 ≤ length memory.counts)
      (signs-size : 16 ≤ length memory.signs) (first : n ≤ v) (last : v < n + length F.views) {frame : List ℕ} (here : frame ≡ frame_in source.bytes relations v)
      {signs' counts' : List ℕ} {work₁ work₂ : List ℤ} (S : SignNoted frame needs memory v signs' work₁)
      (R : RowsNoted frame relations needs memory.counts work₁ v counts' work₂) where
    small : v < 16
    small = omega (arith, L.relation_count)

    own-frame : (q : View) → query n F v ≡ some q → frame ≡ view_bytes q
    own-frame q e = here ∙ G.views v q e

    own_sign : Asked needs v → get_or signs' v 0 ≡ cond (neg v) 1 0
    own_sign f =
        let (q, e) = view-there F v first last in
        let (r, T, noted) = S.noted f (omega (arith, small, signs-size)) in
        let s = signs-in v q e last K whole (C.signs v q e f) in
        noted ∙ ap (λ b. cond b 1 0) (T.refutes q (own-frame q e) n (take v (schemas F)) (M v) neg s ∙ sym (negative-view F d in_order v q (in-d v e)))

    own-rows : Needed needs v → rows_in work₂ v (columns_of (schemas F) v) (get_or counts' v 0) ≡ rows F d v
    own-rows f =
        let (q, e) = view-there F v first last in
        let s = operands-kept q S.apart (operands-in v q e last K whole (C.rows v q e f)) in
        let widths : (i : ℕ) → i < v → width_at relations i ≡ columns_of (take v (schemas F)) i =
        λ i h. G.widths i ∙ sym (ap (λ t. length t.ranges) (before-schema L v q e i h)) in
        ap (λ t. rows_in work₂ v (length t.ranges) (get_or counts' v 0)) (sym (own-schema L v q e))
        ∙ (R.noted f (omega (arith, small, counts-size))).rows q (own-frame q e) s widths ∙ sym (rows-view F d v q (in-d v e))

    rows-kept : (i w k : ℕ) → (i ≡ v → ⊥) → rows_in work₂ i w k ≡ rows_in memory.work i w k
    rows-kept i w k h = apart-rows R.apart i w k h ∙ apart-rows S.apart i w k h

    pub turn-known : Known F d needs (memory_from counts' signs' work₂) (suc v)
    turn-known = record {
      rows-known = λ i h f. ⊎_elim (λ (e : i ≡ v). subst (λ j. rows_in work₂ j (columns_of (schemas F) j) (get_or counts' j 0) ≡ rows F d j) (sym e) (own-rows (subst (Needed needs) e f)))
          (λ (l : i < v). let other : i ≡ v → ⊥ = λ e. omega arith in
          rw (R.others i other) (rows-kept i (columns_of (schemas F) i) (get_or memory.counts i 0) other ∙ K.rows-known i l f))
          (eq-or-lt_of_le (le_of_suc-le-suc h));
      signs-known = λ i t h f. ⊎_elim (λ (e : i ≡ v). subst (λ j. get_or signs' j 0 ≡ cond (neg j) 1 0) (sym e) (own_sign (subst (Asked needs) e f)))
          (λ (l : i < v). S.others i (λ e. omega arith) ∙ K.signs-known i t l f)
          (eq-or-lt_of_le (le_of_suc-le-suc h));
    }
