-- What is set up once for a file, before its candidates. Assumes nothing.
use mathlib.Core.Path.{◌≡◌, ◌∙◌}
use mathlib.Core.Bool.{Bool, true, false}
use mathlib.Core.List.{List}
use mathlib.Core.Option.{some}
use Prim.Native.Nat.{ℕ, ◌≤◌, ◌<◌}
use native.Mathlib.Omega.{arith}
use lib.ListN.{length, get_or, get_or-replicate}
use Rattle.value.specs.Bag.{All}
use Rattle.value.proofs.Decides.{by-test}
use Rattle.value.proofs.Values.{all_map}
use Rattle.meaning.specs.Syntax.{View, Goal, File, Database}
use Rattle.meaning.specs.Algebra.{query}
use Rattle.meaning.specs.Bounds.{names}
use Rattle.meaning.proofs.Relations.{query-split}
use Rattle.language.specs.Legal.{Legal, table_at}
use Rattle.catalog.specs.FileIn.{Source, FileIn, TablesCounted}
use Rattle.catalog.specs.declared.outline.Outline.{Outline}
use Rattle.catalog.proofs.FileLaws.{rows_are}
use Rattle.store.specs.Rows.{rows_in}
use Rattle.store.proofs.RowLaws.{only-rows}
use Rattle.cases.specs.TablesIn.{TablesIn}
use Rattle.cases.specs.Needs.{Flag, flags_of, Needed, Asked, Asks, all_needs, GoalIn, Covers}
use Rattle.cases.specs.Judgement.{Memory, OnlyViews}
use Rattle.cases.proofs.ViewLaws.{names-before}
use Rattle.cases.proofs.FileLaws.{view-legal, before-length}

-- ---- numbers of rows

pub counts-are : {F : File} {source : Source} {counts counts' : List ℕ} → FileIn F source
    → TablesCounted source.relations source.outline.tables counts counts' → 16 ≤ length counts → (t : ℕ) → t < length F.tables → get_or counts' t 0 ≡ (table_at F.tables t).rows
counts-are {F} G c s t h = c.counted t (omega (arith, G.tables)) (omega (arith, G.legal.relation_count)) ∙ rows_are G t h

-- a table is no view
module _ {o : Outline} {memory memory' : Memory} (k : OnlyViews o memory memory') (t : ℕ) (h : t < o.tables) where
  pub table_stays : (w n : ℕ) → rows_in memory'.work t w n ≡ rows_in memory.work t w n
  table_stays w n = only-rows k.cells t w n (λ v. omega (arith, v.0))

  pub count-stays : get_or memory'.counts t 0 ≡ get_or memory.counts t 0
  count-stays = k.counts t (λ v. omega (arith, v.0))

-- the tables stay where they stand
pub tables-kept : {F : File} {d : Database} {o : Outline} {memory memory' : Memory} → o.tables ≡ length F.tables → OnlyViews o memory memory'
    → TablesIn F d memory.counts memory.work → TablesIn F d memory'.counts memory'.work
tables-kept {F} {o = o} {memory} n k T = record {
  table = λ t h. let l : t < o.tables = omega arith in
      rw (count-stays k t l) (table_stays k t l (length (table_at F.tables t).columns) (get_or memory.counts t 0) ∙ T.table t h);
}

-- ---- every relation

all-flag : (asked : Bool) (i : ℕ) → i < 16 → Flag (flags_of asked all_needs) i
all-flag asked i h = by-test asked
    (λ t. rw t (record { on = get_or-replicate 16 i true false h }))
    (λ t. rw t (record { on = get_or-replicate 16 i true false h }))

-- the rows of a relation are needed then
pub all-needed : (i : ℕ) → i < 16 → Needed all_needs i
all-needed i h = all-flag false i h

-- flags of all relations cover what a goal depends on
pub all-covers : {F : File} → Legal F → (g : Goal) → GoalIn F g → Covers F g all_needs
all-covers {F} L g W = record {
  view = W;
  goal = all-flag g.negative g.view (omega (arith, W.before, L.relation_count));
  rows = λ v q e f. named false v q e;
  signs = λ v q e f. asks q (named false v q e) (named true v q e);
}
  where
    named : (asked : Bool) (v : ℕ) (q : View) → query (length F.tables) F v ≡ some q → All (Flag (flags_of asked all_needs)) (names q)
    named asked v q e =
        let last = (query-split (length F.tables) F v q e).2 in
        all_map (λ i h. all-flag asked i (omega (arith, before-length L v q e, L.relation_count))) (names-before q (view-legal L v q e))

    asks : (q : View) → All (Needed all_needs) (names q) → All (Asked all_needs) (names q) → Asks all_needs q
    asks (View.basic fs w es) h k = h
    asks (View.grouped fs w gs c es) h k = h
    asks (View.set op i j) h (All.cons a (All.cons b All.nil)) = (a, b)
