-- A candidate of a text before the evaluator, and what the evaluator leaves. The fields of `Prepared` are what the functions called
-- promise, in the order of the calls; nothing else is asked of plan, flags and buffers. Assumes nothing: these are definitions.
use Rattle.std.specs.Prelude.{◌≡◌, Ok, Bool, false, List, ℕ, ◌+◌, ◌<◌, length, get_or}
use Rattle.meaning.specs.Syntax.{File, Database}
use Rattle.meaning.specs.Algebra.{MeaningOf}
use Rattle.meaning.specs.Bounds.{schemas}
use Rattle.language.specs.FileOf.{file_of}
use Rattle.checker.specs.Plans.{Plans}
use Rattle.catalog.specs.FileIn.{source_of}
use Rattle.catalog.specs.declared.plan.Plan.{Plan}
use Rattle.store.specs.Rows.{rows_in}
use Rattle.cases.specs.declared.needs.Needs.{Needs}
use Rattle.cases.specs.Needs.{Needed, NeedsOf}
use Rattle.cases.specs.Relations.{columns_of}
use Rattle.cases.specs.Judgement.{Memory, Evaluates, IsCase}
use Rattle.look.specs.Scans.{At}

-- candidate k of the file F of a text
pub record Prepared (text : List ℕ) (F : File) (k : ℕ) : Type 0 where
  pub plan : Plan
  -- the relations whose rows are worked out, and those of which it is asked whether they are negative
  pub needs : Needs
  -- numbers of rows, signs and rows, where those of the tables stand
  pub memory : Memory
  -- plan::check
  pub checked : Plans (file_of text) (Ok plan)
  -- needs::needs_of
  pub flagged : NeedsOf (source_of plan) plan.goal needs
  -- outline::count_tables and moves::put_candidate; of a later candidate, judgement::is_case of the one before and moves::move_to
  pub stands : At F memory k

module _ {text : List ℕ} {F : File} {k : ℕ} (P : Prepared text F k) where
  -- judgement::evaluate leaves this memory
  abbrev pub Evaluated : Memory → Type 0
  Evaluated memory' = Evaluates (source_of P.plan) P.needs P.memory memory'

  -- judgement::is_case answers r, and leaves this memory
  abbrev pub Judged : Bool → Memory → Type 0
  Judged r memory' = IsCase (source_of P.plan) P.needs P.plan.goal P.memory r memory'

-- "Each view's rows, counted as a bag, are those of the Extended Relational Algebra": of every relation that is flagged, the goal's among
-- them if it is positive, the rows that stand in the work area are ⟨V⟩
pub record RowsMean (F : File) (d : Database) (needs : Needs) (memory : Memory) : Type 0 where
  pub relation : (i : ℕ) → i < length F.tables + length F.views → Needed needs i
      → MeaningOf F d i (rows_in memory.work i (columns_of (schemas F) i) (get_or memory.counts i 0))
  pub goal : F.goal.negative ≡ false → Needed needs F.goal.view
