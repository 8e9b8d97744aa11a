-- What the evaluation of one database gives. Assumes nothing: these are definitions.
use Rattle.std.specs.Prelude.{◌≡◌, ◌↔◌, ◌⊎◌, Bool, cond, List, [], ℕ, ◌+◌, ◌*◌, ◌≤◌, ◌<◌, ℤ, length, get_or}
use Rattle.meaning.specs.Syntax.{File, Database}
use Rattle.meaning.specs.Rows.{rows}
use Rattle.meaning.specs.Algebra.{MeaningOf}
use Rattle.meaning.specs.Bounds.{schemas}
use Rattle.meaning.specs.Valid.{Shaped}
use Rattle.meaning.specs.Cases.{Case}
use Rattle.meaning.specs.Decided.{is_case}
use Rattle.language.specs.Check.{Outcome}
use Rattle.language.specs.Legal.{table_at}
use Rattle.catalog.specs.FileIn.{Source, FileIn, goal_of}
use Rattle.catalog.specs.declared.plan.Goal.{Goal}
use Rattle.store.specs.Layout.{area, OnlyCells}
use Rattle.store.specs.Rows.{rows_in}
use Rattle.cases.specs.Relations.{columns_of}
use Rattle.cases.specs.Judgement.{ViewIn}

-- the tables of d stand in the work area
pub record TablesStand (F : File) (d : Database) (work : List ℤ) : Type 0 where
  pub table : (t : ℕ) → t < length F.tables
      → rows_in work t (length (table_at F.tables t).columns) (table_at F.tables t).rows ≡ get_or d t []

-- whether it is a case, and the rows of every relation
pub record Evaluated (F : File) (d : Database) (r : ℕ) (counts : List ℕ) (work : List ℤ) : Type 0 where
  pub case : r ≡ cond (is_case F F.goal d) 1 0
  pub relation : (i : ℕ) → i < length F.tables + length F.views → rows_in work i (columns_of (schemas F) i) (get_or counts i 0) ≡ rows F d i

-- the same by the algebra: the case of Definitions 1 to 4, and ⟨V⟩ of every relation
pub record ByAlgebra (F : File) (d : Database) (r : ℕ) (counts : List ℕ) (work : List ℤ) : Type 0 where
  pub case : (r ≡ 1) ↔ Case F d F.goal
  pub relation : (i : ℕ) → i < length F.tables + length F.views → MeaningOf F d i (rows_in work i (columns_of (schemas F) i) (get_or counts i 0))

-- of every file in memory, with its goal. Only cells of views change, and only the numbers of rows of relations
pub record EveryRelation (source : Source) (g : Goal) (counts : List ℕ) (work : List ℤ) (r : Bool) (counts' : List ℕ) (work' : List ℤ) : Type 0 where
  pub cells : OnlyCells (ViewIn source.outline) work work'
  pub size : length counts' ≡ length counts
  pub others : (i : ℕ) → source.outline.tables ≤ i → (ViewIn source.outline i → ⊥) → get_or counts' i 0 ≡ get_or counts i 0
  pub evaluated : (F : File) → FileIn F source → goal_of g ≡ F.goal → (d : Database) → Shaped F d → TablesStand F d work
      → area ≤ length work → 16 ≤ length counts → Evaluated F d (cond r 1 0) counts' work'

-- "A refusal returns its number and a line .. no buffer changes"
abbrev pub RefusedBy : ℕ → ℕ → List ℕ → List ℤ → ℕ → List ℕ → List ℤ → Type 0
RefusedBy n line counts work r counts' work' = (r ≡ n * 65536 + line) × (counts' ≡ counts) × (work' ≡ work)

-- the cells of views and the numbers of rows of relations are what changes; of every database whose tables stand in the work area, what they become
pub record EvaluatedOf (F : File) (counts : List ℕ) (work : List ℤ) (r : ℕ) (counts' : List ℕ) (work' : List ℤ) : Type 0 where
  pub cells : OnlyCells (λ i. (length F.tables ≤ i) × (i < length F.tables + length F.views)) work work'
  pub size : length counts' ≡ length counts
  pub others : (i : ℕ) → length F.tables + length F.views ≤ i → get_or counts' i 0 ≡ get_or counts i 0
  pub evaluated : (d : Database) → Shaped F d → TablesStand F d work → Evaluated F d r counts' work'

abbrev pub TriedText : Outcome → List ℕ → List ℤ → ℕ → List ℕ → List ℤ → Type 0
TriedText (Outcome.refused n line) counts work r counts' work' = RefusedBy n line counts work r counts' work'
TriedText (Outcome.accepted F) counts work r counts' work' = EvaluatedOf F counts work r counts' work'

-- "11", before the text is looked at, where a buffer is too short
pub record Tried (out : Outcome) (counts : List ℕ) (work : List ℤ) (r : ℕ) (counts' : List ℕ) (work' : List ℤ) : Type 0 where
  pub short : (length work < area) ⊎ (length counts < 16) → RefusedBy 11 0 counts work r counts' work'
  pub enough : area ≤ length work → 16 ≤ length counts → TriedText out counts work r counts' work'
