-- The views of a file one after the other, and whether a database is a case. Assumes nothing: these are definitions.
use Rattle.std.specs.Prelude.{◌≡◌, Bool, true, false, ◌&&◌, cond, List, ℕ, suc, ◌+◌, ◌≤◌, ◌<◌, eqb, ℤ, length, get_or}
use Rattle.meaning.specs.Lists.{is_pos}
use Rattle.meaning.specs.Syntax.{Goal, File, Database}
use Rattle.meaning.specs.Rows.{rows}
use Rattle.meaning.specs.Bounds.{schemas}
use Rattle.meaning.specs.Valid.{Shaped}
use Rattle.meaning.specs.Decided.{negative, is_case}
use Rattle.catalog.specs.FileIn.{Source, FileLaid, goal_of}
use Rattle.catalog.specs.declared.outline.Outline.{Outline}
use Rattle.catalog.specs.declared.plan.Goal.{Goal as GoalHere}
use Rattle.catalog.specs.declared.relation.Relation.{Relation}
use Rattle.store.specs.Layout.{area, OnlyCells}
use Rattle.store.specs.Rows.{rows_in}
use Rattle.views.specs.Copies.{Apart}
use Rattle.cases.specs.TablesIn.{TablesIn}
use Rattle.cases.specs.Needs.{Needed, Asked, Covers}
use Rattle.cases.specs.declared.needs.Needs.{Needs}
use Rattle.cases.specs.Validity.{valid_in}
use Rattle.cases.specs.Relations.{columns_of, ViewRows, IsRefuted}

-- what an evaluation reads and writes: numbers of rows; signs, 1 for a negative view, else 0; rows
pub record Memory : Type 0 where
  pub counts : List ℕ
  pub signs : List ℕ
  pub work : List ℤ

abbrev pub memory_from : List ℕ → List ℕ → List ℤ → Memory
memory_from counts signs work = record { counts = counts; signs = signs; work = work }

-- ---- one view

-- where its sign is asked it is noted; what belongs to other relations stays
pub record SignNoted (frame : List ℕ) (needs : Needs) (memory : Memory) (v : ℕ) (signs' : List ℕ) (work' : List ℤ) : Type 0 where
  pub apart : Apart v memory.work work'
  pub size : length signs' ≡ length memory.signs
  pub others : (i : ℕ) → (i ≡ v → ⊥) → get_or signs' i 0 ≡ get_or memory.signs i 0
  pub noted : Asked needs v → v < length memory.signs
      → (r : Bool) × IsRefuted frame memory.counts memory.signs memory.work v r work' × (get_or signs' v 0 ≡ cond r 1 0)

-- where its rows are needed they are worked out; what belongs to other relations stays
pub record RowsNoted (frame : List ℕ) (relations : List Relation) (needs : Needs) (counts : List ℕ) (work : List ℤ) (v : ℕ) (counts' : List ℕ) (work' : List ℤ) : Type 0 where
  pub apart : Apart v work work'
  pub size : length counts' ≡ length counts
  pub others : (i : ℕ) → (i ≡ v → ⊥) → get_or counts' i 0 ≡ get_or counts i 0
  pub noted : Needed needs v → v < length counts → ViewRows frame relations counts work v (get_or counts' v 0) work'

-- ---- all views

-- below relation v, needed relations have their rows in the work area, and the signs of views that are asked are told
pub record Known (F : File) (d : Database) (needs : Needs) (memory : Memory) (v : ℕ) : Type 0 where
  pub rows-known : (i : ℕ) → i < v → Needed needs i → rows_in memory.work i (columns_of (schemas F) i) (get_or memory.counts i 0) ≡ rows F d i
  pub signs-known : (i : ℕ) → length F.tables ≤ i → i < v → Asked needs i → get_or memory.signs i 0 ≡ cond (negative F d (suc i) i) 1 0

-- what a database's evaluation rests on
pub record Ready (F : File) (g : Goal) (d : Database) (needs : Needs) (memory : Memory) : Type 0 where
  pub covers : Covers F g needs
  pub shaped : Shaped F d
  pub tables : TablesIn F d memory.counts memory.work
  pub whole : area ≤ length memory.work
  pub counts-size : 16 ≤ length memory.counts
  pub signs-size : 16 ≤ length memory.signs

-- relation r is a view by the outline
abbrev pub ViewIn : Outline → ℕ → Type 0
ViewIn o r = (o.tables ≤ r) × (r < o.relations)

-- the cells of views, their numbers of rows and their signs may change; every other number stays, and so do the sizes. What the cells of a
-- view hold behind its rows is left open: only as many rows are read as are counted
pub record OnlyViews (o : Outline) (memory memory' : Memory) : Type 0 where
  pub counts-size : length memory'.counts ≡ length memory.counts
  pub signs-size : length memory'.signs ≡ length memory.signs
  pub cells : OnlyCells (ViewIn o) memory.work memory'.work
  pub counts : (i : ℕ) → (ViewIn o i → ⊥) → get_or memory'.counts i 0 ≡ get_or memory.counts i 0
  pub signs : (i : ℕ) → (ViewIn o i → ⊥) → get_or memory'.signs i 0 ≡ get_or memory.signs i 0

pub record Evaluates (source : Source) (needs : Needs) (memory memory' : Memory) : Type 0 where
  pub kept : OnlyViews source.outline memory memory'
  pub known : {F : File} {g : Goal} {d : Database} → FileLaid F source → Ready F g d needs memory
      → Known F d needs memory' (length F.tables + length F.views)

-- ---- the case

pub record IsWanted (g : GoalHere) (counts signs : List ℕ) (r : Bool) : Type 0 where
  pub by_rows : g.negative ≡ false → r ≡ is_pos (get_or counts g.view 0)
  pub by_sign : g.negative ≡ true → r ≡ eqb (get_or signs g.view 0) 1

-- some table has a row, and each key holds
abbrev pub judged_further : Source → Memory → Bool
judged_further source memory = source.outline.filled && valid_in source memory.counts memory.work

-- on any arrays, what was evaluated and asked; and the case, of every legal file and every database of its row counts and value ranges
pub record IsCase (source : Source) (needs : Needs) (g : GoalHere) (memory : Memory) (r : Bool) (memory' : Memory) : Type 0 where
  pub early : judged_further source memory ≡ false → (r ≡ false) × (memory' ≡ memory)
  pub late : judged_further source memory ≡ true → Evaluates source needs memory memory' × IsWanted g memory'.counts memory'.signs r
  pub kept : OnlyViews source.outline memory memory'
  pub case : {F : File} {d : Database} → FileLaid F source → Ready F (goal_of g) d needs memory → r ≡ is_case F (goal_of g) d
