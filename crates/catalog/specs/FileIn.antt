-- A file in memory: the packed bytes of its frames, its relations and the outline. Everything above the checker rests on this one relation.
-- Assumes nothing: these are definitions.
use Rattle.std.specs.Prelude.{◌≡◌, Bool, true, false, List, ◌++◌, map, ℕ, ◌+◌, ◌≤◌, ◌<◌, length, get_or, drop}
use Rattle.std.proofs.Math.Option.{some}
use Rattle.text.specs.Answers.{pack}
use Rattle.meaning.specs.Lists.{is_pos, any}
use Rattle.meaning.specs.Syntax.{Table, View, Goal, File}
use Rattle.meaning.specs.Algebra.{query}
use Rattle.meaning.specs.Bounds.{schema, schemas}
use Rattle.meaning.specs.Candidates.{candidates}
use Rattle.language.specs.Legal.{Legal, table_at}
use Rattle.language.specs.Written.{mask_of, key_bytes, view_bytes}
use Rattle.catalog.specs.Relations.{no_column, width_at, bound_at, mask_at, start_at, schema_in, column_at}
use Rattle.catalog.specs.Frames.{frame_in}
use Rattle.catalog.specs.declared.outline.Outline.{Outline}
use Rattle.catalog.specs.declared.plan.Goal.{Goal as GoalHere}
use Rattle.catalog.specs.declared.plan.Plan.{Plan}
use Rattle.catalog.specs.declared.relation.Relation.{Relation}
use Rattle.catalog.specs.declared.source.Source.{Source as Lent}

-- tables, the first relations: how many rows and columns each has, and which columns
pub record TablesKnown (ts : List Table) (rs : List Relation) : Type 0 where
  pub rows : (t : ℕ) → t < length ts → bound_at rs t ≡ (table_at ts t).rows
  pub width : (t : ℕ) → t < length ts → width_at rs t ≡ length (table_at ts t).columns
  pub column : (t c : ℕ) → t < length ts → c < length (table_at ts t).columns → column_at rs t c ≡ get_or (table_at ts t).columns c no_column

-- where a file stands
pub record Source : Type 0 where
  pub bytes : List ℕ
  pub relations : List Relation
  pub outline : Outline

abbrev pub source_from : List ℕ → List Relation → Outline → Source
source_from bytes rs o = record { bytes = bytes; relations = rs; outline = o }

-- the same of what the code is lent
abbrev pub source_in : Lent → Source
source_in s = source_from s.bytes.now s.relations.now s.outline

pub record FileIn (F : File) (source : Source) : Type 0 where
  pub legal : Legal F
  pub sized : length source.relations ≡ 16
  pub tables : source.outline.tables ≡ length F.tables
  pub keys : source.outline.keys ≡ length F.keys
  pub relations : source.outline.relations ≡ length F.tables + length F.views
  -- the frame of each view, and those of the foreign keys, one behind the other
  pub views : (v : ℕ) (q : View) → query (length F.tables) F v ≡ some q → frame_in source.bytes source.relations v ≡ view_bytes q
  pub foreign : (rest : List ℕ) × (drop source.outline.foreign source.bytes ≡ pack (map key_bytes F.keys) ++ rest)
  -- the row bound and the ranges of each relation, and the key of each table
  pub known : (i : ℕ) → schema_in source.relations i ≡ schema (schemas F) i
  pub masks : (i : ℕ) → i < length F.tables → mask_at source.relations i ≡ mask_of (table_at F.tables i).key
  -- "some table has a row"
  pub filled : source.outline.filled ≡ any (λ t. is_pos t.rows) F.tables

-- the same but for the ranges, of which it says how many there are: what is worked out of one database reads none
pub record FileLaid (F : File) (source : Source) : Type 0 where
  pub legal : Legal F
  pub sized : length source.relations ≡ 16
  pub tables : source.outline.tables ≡ length F.tables
  pub keys : source.outline.keys ≡ length F.keys
  pub relations : source.outline.relations ≡ length F.tables + length F.views
  pub views : (v : ℕ) (q : View) → query (length F.tables) F v ≡ some q → frame_in source.bytes source.relations v ≡ view_bytes q
  pub foreign : (rest : List ℕ) × (drop source.outline.foreign source.bytes ≡ pack (map key_bytes F.keys) ++ rest)
  -- the row bound and the number of columns of each relation, and the key of each table
  pub bounds : (i : ℕ) → bound_at source.relations i ≡ (schema (schemas F) i).bound
  pub widths : (i : ℕ) → width_at source.relations i ≡ length (schema (schemas F) i).ranges
  pub masks : (i : ℕ) → i < length F.tables → mask_at source.relations i ≡ mask_of (table_at F.tables i).key
  pub filled : source.outline.filled ≡ any (λ t. is_pos t.rows) F.tables

-- relations that are the same but for their ranges
pub record SameButRanges (rs rs' : List Relation) : Type 0 where
  pub size : length rs' ≡ length rs
  pub width : (r : ℕ) → width_at rs' r ≡ width_at rs r
  pub bound : (r : ℕ) → bound_at rs' r ≡ bound_at rs r
  pub mask : (r : ℕ) → mask_at rs' r ≡ mask_at rs r
  pub start : (r : ℕ) → start_at rs' r ≡ start_at rs r

-- ---- the plan of an accepted file

abbrev pub source_of : Plan → Source
source_of p = source_from p.bytes p.relations p.outline

abbrev pub goal_of : GoalHere → Goal
goal_of g = record { view = g.view; negative = g.negative }

pub record PlanOf (F : File) (p : Plan) : Type 0 where
  pub file : FileIn F (source_of p)
  pub goal : goal_of p.goal ≡ F.goal
  pub candidates-are : p.candidates ≡ candidates F

-- ---- what the code gives

-- whether one of the first row bounds is above 0; of any file whose tables have these row bounds, whether a table has a row
pub record SomeRow (rs : List Relation) (tables : ℕ) (r : Bool) : Type 0 where
  pub has : r ≡ true → (t : ℕ) × (t < tables) × (0 < bound_at rs t)
  pub has-none : r ≡ false → (t : ℕ) → t < tables → bound_at rs t ≡ 0
  pub some-row : (F : File) → length F.tables ≡ tables → ((i : ℕ) → bound_at rs i ≡ (schema (schemas F) i).bound) → r ≡ any (λ t. is_pos t.rows) F.tables

-- `counts` gets the row bounds of the tables, which are their numbers of rows; every other entry stays
pub record TablesCounted (rs : List Relation) (tables : ℕ) (counts counts' : List ℕ) : Type 0 where
  pub size : length counts' ≡ length counts
  pub counted : (t : ℕ) → t < tables → t < length counts → get_or counts' t 0 ≡ bound_at rs t
  pub others : (t : ℕ) → tables ≤ t → get_or counts' t 0 ≡ get_or counts t 0
