-- A database in the work area. Assumes nothing: these are definitions.
use Rattle.std.specs.Prelude.{◌≡◌, List, [], ℕ, ◌<◌, ℤ, length, get_or}
use Rattle.meaning.specs.Syntax.{File, Database}
use Rattle.language.specs.Legal.{table_at}
use Rattle.store.specs.Rows.{rows_in}

-- the tables of d stand in the work area, and `counts` has their numbers of rows
pub record TablesIn (F : File) (d : Database) (counts : List ℕ) (work : List ℤ) : Type 0 where
  pub table : (t : ℕ) → t < length F.tables → rows_in work t (length (table_at F.tables t).columns) (get_or counts t 0) ≡ get_or d t []
