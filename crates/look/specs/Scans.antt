-- The search of a span of candidates. Assumes nothing: these are definitions.
use Rattle.std.specs.Prelude.{◌≡◌, ◌⊎◌, List, ℕ, ◌-◌, ◌≤◌, ◌<◌, ℤ, length, get_or, Option, None, Some, IfSome}
use Rattle.meaning.specs.Syntax.{File}
use Rattle.meaning.specs.Candidates.{cells as cells_of}
use Rattle.meaning.specs.Decided.{seek, is_case_at}
use Rattle.language.specs.Legal.{table_at}
use Rattle.catalog.specs.FileIn.{Source, source_in, FileIn, goal_of}
use Rattle.catalog.specs.declared.plan.Goal.{Goal}
use Rattle.store.specs.Layout.{area, OnlyCells}
use Rattle.cases.specs.declared.needs.Needs.{Needs}
use Rattle.cases.specs.Needs.{Covers}
use Rattle.cases.specs.Judgement.{Memory, ViewIn}
use Rattle.look.specs.declared.cells.Cell.{Cell}
use Rattle.look.specs.declared.scan.Search.{Search as Lent}
use Rattle.look.specs.Cells.{file_cells, cells_in, CellTable}
use Rattle.look.specs.Moves.{CellPlaces, places_from, Digits}

-- a file and the cells of its tables, its goal, and the candidates from `start` on and before `end`
pub record Search : Type 0 where
  pub source : Source
  pub cells : List Cell
  pub goal : Goal
  pub start : ℕ
  pub end : ℕ

-- the same of what the code is lent
abbrev pub search_in : Lent → Search
search_in s = record { source = source_in s.source; cells = s.cells.now; goal = s.goal; start = s.start; end = s.end }

-- where the cells of a search's candidates stand
abbrev pub places_of : Search → CellPlaces
places_of s = places_from s.source.relations s.cells

-- what the search of a file rests on
pub record Setting (F : File) (source : Source) (needs : Needs) (g : Goal) : Type 0 where
  pub file : FileIn F source
  pub goal : goal_of g ≡ F.goal
  pub covers : Covers F F.goal needs

-- the numbers of the tables' rows and the cells of candidate k stand where they should
pub record At (F : File) (memory : Memory) (k : ℕ) : Type 0 where
  pub counts-size : 16 ≤ length memory.counts
  pub signs-size : 16 ≤ length memory.signs
  pub whole : area ≤ length memory.work
  pub rows : (t : ℕ) → t < length F.tables → get_or memory.counts t 0 ≡ (table_at F.tables t).rows
  pub cells : cells_in memory.work (file_cells F) ≡ cells_of F k

-- ---- what the code gives

-- the cells of the tables of the cells and of views may change, and no other number of the work area
abbrev pub OnlySearched : Search → List ℤ → List ℤ → Type 0
OnlySearched s = OnlyCells (λ r. CellTable s.cells r ⊎ ViewIn s.source.outline r)

-- where a search has come to: the case, or else its end
abbrev pub come_to : Option ℕ → ℕ → ℕ
come_to None end = end
come_to (Some k) end = k

-- r is the first case of the span, if it has one, and the cells of a case stand in the work area
pub record FirstFound (F : File) (s : Search) (r : Option ℕ) (work : List ℤ) : Type 0 where
  pub first : come_to r s.end ≡ seek (is_case_at F) s.start (s.end - s.start)
  pub cells : IfSome r (λ k. cells_in work (file_cells F) ≡ cells_of F k)

pub record Scans (s : Search) (needs : Needs) (memory : Memory) (r : Option ℕ) (memory' : Memory) : Type 0 where
  pub only : OnlySearched s memory.work memory'.work
  pub counts : (i : ℕ) → (ViewIn s.source.outline i → ⊥) → get_or memory'.counts i 0 ≡ get_or memory.counts i 0
  pub signs : (i : ℕ) → (ViewIn s.source.outline i → ⊥) → get_or memory'.signs i 0 ≡ get_or memory.signs i 0
  pub inside : IfSome r (λ k. k < s.end)
  pub found : (F : File) → Setting F s.source needs s.goal → Digits F (places_of s) → At F memory s.start → s.start ≤ s.end
      → FirstFound F s r memory'.work

pub record Searched (s : Search) (work : List ℤ) (r : Option ℕ) (work' : List ℤ) : Type 0 where
  pub only : OnlySearched s work work'
  pub inside : IfSome r (λ k. k < s.end)
  pub found : (F : File) → FileIn F s.source → goal_of s.goal ≡ F.goal → Digits F (places_of s) → area ≤ length work
      → s.start ≤ s.end → FirstFound F s r work'
