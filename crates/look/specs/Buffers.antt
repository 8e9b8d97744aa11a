-- The instance buffer of a case. Assumes nothing: these are definitions.
use Rattle.std.specs.Prelude.{◌≡◌, List, ℕ, ◌≤◌, ◌<◌, ℤ, pos, length, get_or}
use Rattle.value.specs.Value.{shown}
use Rattle.look.specs.declared.cells.Cell.{Cell}
use Rattle.look.specs.Cells.{cell_at, no_cell}

-- "the buffer begins with its cells", "instance numbers not just named keep their values"
pub record Shows (cells : List Cell) (n : ℕ) (work inst inst' : List ℤ) : Type 0 where
  pub length-kept : length inst' ≡ length inst
  pub cell : (j : ℕ) → j < n → j < length inst → get_or inst' j (pos 0) ≡ shown (cell_at work (get_or cells j no_cell))
  pub others : (j : ℕ) → n ≤ j → get_or inst' j (pos 0) ≡ get_or inst j (pos 0)
