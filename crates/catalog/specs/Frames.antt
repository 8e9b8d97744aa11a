-- Frames in the packed bytes of a file, each behind its length, and the parts of each kind of frame. Assumes nothing: these are definitions,
-- and they compute.
use Rattle.std.specs.Prelude.{Bool, cond, List, [], ◌∷◌, ℕ, ◌+◌, eqb, ltb, get_or, take, drop}
use Rattle.meaning.specs.Syntax.{View}
use Rattle.language.specs.Written.{set_kind}
use Rattle.catalog.specs.Relations.{start_at}
use Rattle.catalog.specs.declared.relation.Relation.{Relation}
use Rattle.catalog.specs.declared.frames.TableParts.{TableParts}
use Rattle.catalog.specs.declared.frames.KeyParts.{KeyParts}
use Rattle.catalog.specs.declared.frames.SetParts.{SetParts}
use Rattle.catalog.specs.declared.frames.Parts.{Parts}
use Rattle.catalog.specs.declared.plan.Goal.{Goal}

-- the frame whose length stands at a place; where the bytes end early, what there is of it
unfoldable pub frame_at : List ℕ → ℕ → List ℕ
frame_at bytes at = take (get_or bytes at 0) (drop (at + 1) bytes)

-- the frame of relation r
abbrev pub frame_in : List ℕ → List Relation → ℕ → List ℕ
frame_in bytes rs r = frame_at bytes (start_at rs r)

-- ---- the parts of a table's frame, of a foreign key's, of the goal's

-- where the columns of a table's frame begin
abbrev pub columns_start : ℕ
columns_start = 4

unfoldable pub table_parts_in : List ℕ → TableParts
table_parts_in frame = record { rows = get_or frame 1 0; width = get_or frame 2 0; mask = get_or frame 3 0 }

unfoldable pub key_parts_in : List ℕ → KeyParts
key_parts_in frame = record { child = get_or frame 1 0; parent = get_or frame 2 0; count = get_or frame 3 0; pairs = 4 }

unfoldable pub goal_in : List ℕ → Goal
goal_in frame = record { view = get_or frame 1 0; negative = eqb (get_or frame 2 0) 1 }

-- ---- the parts of a view's frame

-- the operands of a set view
unfoldable pub set_parts_in : List ℕ → SetParts
set_parts_in frame = record { left = get_or frame 1 0; right = get_or frame 2 0 }

-- the first byte
abbrev pub kind_of : View → ℕ
kind_of (View.basic fs w es) = 0x03
kind_of (View.grouped fs w gs h es) = 0x04
kind_of (View.set op i j) = set_kind op

-- the from list of a basic or an aggregate view, behind its length
unfoldable pub froms_in : List ℕ → List ℕ
froms_in frame = take (get_or frame 1 0) (drop 2 frame)

-- the relations at its front: the from list, or the two operands of a set view
abbrev pub front_names : View → List ℕ
front_names (View.basic fs w es) = fs
front_names (View.grouped fs w gs h es) = fs
front_names (View.set op i j) = i ∷ j ∷ []

unfoldable pub names_in : List ℕ → List ℕ
names_in frame = cond (ltb (get_or frame 0 0) 5) (froms_in frame) (take 2 (drop 1 frame))

-- how many grouping columns and select expressions follow n from items, and where the where condition begins behind these counts: an
-- aggregate view has one count more than a basic one
unfoldable pub parts_after : Bool → ℕ → List ℕ → Parts
parts_after grouped n frame = record {
  groups = cond grouped (get_or frame (n + 2) 0) 0;
  width = get_or frame (n + cond grouped 3 2) 0;
  body = n + cond grouped 4 3;
}

unfoldable pub parts_in : List ℕ → Parts
parts_in frame = parts_after (eqb (get_or frame 0 0) 4) (get_or frame 1 0) frame
