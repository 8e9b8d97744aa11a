-- What the checker's relations stand for: the bounds, ranges and keys of the relations of a draft. Assumes nothing: these are
-- definitions.
use Rattle.std.specs.Prelude.{◌≡◌, List, ℕ, ◌<◌, ◌≤◌, length, get_or, drop}
use Rattle.language.specs.Reading.{Reader}
use Rattle.meaning.specs.Bounds.{schema}
use Rattle.catalog.specs.Relations.{schema_in, width_at, mask_at}
use Rattle.catalog.specs.declared.relation.Relation.{Relation}
use Rattle.language.specs.Draft.{Draft, Item, schemas_of}
use Rattle.language.specs.Frames.{no_table}
use Rattle.language.specs.Check.{Checked, read_checked}
use Rattle.language.specs.Written.{mask_of}

pub record Catalogued (d : Draft) (rs : List Relation) : Type 0 where
  pub size : length rs ≡ 16
  pub schemas : (i : ℕ) → schema_in rs i ≡ schema (schemas_of d) i
  -- a relation has room for eight columns
  pub widths : (i : ℕ) → width_at rs i ≤ 8
  pub masks : (i : ℕ) → i < length d.tables → mask_at rs i ≡ mask_of (get_or d.tables i no_table).key

-- the fault of a frame with one more: 0 for none
abbrev pub checked_fault : Checked → ℕ
checked_fault (Checked.fault n) = n
checked_fault (Checked.next d) = 0

-- the fault of a frame whose bytes behind the kind are read by r: of its bytes, and then of the rules on the whole frame
unfoldable pub body_fault : Draft → Reader Item → List ℕ → ℕ
body_fault d r frame = checked_fault (read_checked d (r (drop 1 frame)))
