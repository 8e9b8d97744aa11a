-- What the tests of keys give. Assumes nothing: these are definitions.
use Rattle.std.specs.Prelude.{◌≡◌, Bool, true, false, ◌&&◌, ◌||◌, List, ℕ, zero, suc, ◌+◌, ltb, eqb, ℤ, length, get_or}
use Rattle.value.specs.Value.{value_test}
use Rattle.meaning.specs.Lists.{all, pairwise}
use Rattle.meaning.specs.Syntax.{File, Database}
use Rattle.meaning.specs.Valid.{Shaped}
use Rattle.meaning.specs.Decided.{differ, valid}
use Rattle.language.specs.Frames.{mask_bits}
use Rattle.catalog.specs.Relations.{width_at, mask_at}
use Rattle.catalog.specs.FileIn.{Source, FileLaid}
use Rattle.catalog.specs.Frames.{frame_at, key_parts_in}
use Rattle.catalog.specs.declared.frames.KeyParts.{KeyParts}
use Rattle.catalog.specs.declared.relation.Relation.{Relation}
use Rattle.store.specs.Layout.{cell_in}
use Rattle.store.specs.Rows.{row_in, rows_in}
use Rattle.cases.specs.TablesIn.{TablesIn}
use Rattle.cases.specs.declared.validity.Table.{Table}

-- ---- tests of numbers

-- a test of each number below n, and of some
unfoldable pub all_below : (ℕ → Bool) → ℕ → Bool
all_below p zero = true
all_below p (suc n) = all_below p n && p n

unfoldable pub any_below : (ℕ → Bool) → ℕ → Bool
any_below p zero = false
any_below p (suc n) = any_below p n || p n

-- ---- primary keys: on any mask; 0 is no key, and bits behind the last column say nothing of a column

-- two rows of a table differ in some column of the key
abbrev pub differ_in : List ℤ → ℕ → ℕ → ℕ → ℕ → ℕ → Bool
differ_in work table i j width mask = differ (mask_bits width mask) (row_in work table width i) (row_in work table width j)

-- row j differs from each row before it
abbrev pub differs_from_earlier_in : List ℤ → ℕ → ℕ → ℕ → ℕ → Bool
differs_from_earlier_in work table j width mask = all (λ μ. differ (mask_bits width mask) μ (row_in work table width j)) (rows_in work table width j)

-- there is no key, or each two rows differ
unfoldable pub key_in : List ℤ → ℕ → ℕ → ℕ → ℕ → Bool
key_in work table rows width mask = eqb mask 0 || pairwise (differ (mask_bits width mask)) (rows_in work table width rows)

-- table t, with its rows, columns and mask as the arrays say; its key, and that of each table
abbrev pub table_in : List Relation → List ℕ → ℕ → Table
table_in relations counts t = record { number = t; rows = get_or counts t 0; width = width_at relations t; mask = mask_at relations t }

unfoldable pub key_at : List Relation → List ℕ → List ℤ → ℕ → Bool
key_at relations counts work t = key_in work t (get_or counts t 0) (width_at relations t) (mask_at relations t)

abbrev pub keys_in : List Relation → List ℕ → List ℤ → ℕ → Bool
keys_in relations counts work tables = all_below (key_at relations counts work) tables

-- ---- foreign keys: on any bytes, 0 past the end of a frame

-- n things stand one behind the other from a place on, and each passes a test; false where the bytes end before one of them
unfoldable pub all_from : List ℕ → (ℕ → Bool) → (ℕ → ℕ) → ℕ → ℕ → Bool
all_from bytes p next at zero = true
all_from bytes p next at (suc n) = ltb at (length bytes) && (p at && all_from bytes p next (next at) n)

-- the pair of columns at a place has one value in row i of the child and in row j of the parent
unfoldable pub pair_agrees : List ℕ → List ℤ → ℕ → ℕ → ℕ → ℕ → ℕ → Bool
pair_agrees frame work child i parent j at =
    value_test.same (cell_in work child i (get_or frame at 0)) (cell_in work parent j (get_or frame (at + 1) 0))

-- all pairs of the key do
abbrev pub agrees_in : List ℕ → KeyParts → List ℤ → ℕ → ℕ → Bool
agrees_in frame key work i j = all_from frame (pair_agrees frame work key.child i key.parent j) (λ at. at + 2) key.pairs key.count

-- one of the parent's rows agrees with row i of the child
abbrev pub has_parent_in : List ℕ → KeyParts → List ℤ → ℕ → ℕ → Bool
has_parent_in frame key work rows i = any_below (agrees_in frame key work i) rows

-- each row of the child has a parent
unfoldable pub foreign_key_in : List ℕ → List ℕ → List ℤ → Bool
foreign_key_in frame counts work =
    let key = key_parts_in frame in
    all_below (has_parent_in frame key work (get_or counts key.parent 0)) (get_or counts key.child 0)

-- each of the keys whose frames stand at a place
abbrev pub foreign_keys_in : List ℕ → ℕ → ℕ → List ℕ → List ℤ → Bool
foreign_keys_in bytes at keys counts work =
    all_from bytes (λ next. foreign_key_in (frame_at bytes next) counts work) (λ next. next + 1 + length (frame_at bytes next)) at keys

-- ---- the whole

unfoldable pub valid_in : Source → List ℕ → List ℤ → Bool
valid_in source counts work =
    keys_in source.relations counts work source.outline.tables
    && foreign_keys_in source.bytes source.outline.foreign source.outline.keys counts work

-- on any arrays, and what it says of a file and a database
pub record IsValid (source : Source) (counts : List ℕ) (work : List ℤ) (r : Bool) : Type 0 where
  pub here : r ≡ valid_in source counts work
  pub is-valid : {F : File} {d : Database} → FileLaid F source → Shaped F d → TablesIn F d counts work
      → r ≡ valid F d
