-- A file written out: the frames of its tables, foreign keys, views and goal. Assumes nothing: these are definitions, and they compute.
use Rattle.std.specs.Prelude.{Bool, cond, List, [], ◌∷◌, ◌++◌, map, ℕ, ◌+◌, ◌*◌, length}
use Rattle.value.specs.Integer.{high_byte, low_byte}
use Rattle.value.specs.Value.{Column}
use Rattle.meaning.specs.Lists.{joined}
use Rattle.meaning.specs.Syntax.{Place, SetOperation, View, Table, Pair, ForeignKey, Goal, File}
use Rattle.language.specs.Prefix.{encode_e, encode_c}

-- "bit i of value 2^i means column i is in the primary key"
abbrev pub mask_of : List Bool → ℕ
mask_of [] = 0
mask_of (k ∷ ks) = cond k 1 0 + 2 * mask_of ks

-- "lo and hi for each column", "high byte first"
abbrev pub column_bytes : Column → List ℕ
column_bytes c = high_byte c.lo ∷ low_byte c.lo ∷ high_byte c.hi ∷ low_byte c.hi ∷ []

-- "01 table: rows .., columns .., key mask .., then lo and hi for each column"
unfoldable pub table_bytes : Table → List ℕ
table_bytes t = 0x01 ∷ t.rows ∷ length t.columns ∷ mask_of t.key ∷ joined (map column_bytes t.columns)

-- "pairs child column, parent column"
abbrev pub pairs_bytes : List Pair → List ℕ
pairs_bytes ps = joined (map (λ p. p.child ∷ p.parent ∷ []) ps)

-- "02 foreign key: child table, parent table, count .., then pairs child column, parent column"
unfoldable pub key_bytes : ForeignKey → List ℕ
key_bytes k = 0x02 ∷ k.child ∷ k.parent ∷ length k.pairs ∷ pairs_bytes k.pairs

-- "05 union, 06 intersection"
abbrev pub set_kind : SetOperation → ℕ
set_kind SetOperation.union = 0x05
set_kind SetOperation.intersection = 0x06

-- "the grouping columns (from item, column)"
abbrev pub places_bytes : List Place → List ℕ
places_bytes gs = joined (map (λ p. p.item ∷ p.column ∷ []) gs)

-- "03 basic view: from count .., that many earlier relations, select count .., a where condition, the select expressions", "04 aggregate
-- view: from count and relations as in 03, grouping count .., select count .., where, the grouping columns .., having, the select
-- expressions", "05 union, 06 intersection: two earlier views"
unfoldable pub view_bytes : View → List ℕ
view_bytes (View.basic fs w es) = 0x03 ∷ length fs ∷ fs ++ (length es ∷ encode_c w ++ joined (map encode_e es))
view_bytes (View.grouped fs w gs h es) =
    0x04 ∷ length fs ∷ fs ++ (length gs ∷ length es ∷ encode_c w ++ places_bytes gs ++ encode_c h ++ joined (map encode_e es))
view_bytes (View.set op i j) = set_kind op ∷ i ∷ j ∷ []

-- "07 goal: a view, sign (0 positive, 1 negative)"
unfoldable pub goal_bytes : Goal → List ℕ
goal_bytes g = 0x07 ∷ g.view ∷ cond g.negative 1 0 ∷ []

-- "Order: tables, foreign keys, views, one goal, nothing after it"
unfoldable pub file_frames : File → List (List ℕ)
file_frames F = map table_bytes F.tables ++ map key_bytes F.keys ++ map view_bytes F.views ++ (goal_bytes F.goal ∷ [])
