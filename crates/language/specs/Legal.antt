-- `Legal`: what document 01 asks of a rule file, apart from its bytes. `Short`, that its frames fit their lines, is apart, because a text
-- has lines and a file has none. Assumes nothing: these are definitions.
use Rattle.std.specs.Prelude.{◌≡◌, true, List, [], ◌∷◌, ◌++◌, map, ℕ, ◌+◌, ◌≤◌, ◌<◌, length, get_or, ◌≤ℤ◌}
use Rattle.value.specs.Bag.{All}
use Rattle.value.specs.Integer.{low16, high16}
use Rattle.value.specs.Value.{Column}
use Rattle.meaning.specs.Syntax.{Expr, Cond, Place, View, Table, Pair, ForeignKey, File}
use Rattle.language.specs.Reading.{Open, open_items, InLimitsE, InLimitsC}
use Rattle.meaning.specs.Bounds.{Schema, schema, table_schema, view_schema, same_width, aggregates_fit, bounded, ranges_fit}
use Rattle.meaning.specs.Candidates.{candidates}
use Rattle.language.specs.Frames.{exactly_key}
use Rattle.language.specs.Check.{candidate_limit}
use Rattle.language.specs.Written.{file_frames}

-- n is from lo to hi
pub record Limits (lo hi n : ℕ) : Type 0 where
  pub least : lo ≤ n
  pub most : n ≤ hi

-- ---- tables

pub record LegalColumn (c : Column) : Type 0 where
  -- "Sixteen-bit fields .. a value, lo, hi or constant is two's complement"
  pub low : low16 ≤ℤ c.lo
  pub high : c.hi ≤ℤ high16
  -- "lo ≤ hi"
  pub ordered : c.lo ≤ℤ c.hi

pub record LegalTable (t : Table) : Type 0 where
  -- "rows (0 to 8)"
  pub rows : Limits 0 8 t.rows
  -- "columns (1 to 4)"
  pub count : Limits 1 4 (length t.columns)
  -- "key mask (bit i of value 2^i means column i is in the primary key ..)"
  pub key : length t.key ≡ length t.columns
  -- "then lo and hi for each column"
  pub columns : All LegalColumn t.columns

-- ---- foreign keys, over the tables

abbrev pub table_at : List Table → ℕ → Table
table_at ts i = get_or ts i (record { rows = 0; columns = []; key = [] })

-- a pair's columns are there, in a child of c columns and a parent of p
pub record LegalPair (c p : ℕ) (pair : Pair) : Type 0 where
  pub child : pair.child < c
  pub parent : pair.parent < p

pub record KeyFields (ts : List Table) (k : ForeignKey) : Type 0 where
  -- "child table, parent table"
  pub child : k.child < length ts
  pub parent : k.parent < length ts
  -- "count (1 to 4)"
  pub count : Limits 1 4 (length k.pairs)
  -- "then pairs child column, parent column"
  pub pairs : All (LegalPair (length (table_at ts k.child).columns) (length (table_at ts k.parent).columns)) k.pairs

pub record LegalKey (ts : List Table) (k : ForeignKey) : Type 0 where
  pub fields : KeyFields ts k
  -- "The parent columns are exactly the parent's key, each once"
  pub pairing : exactly_key 0 (table_at ts k.parent).key k.pairs ≡ true

-- ---- views, over the number of tables and the schemas of the relations before

-- "that many earlier relations"
pub record LegalFrom (ss : List Schema) (fs : List ℕ) : Type 0 where
  -- "from count (1 to 3)"
  pub count : Limits 1 3 (length fs)
  pub earlier : All (λ i. i < length ss) fs

-- each from item's number of columns
abbrev pub widths : List Schema → List ℕ → List ℕ
widths ss fs = map (λ i. length (schema ss i).ranges) fs

pub record LegalSelect (o : Open) (es : List Expr) : Type 0 where
  -- "select count (1 to 8)"
  pub count : Limits 1 8 (length es)
  -- "the select expressions"
  pub limits : All (InLimitsE o) es

-- a grouping column that is there: "(from item, column)"
pub record LegalPlace (cols : List ℕ) (p : Place) : Type 0 where
  pub item : p.item < length cols
  pub column : p.column < get_or cols p.item 0

pub record LegalBasic (ss : List Schema) (fs : List ℕ) (w : Cond) (es : List Expr) : Type 0 where
  pub relations : LegalFrom ss fs
  -- "a where condition"
  pub condition : InLimitsC (open_items ss fs) w
  pub select : LegalSelect (open_items ss fs) es

pub record LegalGrouped (ss : List Schema) (fs : List ℕ) (w : Cond) (gs : List Place) (h : Cond) (es : List Expr) : Type 0 where
  -- "from count and relations as in 03"
  pub relations : LegalFrom ss fs
  -- "grouping count (0 to 4)"
  pub count : Limits 0 4 (length gs)
  -- "where"
  pub condition : InLimitsC (open_items ss fs) w
  -- "the grouping columns"
  pub grouping : All (LegalPlace (widths ss fs)) gs
  -- "having"
  pub having : InLimitsC (open_items ss fs) h
  pub select : LegalSelect (open_items ss fs) es

-- relation i is a view: behind t tables and before relation r
pub record NamesView (t r i : ℕ) : Type 0 where
  pub behind : t ≤ i
  pub before : i < r

-- "two earlier views"
pub record LegalSet (t : ℕ) (ss : List Schema) (i j : ℕ) : Type 0 where
  pub left : NamesView t (length ss) i
  pub right : NamesView t (length ss) j

abbrev pub ViewFields : ℕ → List Schema → View → Type 0
ViewFields t ss (View.basic fs w es) = LegalBasic ss fs w es
ViewFields t ss (View.grouped fs w gs h es) = LegalGrouped ss fs w gs h es
ViewFields t ss (View.set op i j) = LegalSet t ss i j

pub record LegalView (t : ℕ) (ss : List Schema) (q : View) : Type 0 where
  pub fields : ViewFields t ss q
  -- "two earlier views with equally many columns"
  pub width : same_width ss q ≡ true
  -- "Token 07 may stand only in the having and select of an aggregate view, .. a column outside 07 must be a grouping column"
  pub aggregates : aggregates_fit ss q ≡ true
  -- "Row bound .. Each is at most 64"
  pub bound : bounded ss q ≡ true
  -- "every range must lie within -2^31 to 2^31-1"
  pub ranges : ranges_fit ss q ≡ true

-- a property of each view with the schemas of the relations before it
pub data EveryView (P : List Schema → View → Type 0) : List View → List Schema → Type 0 where
  none : {ss : List Schema} → EveryView P [] ss
  more : {q : View} {qs : List View} {ss : List Schema} → P ss q → EveryView P qs (ss ++ (view_schema ss q ∷ [])) → EveryView P (q ∷ qs) ss

-- ---- files

pub record Legal (F : File) : Type 0 where
  -- "Tables and views are relations, numbered together from 0, at most 16"
  pub relation_count : length F.tables + length F.views ≤ 16
  -- "Foreign keys: at most 16"
  pub key_count : length F.keys ≤ 16
  pub tables : All LegalTable F.tables
  pub keys : All (LegalKey F.tables) F.keys
  pub views : EveryView (LegalView (length F.tables)) F.views (map table_schema F.tables)
  -- "07 goal: a view"
  pub goal : NamesView (length F.tables) (length F.tables + length F.views) F.goal.view
  -- "The number N of candidates is .. at most 2^24"
  pub number : candidates F ≤ candidate_limit

-- "1 to 120 frame bytes a line": no frame of a file is empty
pub record Short (F : File) : Type 0 where
  pub frames : All (λ f. length f ≤ 120) (file_frames F)
