-- "A database is valid when each value lies in its column's lo..hi, two rows of a keyed table differ in some key column, and for each
-- child row some parent row agrees on all pairs (the same table may be both)." Assumes nothing: these are definitions.
use Rattle.std.specs.Prelude.{◌≡◌, ◌≢◌, Bool, true, List, [], ◌∷◌, T, length, get_or}
use Rattle.value.specs.Bag.{All}
use Rattle.value.specs.Value.{Value, InColumn}
use Rattle.meaning.specs.Lists.{Any, Pairwise, Each}
use Rattle.meaning.specs.Syntax.{Table, Pair, ForeignKey, File, Row, Database}
use Rattle.meaning.specs.Evaluation.{missing}

-- ---- row counts and value ranges

-- "each table its number of rows .. and each row one value for each column", in the column's lo..hi
pub record InRange (t : Table) (R : List Row) : Type 0 where
  pub rows : length R ≡ t.rows
  pub values : All (Each InColumn t.columns) R

-- every table has its row count and its values
abbrev pub Shaped : File → Database → Type 0
Shaped F d = Each InRange F.tables d

-- ---- keys

-- "two rows .. differ in some key column"
pub data Differ : List Bool → Row → Row → Type 0 where
  here : {ks : List Bool} {μ ν : Row} {x y : Value} → x ≢ y → Differ (true ∷ ks) (x ∷ μ) (y ∷ ν)
  there : {k : Bool} {ks : List Bool} {μ ν : Row} {x y : Value} → Differ ks μ ν → Differ (k ∷ ks) (x ∷ μ) (y ∷ ν)

-- "bit i .. means column i is in the primary key, 0 no key"
pub record KeyHolds (t : Table) (R : List Row) : Type 0 where
  pub apart : Any T t.key → Pairwise (Differ t.key) R

-- a parent row ν agrees with the child row μ on all pairs
abbrev pub Agrees : List Pair → Row → Row → Type 0
Agrees ps μ ν = All (λ p. get_or μ p.child missing ≡ get_or ν p.parent missing) ps

-- "for each child row some parent row agrees on all pairs"
pub record ForeignKeyHolds (d : Database) (k : ForeignKey) : Type 0 where
  pub parents : All (λ μ. Any (Agrees k.pairs μ) (get_or d k.parent [])) (get_or d k.child [])

pub record Valid (F : File) (d : Database) : Type 0 where
  pub shaped : Shaped F d
  pub primary : Each KeyHolds F.tables d
  pub foreign : All (ForeignKeyHolds d) F.keys
