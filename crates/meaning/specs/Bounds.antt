-- "Bounds worked out from the file": row bounds, the range of every expression and column, and the rules on files that the theorems
-- rest on. Assumes nothing: these are definitions, and they compute.
use Rattle.std.specs.Prelude.{Bool, true, false, ◌&&◌, ℕ, ◌+◌, ◌*◌, min, ltb, leb, eqb, pos, length, get_or}
use mathlib.Core.List.{List, [], ◌∷◌, ◌++◌, foldr, map}
use Rattle.std.specs.Int.Signed.{le_z}
use Rattle.range.specs.Ranges.{within32, constant_of, range_from, hull_of, operated_of, rounded_of, aggregated_of}
use Rattle.range.specs.declared.Range.{Range}
use Rattle.meaning.specs.Lists.{all, any, joined, stack, stack_all}
use Rattle.meaning.specs.Syntax.{Expr, Cond, SetOperation, View, Place, Table, Goal, File}

-- ---- what the file alone tells of a relation

pub record Schema : Type 0 where
  -- "Row bound"
  pub bound : ℕ
  -- the range of each column
  pub ranges : List Range

abbrev pub no_schema : Schema
no_schema = record { bound = 0; ranges = [] }

abbrev pub schema : List Schema → ℕ → Schema
schema ss i = get_or ss i no_schema

-- the ranges of the columns of each from item
abbrev pub item_ranges : List Schema → List ℕ → List (List Range)
item_ranges ss fs = map (λ i. (schema ss i).ranges) fs

-- "03 and 04, the product over the from list"
abbrev pub product_bound : List Schema → List ℕ → ℕ
product_bound ss fs = foldr ◌*◌ 1 (map (λ i. (schema ss i).bound) fs)

-- ---- "Every expression has a range"

-- the from items that are open where an expression stands
pub record OpenRanges : Type 0 where
  -- the ranges of each one's columns
  pub ranges : List (List Range)
  -- the row bound of the view
  pub bound : ℕ
  -- the ranges of the columns of each relation before the view
  pub relations : List (List Range)

-- those of a view with this from list
abbrev pub open_ranges : List Schema → List ℕ → OpenRanges
open_ranges ss fs = record { ranges = item_ranges ss fs; bound = product_bound ss fs; relations = map (λ s. s.ranges) ss }

-- the row of relation i is "one more from item"; "Row bounds do not count it"
abbrev pub opened_ranges : OpenRanges → ℕ → OpenRanges
opened_ranges o i = record { ranges = o.ranges ++ (get_or o.relations i [] ∷ []); bound = o.bound; relations = o.relations }

abbrev pub range : OpenRanges → Expr → Range
range o (Expr.constant z) = constant_of z
range o (Expr.column i c) = get_or (get_or o.ranges i []) c (constant_of (pos 0))
range o (Expr.operation op a b) = operated_of op (range o a) (range o b)
range o (Expr.rounding m a) = rounded_of m (range o a)
range o (Expr.choice c a b) = hull_of (range o a) (range o b)
range o (Expr.aggregate op a) = aggregated_of op o.bound (range o a)

-- "every range must lie within -2^31 to 2^31-1": of the expression itself and of every expression inside it
abbrev mutual
  pub within_e : OpenRanges → Expr → Bool
  within_e o (Expr.constant z) = within32 (constant_of z)
  within_e o (Expr.column i c) = within32 (range o (Expr.column i c))
  within_e o (Expr.operation op a b) = within32 (range o (Expr.operation op a b)) && (within_e o a && within_e o b)
  within_e o (Expr.rounding m a) = within32 (range o (Expr.rounding m a)) && within_e o a
  within_e o (Expr.choice c a b) = within_c o c && (within_e o a && within_e o b)
  within_e o (Expr.aggregate op a) = within32 (range o (Expr.aggregate op a)) && within_e o a

  pub within_c : OpenRanges → Cond → Bool
  within_c o Cond.always = true
  within_c o (Cond.comparison op a b) = within_e o a && within_e o b
  within_c o (Cond.negated c) = within_c o c
  within_c o (Cond.connection op c d) = within_c o c && within_c o d
  within_c o (Cond.exists i c) = within_c (opened_ranges o i) c

-- ---- the schema of every relation

-- "a constant or table column is itself"
abbrev pub table_schema : Table → Schema
table_schema t = record { bound = t.rows; ranges = map (λ c. range_from c.lo c.hi) t.columns }

-- "Union columns take hulls"
abbrev pub hulls : List Range → List Range → List Range
hulls [] bs = []
hulls (a ∷ as') [] = []
hulls (a ∷ as') (b ∷ bs) = hull_of a b ∷ hulls as' bs

-- "union, the sum; intersection, the smaller"
abbrev pub set_bound : SetOperation → ℕ → ℕ → ℕ
set_bound SetOperation.union a b = a + b
set_bound SetOperation.intersection a b = min a b

-- "Union columns take hulls; intersection keeps the left's"
abbrev pub set_ranges : SetOperation → List Range → List Range → List Range
set_ranges SetOperation.union as' bs = hulls as' bs
set_ranges SetOperation.intersection as' bs = as'

-- "A column of 03 or 04 has its select expression's range"
abbrev pub view_schema : List Schema → View → Schema
view_schema ss (View.basic fs w es) = record { bound = product_bound ss fs; ranges = map (range (open_ranges ss fs)) es }
view_schema ss (View.grouped fs w gs h es) = record { bound = product_bound ss fs; ranges = map (range (open_ranges ss fs)) es }
view_schema ss (View.set op i j) =
    record { bound = set_bound op (schema ss i).bound (schema ss j).bound; ranges = set_ranges op (schema ss i).ranges (schema ss j).ranges }

-- the schema of each relation, tables first
abbrev pub schemas : File → List Schema
schemas F = stack view_schema F.views (map table_schema F.tables)

-- ---- the rules on views, each as a test of a view with what stands before it

-- the relations into which 17 looks
abbrev mutual
  pub inner_e : Expr → List ℕ
  inner_e (Expr.constant z) = []
  inner_e (Expr.column i c) = []
  inner_e (Expr.operation op a b) = inner_e a ++ inner_e b
  inner_e (Expr.rounding m a) = inner_e a
  inner_e (Expr.choice c a b) = inner_c c ++ (inner_e a ++ inner_e b)
  inner_e (Expr.aggregate op a) = inner_e a

  pub inner_c : Cond → List ℕ
  inner_c Cond.always = []
  inner_c (Cond.comparison op a b) = inner_e a ++ inner_e b
  inner_c (Cond.negated c) = inner_c c
  inner_c (Cond.connection op c d) = inner_c c ++ inner_c d
  inner_c (Cond.exists i c) = i ∷ inner_c c

-- the relations that a view names: its from list, and those into which it looks
abbrev pub names : View → List ℕ
names (View.basic fs w es) = fs ++ (inner_c w ++ joined (map inner_e es))
names (View.grouped fs w gs h es) = fs ++ (inner_c w ++ (inner_c h ++ joined (map inner_e es)))
names (View.set op i j) = i ∷ j ∷ []

-- 6: "earlier relations". That the operands of a set view are views is asked of a legal file (`Legal` of rules); the theorems need less
abbrev pub earlier : List Schema → View → Bool
earlier ss q = all (λ i. ltb i (length ss)) (names q)

abbrev pub same_width : List Schema → View → Bool
same_width ss (View.basic fs w es) = true
same_width ss (View.grouped fs w gs h es) = true
same_width ss (View.set op i j) = eqb (length (schema ss i).ranges) (length (schema ss j).ranges)

-- any column
abbrev pub any_column : ℕ → ℕ → Bool
any_column i c = true

-- a grouping column
abbrev pub grouping_column : List Place → ℕ → ℕ → Bool
grouping_column gs i c = any (λ p. eqb p.item i && eqb p.column c) gs

-- what may stand in an expression or a condition: which columns outside 07, whether 07, and whether 17
pub record Permitted : Type 0 where
  pub columns : ℕ → ℕ → Bool
  pub aggregates : Bool
  pub exists : Bool

-- 7: "Token 07 may stand only in the having and select of an aggregate view, and not inside another 07. There, a column outside 07 must
-- be a grouping column." Of 17: "It may stand only within where conditions; elsewhere it breaks the rule on 07"
abbrev pub in_where : Permitted
in_where = record { columns = any_column; aggregates = false; exists = true }

-- in the select of a basic view
abbrev pub in_basic : Permitted
in_basic = record { columns = any_column; aggregates = false; exists = false }

-- in the having and select of an aggregate view
abbrev pub in_grouped : List Place → Permitted
in_grouped gs = record { columns = grouping_column gs; aggregates = true; exists = false }

abbrev pub inside_aggregate : Permitted
inside_aggregate = record { columns = any_column; aggregates = false; exists = false }

abbrev mutual
  pub allowed_e : Permitted → Expr → Bool
  allowed_e p (Expr.constant z) = true
  allowed_e p (Expr.column i c) = p.columns i c
  allowed_e p (Expr.operation op a b) = allowed_e p a && allowed_e p b
  allowed_e p (Expr.rounding m a) = allowed_e p a
  allowed_e p (Expr.choice c a b) = allowed_c p c && (allowed_e p a && allowed_e p b)
  allowed_e p (Expr.aggregate op a) = p.aggregates && allowed_e inside_aggregate a

  pub allowed_c : Permitted → Cond → Bool
  allowed_c p Cond.always = true
  allowed_c p (Cond.comparison op a b) = allowed_e p a && allowed_e p b
  allowed_c p (Cond.negated c) = allowed_c p c
  allowed_c p (Cond.connection op c d) = allowed_c p c && allowed_c p d
  allowed_c p (Cond.exists i c) = p.exists && allowed_c in_where c

abbrev pub aggregates_fit : List Schema → View → Bool
aggregates_fit ss (View.basic fs w es) = allowed_c in_where w && all (allowed_e in_basic) es
aggregates_fit ss (View.grouped fs w gs h es) = allowed_c in_where w && (allowed_c (in_grouped gs) h && all (allowed_e (in_grouped gs)) es)
aggregates_fit ss (View.set op i j) = true

-- 8: "Each is at most 64"
abbrev pub bounded : List Schema → View → Bool
bounded ss q = leb (view_schema ss q).bound 64

-- 9: the ranges of every expression of where, having and select
abbrev pub ranges_fit : List Schema → View → Bool
ranges_fit ss (View.basic fs w es) = let o = open_ranges ss fs in within_c o w && all (within_e o) es
ranges_fit ss (View.grouped fs w gs h es) = let o = open_ranges ss fs in within_c o w && (within_c o h && all (within_e o) es)
ranges_fit ss (View.set op i j) = true

-- ---- a well-formed file

-- "lo ≤ hi" of every column
abbrev pub ordered : Table → Bool
ordered t = all (λ c. le_z c.lo c.hi) t.columns

-- the rule holds of every view
abbrev pub every_view : (List Schema → View → Bool) → File → Bool
every_view p F = stack_all view_schema p F.views (map table_schema F.tables)

-- weaker than "07 goal: a view", which is asked of a legal file; all that the theorems need
abbrev pub goal_names_relation : File → Goal → Bool
goal_names_relation F g = ltb g.view (length F.tables + length F.views)

unfoldable pub well_formed : File → Bool
well_formed F =
    all ordered F.tables
    && (every_view earlier F
    && (every_view same_width F
    && (every_view aggregates_fit F
    && (every_view bounded F
    && (every_view ranges_fit F
    && goal_names_relation F F.goal)))))
