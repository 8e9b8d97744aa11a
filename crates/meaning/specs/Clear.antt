-- What a program that works in 32 bits relies on: 32 bits hold every result inside an expression, also in the branch that is not
-- taken, and of an aggregate at each member on the way; and every relation lies in its bounds. Assumes nothing: these are definitions.
use Rattle.std.specs.Prelude.{◌≡◌, List, map, ℕ, ◌≤◌, length, take}
use Rattle.std.proofs.Math.Option.{some}
use Rattle.value.specs.Bag.{All}
use Rattle.value.specs.Value.{Held, TallyHeld, tally}
use Rattle.range.specs.Ranges.{Inside}
use Rattle.meaning.specs.Lists.{Any, Each, combinations}
use Rattle.meaning.specs.Syntax.{Expr, Cond, View, Place, File, Row, Combination, Database}
use Rattle.meaning.specs.Evaluation.{Scope, alone, opened, value}
use Rattle.meaning.specs.Rows.{group_keys, together, rows}
use Rattle.meaning.specs.Algebra.{query, below}
use Rattle.meaning.specs.Bounds.{Schema, schema, schemas}

-- ---- expressions and conditions

abbrev mutual
  pub ClearE : Scope → Expr → Type 0
  ClearE s (Expr.constant z) = Unit {0}
  ClearE s (Expr.column i c) = Unit {0}
  ClearE s (Expr.operation op a b) = ClearE s a × ClearE s b × Held (value s (Expr.operation op a b))
  ClearE s (Expr.rounding m a) = ClearE s a × Held (value s (Expr.rounding m a))
  ClearE s (Expr.choice c a b) = ClearC s c × ClearE s a × ClearE s b
  ClearE s (Expr.aggregate op a) =
      All (λ m. ClearE (alone s.relations m) a) s.group
      × ((n : ℕ) → TallyHeld (tally op (take n (map (λ m. value (alone s.relations m) a) s.group))))

  pub ClearC : Scope → Cond → Type 0
  ClearC s Cond.always = Unit {0}
  ClearC s (Cond.comparison op a b) = ClearE s a × ClearE s b
  ClearC s (Cond.negated c) = ClearC s c
  ClearC s (Cond.connection op c d) = ClearC s c × ClearC s d
  ClearC s (Cond.exists i c) = All (λ r. ClearC (opened s r) c) (s.relations i)

-- ---- views, over the rows M of the relations before them

-- where and select, at every combination
pub record BasicClear (M : ℕ → List Row) (fs : List ℕ) (w : Cond) (es : List Expr) : Type 0 where
  pub condition : All (λ m. ClearC (alone M m) w) (combinations (map M fs))
  pub select : All (λ m. All (ClearE (alone M m)) es) (combinations (map M fs))

-- the combinations S come from C, and are no more
pub record Chosen (C S : List Combination) : Type 0 where
  pub from : All (λ m. Any (◌≡◌ m) C) S
  pub size : length S ≤ length C

-- where, at every combination; having and select, at every group of whichever combinations are kept
pub record GroupedClear (M : ℕ → List Row) (fs : List ℕ) (w : Cond) (gs : List Place) (h : Cond) (es : List Expr) : Type 0 where
  pub condition : All (λ m. ClearC (alone M m) w) (combinations (map M fs))
  pub having : {S : List Combination} → Chosen (combinations (map M fs)) S → All (λ k. ClearC (together M gs S k) h) (group_keys gs S)
  pub select : {S : List Combination} → Chosen (combinations (map M fs)) S → All (λ k. All (ClearE (together M gs S k)) es) (group_keys gs S)

-- This covers the negated views of Definitions 2 and 3: they keep other combinations of the same product, and their conditions hold the
-- same expressions
abbrev pub ViewClear : (ℕ → List Row) → View → Type 0
ViewClear M (View.basic fs w es) = BasicClear M fs w es
ViewClear M (View.grouped fs w gs h es) = GroupedClear M fs w gs h es
ViewClear M (View.set op i j) = Unit {0}

-- ---- relations

-- the rows are at most the row bound, and each value lies in its column's range
pub record InBounds (s : Schema) (R : List Row) : Type 0 where
  pub size : length R ≤ s.bound
  pub values : All (Each Inside s.ranges) R

-- every relation lies in its bounds, and every view is worked out within 32 bits
pub record RangesHold (F : File) (d : Database) : Type 0 where
  pub relations : (v : ℕ) → InBounds (schema (schemas F) v) (rows F d v)
  pub views : (v : ℕ) (q : View) → query (length F.tables) F v ≡ some q → ViewClear (below v (rows F d)) q
