-- Worked examples beside the marked ones, which are in the crate `marked`: a table of files and databases with what each must give, and
-- one theorem that covers the table, by computation. Assumes nothing.
use mathlib.Core.Path.{◌≡◌, refl}
use mathlib.Core.Bool.{Bool, true, false}
use mathlib.Core.List.{List, [], ◌∷◌, map}
use Prim.Native.Nat.{ℕ}
use lib.IntN.{pos}
use Rattle.value.specs.Bag.{All}
use Rattle.value.specs.Integer.{max_z, min_z}
use Rattle.value.specs.Value.{Aggregate, Column, Comparison, Value, between, compare, finish, holds, more, negate, same_value, start, sure, weight}
use Rattle.value.proofs.Decides.{Decides, dec-true}
use Rattle.value.proofs.Values.{all_map}
use Rattle.meaning.specs.Algebra.{MeaningOf}
use Rattle.meaning.specs.Bounds.{well_formed}
use Rattle.meaning.specs.Cases.{Case}
use Rattle.meaning.specs.Decided.{is_case, some_row, valid}
use Rattle.meaning.specs.Rows.{rows}
use Rattle.meaning.specs.Syntax.{Cond, Database, Expr, File, Row, SetOperation, View}
use Rattle.meaning.proofs.Demand2.{cases}
use Rattle.meaning.proofs.Relations.{rows-mean}

-- ---- short forms

abbrev numbers : List ℕ → Row
numbers ns = map (λ n. Value.number (pos n)) ns

-- rows of one column
abbrev column : List ℕ → List Row
column ns = map (λ n. numbers (n ∷ [])) ns

abbrev a : Expr
a = Expr.column 0 0

abbrev above : ℕ → Expr → Cond
above n e = Cond.comparison Comparison.less (Expr.constant (pos n)) e

abbrev sum_over : Expr
sum_over = Expr.aggregate Aggregate.sum a

-- over the second column
abbrev total_of : Aggregate → Expr
total_of op = Expr.aggregate op (Expr.column 0 1)

abbrev digits : Column
digits = record { lo = pos 0; hi = pos 9 }

-- ---- the table

record Sample : Type 0 where
  file : File
  db : Database
  -- the rows of the goal's view
  last : List Row
  case : Bool

-- a union of a basic view (a > 3) and an aggregate view (the sum of all, if above 9), turned down
abbrev mixed : File
mixed =
    record {
      tables = record { rows = 2; columns = digits ∷ []; key = false ∷ [] } ∷ [];
      keys = [];
      views =
          View.basic (0 ∷ []) (above 3 a) (a ∷ [])
          ∷ View.grouped (0 ∷ []) Cond.always [] (above 9 sum_over) (sum_over ∷ [])
          ∷ View.set SetOperation.union 1 2
          ∷ [];
      goal = record { view = 3; negative = true };
    }

-- a table of two columns whose second names a row of the same table by its key
abbrev tree : File
tree =
    record {
      tables = record { rows = 2; columns = digits ∷ digits ∷ []; key = true ∷ false ∷ [] } ∷ [];
      keys = record { child = 0; parent = 0; pairs = record { child = 1; parent = 0 } ∷ [] } ∷ [];
      views = View.basic (0 ∷ []) Cond.always (a ∷ []) ∷ [];
      goal = record { view = 1; negative = false };
    }

-- each of a group's aggregates over its second column, for groups of at least two members
abbrev grouped : File
grouped =
    record {
      tables = record { rows = 5; columns = digits ∷ digits ∷ []; key = false ∷ false ∷ [] } ∷ [];
      keys = [];
      views =
          View.grouped (0 ∷ []) Cond.always (record { item = 0; column = 0 } ∷ []) (above 1 (total_of Aggregate.count))
          (a ∷ total_of Aggregate.count ∷ total_of Aggregate.sum ∷ total_of Aggregate.minimum ∷ total_of Aggregate.maximum ∷ [])
          ∷ [];
      goal = record { view = 1; negative = false };
    }

abbrev two : ℕ → ℕ → Row
two m n = numbers (m ∷ n ∷ [])

samples : List Sample
samples =
    -- both operands of the union must be negative: 2 is not above 3, and the sum 6 not above 9. 4 and 5 are above 3; the sum 10 is above 9
    record { file = mixed; db = column (2 ∷ 4 ∷ []) ∷ []; last = column (4 ∷ []); case = true }
    ∷ record { file = mixed; db = column (4 ∷ 5 ∷ []) ∷ []; last = column (4 ∷ 5 ∷ []); case = false }
    ∷ record { file = mixed; db = column (1 ∷ 9 ∷ []) ∷ []; last = column (9 ∷ 10 ∷ []); case = false }
    -- a child row may be its own parent, and one that has no parent spoils the database
    ∷ record { file = tree; db = (two 1 1 ∷ two 2 1 ∷ []) ∷ []; last = column (1 ∷ 2 ∷ []); case = true }
    ∷ record { file = tree; db = (two 1 1 ∷ two 2 3 ∷ []) ∷ []; last = column (1 ∷ 2 ∷ []); case = false }
    -- two groups, of 3 and 2 members, which alternate; then a third of one member, which having turns down
    ∷ record {
      file = grouped;
      db = (two 2 5 ∷ two 1 4 ∷ two 2 3 ∷ two 1 7 ∷ two 2 5 ∷ []) ∷ [];
      last = map numbers ((2 ∷ 3 ∷ 13 ∷ 3 ∷ 5 ∷ []) ∷ (1 ∷ 2 ∷ 11 ∷ 4 ∷ 7 ∷ []) ∷ []);
      case = true;
    }
    ∷ record {
      file = grouped;
      db = (two 2 5 ∷ two 1 4 ∷ two 2 3 ∷ two 1 7 ∷ two 3 9 ∷ []) ∷ [];
      last = map numbers ((2 ∷ 2 ∷ 8 ∷ 3 ∷ 5 ∷ []) ∷ (1 ∷ 2 ∷ 11 ∷ 4 ∷ 7 ∷ []) ∷ []);
      case = true;
    }
    ∷ []

-- ---- the theorem

-- a fact, or that it does not hold
abbrev Holds : Bool → Type 0 → Type 0
Holds true P = P
Holds false P = ¬ P

decided : {b : Bool} {P : Type 0} → Decides b P → (c : Bool) → b ≡ c → Holds c P
decided d true e = dec-true d e
decided d false e = λ p. rw e at (d.complete p)

-- what a sample says, by the paper's definitions: the meaning of the goal's view, and whether the database is a case
Right : Sample → Type 0
Right s = (let F = s.file in MeaningOf F s.db F.goal.view s.last) × Holds s.case (Case s.file s.db s.file.goal)

-- the same as a test
Computed : Sample → Type 0
Computed s =
    let F = s.file in
    (well_formed F ≡ true) × (rows F s.db F.goal.view ≡ s.last) × (is_case F F.goal s.db ≡ s.case)

right : (s : Sample) → Computed s → Right s
unfolding Computed Right
right s (w, r, c) = let F = s.file in (rw r at (rows-mean F w s.db F.goal.view), decided (cases F w s.db) s.case c)

computed : All Computed samples
unfolding samples Computed is_case valid some_row well_formed compare sure holds negate same_value between start weight more finish min_z max_z
computed =
    All.cons (refl, refl, refl) (All.cons (refl, refl, refl) (All.cons (refl, refl, refl) (All.cons (refl, refl, refl)
    (All.cons (refl, refl, refl) (All.cons (refl, refl, refl) (All.cons (refl, refl, refl) All.nil))))))

samples-right : All Right samples
samples-right = all_map right computed
