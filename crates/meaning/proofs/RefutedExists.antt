-- Wrong rows of a view whose where looks into another relation, of none of which demand 2 holds: select a from t where exists (u where b = a),
-- where t has the rows 1 and 2, and u the rows 3, 1 and 1. Assumes nothing.
use mathlib.Core.Path.{◌≡◌, refl, sym, ◌∙◌}
use mathlib.Core.Bool.{Bool, false}
use mathlib.Core.List.{List, [], ◌∷◌, ◌++◌, map}
use Prim.Native.Nat.{ℕ}
use native.Mathlib.Omega.{arith}
use lib.IntN.{pos}
use lib.ListN.{take}
use Rattle.value.specs.Bag.{count}
use Rattle.value.specs.Value.{Comparison, Value, compare, holds, same_value, sure}
use Rattle.meaning.specs.Bounds.{well_formed}
use Rattle.meaning.specs.Evaluation.{alone, row_test, satisfies, selected}
use Rattle.meaning.specs.Lists.{all, any, combinations, keep, stack}
use Rattle.meaning.specs.Rows.{kept, relation, rows, rows_of}
use Rattle.meaning.specs.Syntax.{Combination, Cond, Database, Expr, File, Row, Table, View}
use Rattle.meaning.proofs.Demand2.{Views, views}

-- ---- the rows of a file, by the combinations that a where keeps

-- from the rows of the relations, the from list and the where
abbrev Keeps : Type 0
Keeps = (ℕ → List Row) → List ℕ → Cond → List Combination

abbrev view_rows : Keeps → (ℕ → List Row) → View → List Row
view_rows keeps M (View.basic fs w ss) = map (λ m. selected ss (alone M m)) (keeps M fs w)
view_rows keeps M (View.grouped fs w gs h ss) = rows_of M (View.grouped fs w gs h ss)
view_rows keeps M (View.set op i j) = rows_of M (View.set op i j)

abbrev file_rows : Keeps → File → Database → ℕ → List Row
file_rows keeps F d v = relation (stack (λ rs q. view_rows keeps (relation rs) q) F.views d) v

-- where it is an exists, by its relation and its condition; any other where is as it is
abbrev keeps_by : ((ℕ → List Row) → List ℕ → ℕ → Cond → List Combination) → Keeps
keeps_by f M fs Cond.always = kept M fs Cond.always
keeps_by f M fs (Cond.comparison op a b) = kept M fs (Cond.comparison op a b)
keeps_by f M fs (Cond.negated c) = kept M fs (Cond.negated c)
keeps_by f M fs (Cond.connection op c d) = kept M fs (Cond.connection op c d)
keeps_by f M fs (Cond.exists i c) = f M fs i c

-- by a test of each combination
abbrev tested_by : ((ℕ → List Row) → ℕ → Cond → Combination → Bool) → Keeps
tested_by exists = keeps_by (λ M fs i c. keep (exists M i c) (combinations (map M fs)))

-- ---- the file

abbrev table : ℕ → Table
table n = record { rows = n; columns = record { lo = pos 0; hi = pos 9 } ∷ []; key = false ∷ [] }

abbrev file : File
file =
    record {
      tables = table 2 ∷ table 3 ∷ [];
      keys = [];
      views = View.basic (0 ∷ []) (Cond.exists 1 (Cond.comparison Comparison.equal (Expr.column 1 0) (Expr.column 0 0))) (Expr.column 0 0 ∷ []) ∷ [];
      goal = record { view = 2; negative = false };
    }

abbrev row : ℕ → Row
row n = Value.number (pos n) ∷ []

abbrev instance-d : Database
instance-d = (row 1 ∷ row 2 ∷ []) ∷ (row 3 ∷ row 1 ∷ row 1 ∷ []) ∷ []

-- the view has the row 1 once
once : count row_test (row 1) (rows file instance-d 2) ≡ 1
unfolding compare sure holds same_value
once = refl

-- other rows have it otherwise
refuted : (wrong : File → Database → ℕ → List Row) (n : ℕ) → (n ≡ 1 → ⊥) → count row_test (row 1) (wrong file instance-d 2) ≡ n → Views wrong → ⊥
unfolding well_formed
refuted wrong n other e of-wrong =
    let right = rows file instance-d 2 in
    let means = (views file refl instance-d 2 right (omega arith)).1 (λ ν. refl) in
    other (sym e ∙ sym ((of-wrong file refl instance-d 2 right (omega arith)).0 means (row 1)) ∙ once)

-- ---- the wrong ones

-- "when some row satisfies the condition": not every row
abbrev every-row : Keeps
every-row = tested_by (λ M i c m. all (λ r. satisfies c (alone M (m ++ (r ∷ [])))) (M i))

pub not-every-row : Views (file_rows every-row) → ⊥
unfolding compare sure holds same_value
not-every-row = refuted (file_rows every-row) 0 (λ e. omega arith) refl

-- nor the first one
abbrev first-row : Keeps
first-row = tested_by (λ M i c m. any (λ r. satisfies c (alone M (m ++ (r ∷ [])))) (take 1 (M i)))

pub not-first-row : Views (file_rows first-row) → ⊥
unfolding compare sure holds same_value
not-first-row = refuted (file_rows first-row) 0 (λ e. omega arith) refl

-- "with outer columns visible": not the row alone
abbrev row-alone : Keeps
row-alone = tested_by (λ M i c m. any (λ r. satisfies c (alone M (r ∷ []))) (M i))

pub not-row-alone : Views (file_rows row-alone) → ⊥
unfolding compare sure holds same_value
not-row-alone = refuted (file_rows row-alone) 0 (λ e. omega arith) refl

-- a test, and no from item of the view: not a combination for each row that satisfies it
abbrev each_row : Keeps
each_row = keeps_by (λ M fs i c. kept M (fs ++ (i ∷ [])) c)

pub not-each-row : Views (file_rows each_row) → ⊥
unfolding compare sure holds same_value
not-each-row = refuted (file_rows each_row) 2 (λ e. omega arith) refl
