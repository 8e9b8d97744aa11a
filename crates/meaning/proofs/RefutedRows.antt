-- Wrong rows of aggregate views, of none of which demand 2 holds: a table of two columns, whose rows are in two groups by the first.
-- Assumes nothing.
use mathlib.Core.Path.{◌≡◌, refl, sym, ◌∙◌}
use mathlib.Core.Bool.{true, false}
use mathlib.Core.List.{List, [], ◌∷◌, map}
use Prim.Native.Nat.{ℕ}
use native.Mathlib.Omega.{arith}
use lib.IntN.{pos}
use lib.ListN.{take}
use Rattle.value.specs.Bag.{count}
use Rattle.value.specs.Integer.{max_z, min_z}
use Rattle.value.specs.Value.{Aggregate, Column, Comparison, Value, compare, finish, holds, more, same_value, start, sure, weight}
use Rattle.meaning.specs.Algebra.{over}
use Rattle.meaning.specs.Bounds.{well_formed}
use Rattle.meaning.specs.Evaluation.{Scope, combination_test, row_test, satisfies, selected}
use Rattle.meaning.specs.Lists.{all, firsts, keep, stack}
use Rattle.meaning.specs.Rows.{group_rows, kept, group_keys, members, relation, rows, rows_of, spread, together}
use Rattle.meaning.specs.Syntax.{Combination, Cond, Database, Expr, File, Place, Row, View}
use Rattle.meaning.proofs.Demand2.{Views, views}

-- ---- the rows of a file, by those given of aggregate views

-- the rows of an aggregate view, from its grouping columns, having, select and kept combinations
abbrev Grouped : Type 0
Grouped = (ℕ → List Row) → List Place → Cond → List Expr → List Combination → List Row

abbrev view_rows : Grouped → (ℕ → List Row) → View → List Row
view_rows groups M (View.basic fs w ss) = rows_of M (View.basic fs w ss)
view_rows groups M (View.grouped fs w gs h ss) = groups M gs h ss (kept M fs w)
view_rows groups M (View.set op i j) = rows_of M (View.set op i j)

abbrev file_rows : Grouped → File → Database → ℕ → List Row
file_rows groups F d v = relation (stack (λ rs q. view_rows groups (relation rs) q) F.views d) v

-- a row for each group that having keeps, given by its grouping values, over the scope given
abbrev row_for : (Row → Scope) → Cond → List Expr → List Row → List Row
row_for scope h ss ks = map (λ k. selected ss (scope k)) (keep (λ k. satisfies h (scope k)) ks)

-- ---- the file: select g, sum(a) group by g, or by g and a, having sum(a) > 8

abbrev digits : Column
digits = record { lo = pos 0; hi = pos 9 }

abbrev g : Place
g = record { item = 0; column = 0 }

abbrev a : Place
a = record { item = 0; column = 1 }

abbrev sum-a : Expr
sum-a = Expr.aggregate Aggregate.sum (Expr.column 0 1)

abbrev file : List Place → File
file gs =
    record {
      tables = record { rows = 4; columns = digits ∷ digits ∷ []; key = false ∷ false ∷ [] } ∷ [];
      keys = [];
      views = View.grouped (0 ∷ []) Cond.always gs (Cond.comparison Comparison.less (Expr.constant (pos 8)) sum-a) (Expr.column 0 0 ∷ sum-a ∷ []) ∷ [];
      goal = record { view = 1; negative = false };
    }

abbrev two : ℕ → ℕ → Row
two m n = Value.number (pos m) ∷ Value.number (pos n) ∷ []

abbrev database : Database
database = (two 1 9 ∷ two 1 5 ∷ two 2 9 ∷ two 2 9 ∷ []) ∷ []

-- rows that lack a row of the view
refuted : (wrong : File → Database → ℕ → List Row) (gs : List Place) (μ : Row) → well_formed (file gs) ≡ true
    → count row_test μ (rows (file gs) database 1) ≡ 1 → count row_test μ (wrong (file gs) database 1) ≡ 0 → Views wrong → ⊥
refuted wrong gs μ w one none of-wrong =
    let right = rows (file gs) database 1 in
    let means = (views (file gs) w database 1 right (omega arith)).1 (λ ν. refl) in
    let same = sym one ∙ (of-wrong (file gs) w database 1 right (omega arith)).0 means μ ∙ none in
    omega arith

-- every aggregate over all kept combinations
abbrev over-all : Grouped
over-all M gs h ss S = row_for (λ k. over M S (spread gs k)) h ss (group_keys gs S)

pub not-over-all : Views (file_rows over-all) → ⊥
unfolding well_formed compare sure holds same_value start weight more finish min_z max_z
not-over-all = refuted (file_rows over-all) (g ∷ []) (two 1 14) refl refl refl

-- equal members of a group counted once
abbrev over-distinct : Grouped
over-distinct M gs h ss S = row_for (λ k. over M (firsts combination_test (members gs S k)) (spread gs k)) h ss (group_keys gs S)

pub not-over-distinct : Views (file_rows over-distinct) → ⊥
unfolding well_formed compare sure holds same_value start weight more finish min_z max_z
not-over-distinct = refuted (file_rows over-distinct) (g ∷ []) (two 2 18) refl refl refl

-- having tested on each member
abbrev having-each : Grouped
having-each M gs h ss S = map (λ k. selected ss (together M gs S k)) (keep (λ k. all (λ m. satisfies h (over M (m ∷ []) m)) (members gs S k)) (group_keys gs S))

pub not-having-each : Views (file_rows having-each) → ⊥
unfolding well_formed compare sure holds same_value start weight more finish min_z max_z
not-having-each = refuted (file_rows having-each) (g ∷ []) (two 1 14) refl refl refl

-- grouped by the first grouping column only
abbrev by_first : Grouped
by_first M gs h ss S = group_rows M (take 1 gs) h ss S

pub not-by-first : Views (file_rows by_first) → ⊥
unfolding well_formed compare sure holds same_value start weight more finish min_z max_z
not-by-first = refuted (file_rows by_first) (g ∷ a ∷ []) (two 1 9) refl refl refl
