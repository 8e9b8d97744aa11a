-- The meaning of the whole stack of views: the rows that the program computes are a meaning, and there is no other. Assumes nothing.
use mathlib.Core.Path.{◌≡◌, refl, sym, ap, ◌∙◌, fun_ext}
use mathlib.Core.Bool.{true}
use mathlib.Core.List.{List, [], map}
use Prim.Native.Nat.{ℕ, zero, suc, ◌+◌, ◌-◌, ◌<◌, ◌≤◌}
use native.Mathlib.Omega.{arith}
use mathlib.Core.Option.{some, none-ne-some}
use lib.Seq.{get_or-take}
use lib.ListN.{take, length-take, length, get_or, get_elem?, get_or-eq_default}
use Rattle.value.specs.Bag.{Same}
use Rattle.meaning.specs.Algebra.{Bag, IsMeaning, MeaningOf, SameTables, below, query}
use Rattle.meaning.specs.Bounds.{Schema, aggregates_fit, schemas, table_schema, view_schema, well_formed}
use Rattle.meaning.specs.Evaluation.{row_test}
use Rattle.meaning.specs.Rows.{relation, relations, rows, rows_of}
use Rattle.meaning.specs.Syntax.{Database, File, View}
use Rattle.meaning.proofs.ListBags.{same_refl}
use Rattle.meaning.proofs.Operations.{answer-one, answer-rows}
use Rattle.meaning.proofs.Stacks.{by-lt, get_elem-lt, get_elem-some, stack_at, stack-keeps, stack_all-at}
use Rattle.meaning.proofs.WellFormed.{rules}

-- a relation with a query stands behind the tables
pub query-split : (n : ℕ) (F : File) (v : ℕ) (q : View) → query n F v ≡ some q → (n ≤ v) × (get_elem? F.views (v - n) ≡ some q) × (v < n + length F.views)
query-split n F v q e = by-lt v n
    (λ t h. absurd (none-ne-some q (rw t at e)))
    (λ t h. let g : get_elem? F.views (v - n) ≡ some q = rw t at e in let k = get_elem-lt F.views (v - n) q g in (h, g, omega arith))

-- the relations before relation v, as a list and by number
pub relation-take : (rs : List Bag) (v : ℕ) → relation (take v rs) ≡ below v (relation rs)
relation-take rs v = fun_ext λ i. by-lt i v
    (λ e h. rw e (get_or-take v rs i [] h))
    (λ e h. rw e (get_or-eq_default (take v rs) [] (simp length-take (omega arith))))

-- what a program's loop over the relations goes by: a table's rows, and a view's over the relations before it
pub rows-table : (F : File) (d : Database) (t : ℕ) → t < length d → rows F d t ≡ get_or d t []
rows-table F d t h = stack-keeps (λ rs q. rows_of (relation rs) q) [] F.views d t h

pub rows-view : (F : File) (d : Database) (v : ℕ) (q : View) → query (length d) F v ≡ some q → rows F d v ≡ rows_of (below v (rows F d)) q
rows-view F d v q e =
    let x = query-split (length d) F v q e in
    let l : length d + (v - length d) ≡ v = omega arith in
    rw l at (stack_at (λ rs q. rows_of (relation rs) q) [] F.views d (v - length d) q x.1) ∙ ap (λ M. rows_of M q) (relation-take (relations F d) v)

-- over the relations before relation n
pub below_one : {M M' : ℕ → Bag} (n : ℕ) → ((i : ℕ) → i < n → Same row_test (M i) (M' i)) → (i : ℕ) → Same row_test (below n M i) (below n M' i)
below_one n h i = by-lt i n (λ e l. rw e (h i l)) (λ e l. rw e same_refl)

-- the rule on aggregates looks at the view alone
fits-alone : (ss : List Schema) (q : View) → aggregates_fit ss q ≡ aggregates_fit [] q
fits-alone ss (View.basic fs w es) = refl
fits-alone ss (View.grouped fs w gs h es) = refl
fits-alone ss (View.set op i j) = refl

pub same_tables : (d : Database) → SameTables d d
same_tables d = record { size = refl; table = λ t. same_refl }

module _ (F : File) (w : well_formed F ≡ true) where
  -- each view keeps the rule on aggregates
  pub fits : (n v : ℕ) (q : View) → query n F v ≡ some q → aggregates_fit [] q ≡ true
  fits n v q e =
      let k = v - n in
      let bs = map table_schema F.tables in
      sym (fits-alone (take (length bs + k) (schemas F)) q)
      ∙ stack_all-at view_schema aggregates_fit F.views bs (rules F w).aggregates k q (query-split n F v q e).1

  -- the rows of the relations are a meaning
  pub meaning-rows : (d : Database) → IsMeaning F d (rows F d)
  meaning-rows d = record {
    table = λ t h. rw (rows-table F d t h) same_refl;
    view = λ v q e. rw (rows-view F d v q e) (answer-rows (below v (rows F d)) q (fits (length d) v q e));
  }

  -- two meanings are the same bags, also over instances that differ in the order of their rows
  module _ (d d' : Database) (s : SameTables d d') (M M' : ℕ → Bag) (m : IsMeaning F d M) (m' : IsMeaning F d' M') where
    view-one : (v : ℕ) (q : View) → query (length d) F v ≡ some q → ((i : ℕ) → i < v → Same row_test (M i) (M' i)) → Same row_test (M v) (M' v)
    view-one v q e before = answer-one (below_one v before) q (fits (length d) v q e) (m.view v q e) (m'.view v q (rw s.size at e))

    pub meaning-one : (n : ℕ) → n ≤ length d + length F.views → (i : ℕ) → i < n → Same row_test (M i) (M' i)
    meaning-one zero l i h = absurd (omega arith)
    meaning-one (suc n) l i h = by-lt i n (λ e i<n. meaning-one n (omega arith) i i<n) (λ e n≤i. by-lt i (length d)
        (λ e t. record { at = λ μ. (m.table i t).at μ ∙ (s.table i).at μ ∙ sym ((m'.table i (rw (← s.size) t)).at μ) })
        (λ e t.
        let g = get_elem-some F.views (i - length d) (omega arith) in
        view-one i g.0 (rw e g.1) (λ j j<i. meaning-one n (omega arith) j (omega arith))))

  -- ════ demand 2, on views: the rows of v, counted as a bag, are a meaning of v, and every meaning of v is that bag
  pub rows-mean : (d : Database) (v : ℕ) → MeaningOf F d v (rows F d v)
  unfolding MeaningOf
  rows-mean d v = (rows F d, meaning-rows d, same_refl)

  pub means-rows : (d : Database) (v : ℕ) (B : Bag) → v < length d + length F.views → MeaningOf F d v B → Same row_test B (rows F d v)
  unfolding MeaningOf
  means-rows d v B h (M, m, e) =
      let x = meaning-one d d (same_tables d) M (rows F d) m (meaning-rows d) (suc v) h v (omega arith) in
      record { at = λ μ. sym (e.at μ) ∙ x.at μ }

  -- the order of the tables' rows does not count
  pub rows-permuted : (d d' : Database) → SameTables d d' → (v : ℕ) → v < length d + length F.views → Same row_test (rows F d v) (rows F d' v)
  rows-permuted d d' s v h = meaning-one d d' s (rows F d) (rows F d') (meaning-rows d) (meaning-rows d') (suc v) h v (omega arith)
