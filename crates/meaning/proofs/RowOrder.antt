-- The order of the tables' rows does not count: not for validity, and so not for cases. Assumes nothing.
use mathlib.Core.Path.{◌≡◌, refl, ap, ap₂, ◌∙◌, fun_ext}
use mathlib.Core.Bool.{Bool, true, ◌&&◌, ◌||◌}
use mathlib.Core.List.{List, [], ◌∷◌}
use mathlib.Core.Option.{Option, none, some}
use Prim.Native.Nat.{ℕ, zero, suc, ◌+◌, ◌<◌, ◌≤◌}
use native.Mathlib.Omega.{arith}
use lib.ListN.{length, get_or}
use Rattle.value.specs.Bag.{Same, Test, count, remove}
use Rattle.value.specs.Value.{value_test, in_column}
use Rattle.value.proofs.Bags.{nil-only, pulled, same-tail}
use Rattle.value.proofs.Decides.{by-test, and-cross}
use Rattle.meaning.specs.Algebra.{Bag, SameTables, below, query}
use Rattle.meaning.specs.Bounds.{aggregates_fit, well_formed}
use Rattle.meaning.specs.Decided.{has_row, is_case, negative, refuted, set_negative, some_row, agrees, differ, foreign_key_holds, in_range, key_holds, valid}
use Rattle.meaning.specs.Evaluation.{row_test}
use Rattle.meaning.specs.Lists.{all, any, each, is_pos, pairwise}
use Rattle.meaning.specs.Rows.{rows, rows_of}
use Rattle.meaning.specs.Syntax.{Cond, Database, File, ForeignKey, Goal, Row, Table, View}
use Rattle.meaning.proofs.DecidedCases.{query-lt}
use Rattle.meaning.proofs.ListBags.{all-bag, and-swap, any-bag, length-bag, same-comm}
use Rattle.meaning.proofs.Operations.{rows-one}
use Rattle.meaning.proofs.Relations.{below_one, fits, rows-permuted}

-- a test of each pair that does not see their order
module _ {A : Type 0} (E : Test A) (p : A → A → Bool) (p-comm : (a b : A) → p a b ≡ p b a) where
  pairwise-pulled : (a : A) (S : List A) → 0 < count E a S → pairwise p S ≡ (all (p a) (remove E a S) && pairwise p (remove E a S))
  pairwise-pulled a [] h = absurd (omega arith)
  pairwise-pulled a (x ∷ S) h = by-test (E.same a x)
      (λ e. let ax : a ≡ x = E.sound a x e in rw e (rw ax))
      (λ e. let h' : 0 < count E a S = rw e at h in
      rw (e, pairwise-pulled a S h', pulled E (λ y. ◌&&◌ (p x y)) (λ b c. and-swap (p x b) (p x c)) true a S h', p-comm x a)
      (and-cross (p a x) (all (p x) (remove E a S)) (all (p a) (remove E a S)) (pairwise p (remove E a S))))

  pub pairwise-bag : {R S : List A} → Same E R S → pairwise p R ≡ pairwise p S
  pairwise-bag {R = []} h = rw (nil-only E h)
  pairwise-bag {R = x ∷ R} {S} h =
      let (in-S, rest) = same-tail E h in
      rw (pairwise-pulled x S in-S) (ap₂ ◌&&◌ (all-bag (p x) rest) (pairwise-bag {R = R} rest))

differ_comm : (ks : List Bool) (μ ν : Row) → differ ks μ ν ≡ differ ks ν μ
differ_comm [] μ ν = refl
differ_comm (k ∷ ks) [] [] = refl
differ_comm (k ∷ ks) [] (y ∷ ν) = refl
differ_comm (k ∷ ks) (x ∷ μ) [] = refl
differ_comm (k ∷ ks) (x ∷ μ) (y ∷ ν) = rw (same-comm value_test x y, differ_comm ks μ ν)

-- the tests of one table
in_range-order : (t : Table) (R S : Bag) → Same row_test R S → in_range t R ≡ in_range t S
in_range-order t R S h = rw (length-bag h, all-bag (each in_column t.columns) h)

key-order : (t : Table) (R S : Bag) → Same row_test R S → key_holds t R ≡ key_holds t S
key-order t R S h = rw (pairwise-bag row_test (differ t.key) (differ_comm t.key) h)

later : {R S : Bag} {d d' : Database} → SameTables (R ∷ d) (S ∷ d') → SameTables d d'
later s = record { size = let e = s.size in omega arith; table = λ t. s.table (suc t) }

-- a test of each table that does not see the order of its rows
each-order : (p : Table → Bag → Bool) → ((t : Table) (R S : Bag) → Same row_test R S → p t R ≡ p t S)
    → (ts : List Table) (d d' : Database) → SameTables d d' → each p ts d ≡ each p ts d'
each-order p h [] [] [] s = refl
each-order p h [] [] (S ∷ d') s = absurd (let e = s.size in omega arith)
each-order p h [] (R ∷ d) [] s = absurd (let e = s.size in omega arith)
each-order p h [] (R ∷ d) (S ∷ d') s = refl
each-order p h (t ∷ ts) [] [] s = refl
each-order p h (t ∷ ts) [] (S ∷ d') s = absurd (let e = s.size in omega arith)
each-order p h (t ∷ ts) (R ∷ d) [] s = absurd (let e = s.size in omega arith)
each-order p h (t ∷ ts) (R ∷ d) (S ∷ d') s = ap₂ ◌&&◌ (h t R S (s.table 0)) (each-order p h ts d d' (later s))

some_row-order : (d d' : Database) → SameTables d d' → some_row d ≡ some_row d'
unfolding some_row
some_row-order [] [] s = refl
some_row-order [] (S ∷ d') s = absurd (let e = s.size in omega arith)
some_row-order (R ∷ d) [] s = absurd (let e = s.size in omega arith)
some_row-order (R ∷ d) (S ∷ d') s = ap₂ ◌||◌ (ap is_pos (length-bag (s.table 0))) (some_row-order d d' (later s))

module _ (d d' : Database) (s : SameTables d d') where
  foreign-order : (k : ForeignKey) → foreign_key_holds d k ≡ foreign_key_holds d' k
  foreign-order k =
      all-bag (λ μ. any (agrees k.pairs μ) (get_or d k.parent [])) (s.table k.child)
      ∙ ap (λ p. all p (get_or d' k.child [])) (fun_ext λ μ. any-bag (agrees k.pairs μ) (s.table k.parent))

  pub valid-order : (F : File) → valid F d ≡ valid F d'
  unfolding valid
  valid-order F =
      ap₂ ◌&&◌ (each-order in_range in_range-order F.tables d d' s)
      (ap₂ ◌&&◌ (each-order key_holds key-order F.tables d d' s) (ap (λ p. all p F.keys) (fun_ext foreign-order)))

  module _ (F : File) (wf : well_formed F ≡ true) where
    query-order : (v : ℕ) (q : View) → aggregates_fit [] q ≡ true → v ≤ length d + length F.views
        → has_row (rows_of (below v (rows F d)) q) ≡ has_row (rows_of (below v (rows F d')) q)
    query-order v q t l = ap is_pos (length-bag (rows-one (below_one v (λ i h. rows-permuted F wf d d' s i (omega arith))) q t))

    negative-order : (n v : ℕ) → negative F d n v ≡ negative F d' n v
    negative-order zero v = refl
    negative-order (suc n) v = rw (← s.size) (go (negative-order n) (query (length d) F v) refl)
      where
        go : ((i : ℕ) → negative F d n i ≡ negative F d' n i) → (o : Option View) → query (length d) F v ≡ o
            → refuted (below v (rows F d)) (negative F d n) o ≡ refuted (below v (rows F d')) (negative F d' n) o
        go ih none e = refl
        go ih (some (View.basic fs w ss)) e =
            query-order v (View.basic fs (Cond.negated w) ss) (fits F wf (length d) v (View.basic fs w ss) e) (query-lt F d v (View.basic fs w ss) e)
        go ih (some (View.grouped fs w gs h ss)) e =
            let t = fits F wf (length d) v (View.grouped fs w gs h ss) e in
            let l = query-lt F d v (View.grouped fs w gs h ss) e in
            ap₂ ◌||◌ (query-order v (View.grouped fs (Cond.negated w) gs h ss) t l)
            (ap₂ ◌||◌ (query-order v (View.grouped fs w gs (Cond.negated h) ss) t l) (query-order v (View.grouped fs (Cond.negated w) gs (Cond.negated h) ss) t l))
        go ih (some (View.set op i j)) e = ap₂ (set_negative op) (ih i) (ih j)

    pub case-order : (g : Goal) → g.view < length d + length F.views → is_case F g d ≡ is_case F g d'
    unfolding is_case
    case-order g l = let v = g.view in
        rw (valid-order F, some_row-order d d' s, negative-order (suc v) v, length-bag (rows-permuted F wf d d' s v l))
