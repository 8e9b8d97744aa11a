-- A database is a case by the paper's definitions exactly when `is_case` says so: demand 2, on cases. Assumes nothing.
use mathlib.Core.Path.{◌≡◌, refl, ap₂}
use mathlib.Core.Logic.{inl, inr, ⊎_elim}
use mathlib.Core.Bool.{Bool, true, false, ◌&&◌, cond}
use mathlib.Core.List.{[], ◌∷◌, map}
use mathlib.Core.Option.{Option, none, some}
use Prim.Native.Nat.{ℕ, zero, suc, ◌+◌, ◌-◌, ◌<◌, ◌≤◌}
use native.Mathlib.Omega.{arith}
use lib.Dec.{T}
use lib.ListN.{length, take, length-map}
use lib.Seq.{length-take-le}
use Rattle.value.specs.Bag.{All, Same}
use Rattle.value.proofs.Decides.{Decides, and-dec, by-dec, dec-true, or-dec}
use Rattle.meaning.specs.Algebra.{Bag, below, query}
use Rattle.meaning.specs.Bounds.{aggregates_fit, earlier, every_view, names, schemas, table_schema, view_schema, well_formed}
use Rattle.meaning.specs.Cases.{Case, Inhabited, NTC, NonEmpty, PTC, PTC-query, Wanted}
use Rattle.meaning.specs.Decided.{has_row, is_case, negative, refuted, set_negative, some_row, wanted}
use Rattle.meaning.specs.Evaluation.{row_test}
use Rattle.meaning.specs.Rows.{rows, rows_of}
use Rattle.meaning.specs.Syntax.{Database, File, Goal, SetOperation, View}
use Rattle.meaning.specs.Valid.{Valid}
use Rattle.meaning.proofs.DecidedLists.{T-dec, all-dec, any-dec, cons-all, each-length, is_pos-dec, ltb-dec}
use Rattle.meaning.proofs.DecidedValidity.{valid-dec}
use Rattle.meaning.proofs.Operations.{answer-one, answer-rows}
use Rattle.meaning.proofs.Relations.{below_one, fits, meaning-one, meaning-rows, means-rows, query-split, rows-mean, same_tables}
use Rattle.meaning.proofs.Stacks.{length-stack, stack_all-at}
use Rattle.meaning.proofs.WellFormed.{rules}

-- a file whose views name earlier relations
pub record Stacked (n : ℕ) (F : File) : Type 0 where
  pub earlier : (v : ℕ) (q : View) → query n F v ≡ some q → All (λ i. i < v) (names q)

-- the two relations of a set view
both_earlier : {v i j : ℕ} → All (λ i. i < v) (i ∷ j ∷ []) → (i < v) × (j < v)
both_earlier h = let (p, hs) = cons-all h in (p, (cons-all hs).0)

pub stacked : (F : File) → every_view earlier F ≡ true → Stacked (length F.tables) F
stacked F t =
    record {
      earlier = λ v q e.
          let n = length F.tables in
          let bs = map table_schema F.tables in
          let x = query-split n F v q e in
          let b : length bs ≡ n = length-map F.tables table_schema in
          let l : length bs + (v - n) ≡ v = omega arith in
          let h : earlier (take v (schemas F)) q ≡ true = rw l at (stack_all-at view_schema earlier F.views bs t (v - n) q x.1) in
          let m : length (take v (schemas F)) ≡ v = length-take-le v (schemas F) (rw (length-stack view_schema F.views bs) (omega (arith, x.2))) in
          rw m at (dec-true (all-dec (λ i. ltb-dec i (length (take v (schemas F)))) (names q)) h);
    }

pub some_row-dec : (d : Database) → Decides (some_row d) (NonEmpty d)
unfolding some_row
some_row-dec d = any-dec (λ R. is_pos-dec (length R)) d

-- ---- positive cases

has_row-dec : (B : Bag) → Decides (has_row B) (Inhabited B)
has_row-dec [] = record { sound = λ t. absurd t; complete = λ x. absurd (let h = x.1 in omega arith) }
has_row-dec (r ∷ B) = record { sound = λ t. (r, rw (row_test.self r) (omega arith)); complete = λ x. tt }

pub inhabited-same : {B B' : Bag} → Same row_test B B' → Inhabited B → Inhabited B'
inhabited-same h x = (x.0, rw (h.at x.0) at x.1)

pub query-lt : (F : File) (d : Database) (v : ℕ) (q : View) → query (length d) F v ≡ some q → v ≤ length d + length F.views
query-lt F d v q e = let x = query-split (length d) F v q e in omega (arith, x.2)

module _ (F : File) (d : Database) where
  refuted-cong : (M : ℕ → Bag) (neg neg' : ℕ → Bool) (v : ℕ) → ((i : ℕ) → i < v → neg i ≡ neg' i) → (q : View) → All (λ i. i < v) (names q)
      → refuted M neg (some q) ≡ refuted M neg' (some q)
  refuted-cong M neg neg' v h (View.basic fs w ss) b = refl
  refuted-cong M neg neg' v h (View.grouped fs w gs c ss) b = refl
  refuted-cong M neg neg' v h (View.set op i j) b = ap₂ (set_negative op) (h i (both_earlier b).0) (h j (both_earlier b).1)

  module _ (s : Stacked (length d) F) where
    -- any bound above v will do, so a program may note each relation's answer in turn
    negative-bound : (n m v : ℕ) → v < n → v < m → negative F d n v ≡ negative F d m v
    negative-bound zero m v h k = absurd (omega arith)
    negative-bound (suc n) zero v h k = absurd (omega arith)
    negative-bound (suc n) (suc m) v h k = go (λ i i<v. negative-bound n m i (omega arith) (omega arith)) (query (length d) F v) refl
      where
        go : ((i : ℕ) → i < v → negative F d n i ≡ negative F d m i) → (o : Option View) → query (length d) F v ≡ o
            → refuted (below v (rows F d)) (negative F d n) o ≡ refuted (below v (rows F d)) (negative F d m) o
        go ih none e = refl
        go ih (some q) e = refuted-cong (below v (rows F d)) (negative F d n) (negative F d m) v ih q (s.earlier v q e)

    pub negative-view : (v : ℕ) (q : View) → query (length d) F v ≡ some q
        → negative F d (suc v) v ≡ refuted (below v (rows F d)) (λ i. negative F d (suc i) i) (some q)
    negative-view v q e = rw e (refuted-cong (below v (rows F d)) (negative F d v) (λ i. negative F d (suc i) i) v
        (λ i i<v. negative-bound v (suc i) i i<v (omega arith)) q (s.earlier v q e))

  NTC-nonempty : (v : ℕ) → NTC F d v → NonEmpty d
  unfolding PTC-query
  NTC-nonempty v (NTC.basic e x) = x.0
  NTC-nonempty v (NTC.grouped e x) = ⊎_elim (λ y. y.0) (⊎_elim (λ y. y.0) (λ y. y.0)) x
  NTC-nonempty v (NTC.union {i = i} e x y) = NTC-nonempty i x
  NTC-nonempty v (NTC.intersection-left {i = i} e x) = NTC-nonempty i x
  NTC-nonempty v (NTC.intersection-right {j = j} e x) = NTC-nonempty j x

module _ (F : File) (wf : well_formed F ≡ true) (d : Database) where
  pub PTC-dec : (v : ℕ) → v < length d + length F.views → Decides (some_row d && has_row (rows F d v)) (PTC F d v)
  unfolding PTC
  PTC-dec v l = and-dec (some_row-dec d) (by-dec
      (λ x. (rows F d v, rows-mean F wf d v, x))
      (λ x. inhabited-same (means-rows F wf d v x.0 l x.1) x.2)
      (has_row-dec (rows F d v)))

  query-dec : (v : ℕ) (q : View) → aggregates_fit [] q ≡ true → v ≤ length d + length F.views → NonEmpty d
      → Decides (has_row (rows_of (below v (rows F d)) q)) (PTC-query F d v q)
  unfolding PTC-query
  query-dec v q t l ne =
      let M₀ = rows F d in
      let m₀ = meaning-rows F wf d in
      let a₀ = answer-rows (below v M₀) q t in
      by-dec
      (λ x. (ne, (M₀, rows_of (below v M₀) q, m₀, a₀, x)))
      (λ x. let (M, B, m, a, y) = x.1 in
      inhabited-same (answer-one (below_one v (meaning-one F wf d d (same_tables d) M M₀ m m₀ v l)) q t a a₀) y)
      (has_row-dec (rows_of (below v M₀) q))

  -- ---- negative cases

  module _ (ne : NonEmpty d) where
    -- a view in the place of q. A negated view keeps the rule on aggregates, since its conditions hold the same expressions
    negated-dec : (v : ℕ) {q : View} → query (length d) F v ≡ some q → (q' : View) → (aggregates_fit [] q ≡ true → aggregates_fit [] q' ≡ true)
        → Decides (has_row (rows_of (below v (rows F d)) q')) (PTC-query F d v q')
    negated-dec v e q' same = query-dec v q' (same (fits F wf (length d) v _ e)) (query-lt F d v _ e) ne

    negative-sound : (n v : ℕ) → T (negative F d n v) → NTC F d v
    negative-sound zero v t = absurd t
    negative-sound (suc n) v t = go (negative-sound n) (query (length d) F v) refl t
      where
        go : ((i : ℕ) → T (negative F d n i) → NTC F d i) → (o : Option View) → query (length d) F v ≡ o
            → T (refuted (below v (rows F d)) (negative F d n) o) → NTC F d v
        go ih none e t = absurd t
        go ih (some (View.basic fs w ss)) e t = NTC.basic e ((negated-dec v e _ (λ t. t)).sound t)
        go ih (some (View.grouped fs w gs h ss)) e t = NTC.grouped e
            ((or-dec (negated-dec v e _ (λ t. t)) (or-dec (negated-dec v e _ (λ t. t)) (negated-dec v e _ (λ t. t)))).sound t)
        go ih (some (View.set SetOperation.union i j)) e t =
            let x = (and-dec (T-dec (negative F d n i)) (T-dec (negative F d n j))).sound t in NTC.union e (ih i x.0) (ih j x.1)
        go ih (some (View.set SetOperation.intersection i j)) e t = ⊎_elim (λ x. NTC.intersection-left e (ih i x)) (λ x. NTC.intersection-right e (ih j x))
            ((or-dec (T-dec (negative F d n i)) (T-dec (negative F d n j))).sound t)

    negative-complete : Stacked (length d) F → (n v : ℕ) → v < n → NTC F d v → T (negative F d n v)
    negative-complete s zero v l x = absurd (omega arith)
    negative-complete s (suc n) v l (NTC.basic e x) = rw e ((negated-dec v e _ (λ t. t)).complete x)
    negative-complete s (suc n) v l (NTC.grouped e x) = rw e
        ((or-dec (negated-dec v e _ (λ t. t)) (or-dec (negated-dec v e _ (λ t. t)) (negated-dec v e _ (λ t. t)))).complete x)
    negative-complete s (suc n) v l (NTC.union {i = i} {j = j} e x y) =
        let b = both_earlier (s.earlier v (View.set SetOperation.union i j) e) in
        rw e ((and-dec (T-dec (negative F d n i)) (T-dec (negative F d n j))).complete (negative-complete s n i (omega arith) x, negative-complete s n j (omega arith) y))
    negative-complete s (suc n) v l (NTC.intersection-left {i = i} {j = j} e x) =
        let b = both_earlier (s.earlier v (View.set SetOperation.intersection i j) e) in
        rw e ((or-dec (T-dec (negative F d n i)) (T-dec (negative F d n j))).complete (inl (negative-complete s n i (omega arith) x)))
    negative-complete s (suc n) v l (NTC.intersection-right {i = i} {j = j} e x) =
        let b = both_earlier (s.earlier v (View.set SetOperation.intersection i j) e) in
        rw e ((or-dec (T-dec (negative F d n i)) (T-dec (negative F d n j))).complete (inr (negative-complete s n j (omega arith) x)))

  pub NTC-dec : Stacked (length d) F → (v : ℕ) → Decides (some_row d && negative F d (suc v) v) (NTC F d v)
  NTC-dec s v =
      let both = and-dec (some_row-dec d) (T-dec (negative F d (suc v) v)) in
      record {
        sound = λ t. let x = both.sound t in negative-sound x.0 (suc v) v x.1;
        complete = λ x. let ne = NTC-nonempty F d v x in both.complete (ne, negative-complete ne s (suc v) v (omega arith) x);
      }

  wanted-dec : Stacked (length d) F → (b : Bool) (v : ℕ) → v < length d + length F.views
      → Decides (some_row d && cond b (negative F d (suc v) v) (has_row (rows F d v))) (Wanted F d b v)
  wanted-dec s true v l = NTC-dec s v
  wanted-dec s false v l = PTC-dec v l

  -- is_case decides the paper's definitions
  case-dec : Stacked (length d) F → (g : Goal) → g.view < length d + length F.views → Decides (is_case F g d) (Case F d g)
  unfolding is_case
  case-dec s g l = by-dec (λ x. record { valid = x.0; wanted = x.1 }) (λ c. (c.valid, c.wanted))
      (and-dec (valid-dec F d) (wanted-dec s g.negative g.view l))

-- a valid database has a list of rows for each table, so the rules on the file alone are enough
pub file-dec : (F : File) → well_formed F ≡ true → (g : Goal) → g.view < length F.tables + length F.views
    → (d : Database) → Decides (is_case F g d) (Case F d g)
unfolding is_case
file-dec F wf g l d = record {
  sound = λ t. (over ((and-dec (valid-dec F d) (T-dec (some_row d && wanted F d g))).sound t).0).sound t;
  complete = λ c. (over c.valid).complete c;
}
  where
    over : Valid F d → Decides (is_case F g d) (Case F d g)
    over v =
        let n : length d ≡ length F.tables = each-length v.shaped in
        case-dec F wf d (rw n (stacked F (rules F wf).earlier-views)) g (rw n l)
