-- One look, from any start: the definition of a look gives exactly what "A look" says, in terms of the paper's cases. Assumes nothing.
use mathlib.Core.Path.{◌≡◌, refl, sym, ap, ◌∙◌, subst}
use mathlib.Core.Bool.{Bool, true, false, cond, true≢false}
use mathlib.Core.List.{List, map}
use Prim.Native.Nat.{ℕ, ◌-◌, ◌≤◌, ◌<◌}
use native.Mathlib.Decide.{dec_lt}
use native.Mathlib.Omega.{arith}
use borrow.Author.Tests.{ltb-true, ltb-false, eqb-true, eqb-false}
use lib.Dec.{ltb, eqb}
use lib.IntN.{ℤ}
use lib.ListN.{length, drop, length-append, length-drop, length-map}
use lib.Seq.{take_at, drop_at}
use Rattle.value.specs.Bag.{All}
use Rattle.value.specs.Value.{Value, Column, InColumn, Cell, shown}
use Rattle.value.proofs.Decides.{Decides, dec-true, true-dec}
use Rattle.value.proofs.Values.{between-wider, shown-cell}
use Rattle.meaning.specs.Lists.{Each, all}
use Rattle.meaning.specs.Syntax.{File, Database}
use Rattle.meaning.specs.Cases.{Case}
use Rattle.meaning.specs.Decided.{is_case, seek, is_case_at, shown_in, searched, look}
use Rattle.meaning.specs.Bounds.{ordered}
use Rattle.meaning.specs.Candidates.{cell_count, candidates, cells, database, Held16, SixteenBits}
use Rattle.meaning.specs.Look.{Answer, After, answer_in, zeros, work_size}
use Rattle.meaning.specs.Looks.{Look, CaseAt, NoneFrom, RefusedBy, Fits, end_of, Smallest, Begins, Buffers, LookSays, EveryLook, up_to, RefusedUnchanged}
use Rattle.meaning.proofs.Numbering.{all-cells, cells-within, length-cells}
use Rattle.meaning.proofs.Seeks.{Sought, seeks}

-- both ways of a test
by_cond {ℓ} : {A : Type ℓ} (P : A → Type 0) (x : Bool) (a b : A) → (x ≡ true → P a) → (x ≡ false → P b) → P (cond x a b)
by_cond P true a b f g = f refl
by_cond P false a b f g = g refl

pub apart {ℓ} : {X : Type ℓ} → ◌≡◌ {A = ℕ} 0 1 → X
apart e = absurd (omega arith)

-- the least number from a start of which something holds is one
pub least-one : {P : ℕ → Type 0} (s k j : ℕ) → s ≤ k → s ≤ j → P k → P j → ((i : ℕ) → s ≤ i → i < k → ¬ (P i)) → ((i : ℕ) → s ≤ i → i < j → ¬ (P i)) → k ≡ j
least-one s k j a b p q f g =
    elim (dec_lt k j) [
      | yes h ↦ absurd (g k a h p)
      | no h ↦ elim (dec_lt j k) [ yes l ↦ absurd (f j b l q) | no l ↦ omega arith ]
    ]

-- ---- the instance buffer

-- cells within columns of 16 bits are shown as they are
shown-cells : {cs : List Column} {vs : List Value} → All Held16 cs → Each InColumn cs vs → Each Cell vs (map shown vs)
shown-cells All.nil Each.nil = Each.nil
shown-cells (All.cons h hs) (Each.cons w ws) = Each.cons (shown-cell (between-wider h.low h.high w.bounds)) (shown-cells hs ws)

module _ (F : File) (o : all ordered F.tables ≡ true) (small : SixteenBits F) where
  begins : (k : ℕ) (inst : List ℤ) → cell_count F ≤ length inst → Begins F k inst (shown_in F k inst)
  begins k inst h =
      let front = map shown (cells F k) in
      let rest = drop (cell_count F) inst in
      let n : length front ≡ cell_count F = length-map (cells F k) shown ∙ length-cells F k in
      record {
        front = rw (take_at front rest (cell_count F) n) (shown-cells (all-cells small) (cells-within F o k));
        rest = drop_at front rest (cell_count F) n;
        size = omega (arith, length-append front rest, n, length-drop (cell_count F) inst);
      }

-- ---- when an answer is given

module _ (F : File) (start count : ℕ) (work inst : List ℤ) where
  -- what an answer says
  abbrev Said : Answer → Type 0
  Said (Answer.case k) = Fits F start work inst × Smallest F start (end_of F start count) k
  Said Answer.no_case = Fits F start work inst × (end_of F start count ≡ candidates F) × NoneFrom F start (candidates F)
  Said (Answer.spent s) = Fits F start work inst × (s ≡ end_of F start count) × (s < candidates F) × NoneFrom F start s
  Said (Answer.refused n l) = RefusedBy F start work inst n × (l ≡ 0)

  unfit : {n : ℕ} → RefusedBy F start work inst n → ¬ (Fits F start work inst)
  unfit (RefusedBy.short-work h) f = omega arith
  unfit (RefusedBy.short-instance g h) f = omega arith
  unfit (RefusedBy.late-start g h i) f = omega arith

  one-refusal : {m n : ℕ} → RefusedBy F start work inst m → RefusedBy F start work inst n → m ≡ n
  one-refusal (RefusedBy.short-work h) (RefusedBy.short-work l) = refl
  one-refusal (RefusedBy.short-work h) (RefusedBy.short-instance k l) = absurd (omega arith)
  one-refusal (RefusedBy.short-work h) (RefusedBy.late-start k l m) = absurd (omega arith)
  one-refusal (RefusedBy.short-instance g h) (RefusedBy.short-work l) = absurd (omega arith)
  one-refusal (RefusedBy.short-instance g h) (RefusedBy.short-instance k l) = refl
  one-refusal (RefusedBy.short-instance g h) (RefusedBy.late-start k l m) = absurd (omega arith)
  one-refusal (RefusedBy.late-start g h i) (RefusedBy.short-work l) = absurd (omega arith)
  one-refusal (RefusedBy.late-start g h i) (RefusedBy.short-instance k l) = absurd (omega arith)
  one-refusal (RefusedBy.late-start g h i) (RefusedBy.late-start k l m) = refl

  -- a case within the stretch is not passed over
  not_none : {k n : ℕ} → Smallest F start (end_of F start count) k → k < n → ¬ (NoneFrom F start n)
  not_none {k} s h f = f k s.from h s.hit

  -- no two answers are said of one look
  one-said : (a b : Answer) → Said a → Said b → a ≡ b
  one-said (Answer.case k) (Answer.case j) p q =
      ap Answer.case (least-one start k j p.1.from q.1.from p.1.hit q.1.hit p.1.none q.1.none)
  one-said (Answer.case k) Answer.no_case p q = absurd (not_none p.1 (omega arith) q.2)
  one-said (Answer.case k) (Answer.spent s) p q = absurd (not_none p.1 (omega arith) q.3)
  one-said (Answer.case k) (Answer.refused n l) p q = absurd (unfit q.0 p.0)
  one-said Answer.no_case (Answer.case k) p q = absurd (not_none q.1 (omega arith) p.2)
  one-said Answer.no_case Answer.no_case p q = refl
  one-said Answer.no_case (Answer.spent s) p q = absurd (omega arith)
  one-said Answer.no_case (Answer.refused n l) p q = absurd (unfit q.0 p.0)
  one-said (Answer.spent s) (Answer.case k) p q = absurd (not_none q.1 (omega arith) p.3)
  one-said (Answer.spent s) Answer.no_case p q = absurd (omega arith)
  one-said (Answer.spent s) (Answer.spent t) p q = ap Answer.spent (omega arith)
  one-said (Answer.spent s) (Answer.refused n l) p q = absurd (unfit q.0 p.0)
  one-said (Answer.refused n l) (Answer.case k) p q = absurd (unfit p.0 q.0)
  one-said (Answer.refused n l) Answer.no_case p q = absurd (unfit p.0 q.0)
  one-said (Answer.refused n l) (Answer.spent s) p q = absurd (unfit p.0 q.0)
  one-said (Answer.refused n l) (Answer.refused m k) p q = rw (one-refusal p.0 q.0, p.1, q.1)

  -- so what is said of the answer is all that a look says
  says : (r : After) → Said (answer_in r) → Buffers F work inst r → LookSays F start count work inst r
  says r p b =
      let a = answer_in r in
      record {
        case-when = λ k. (λ e. subst Said e p, one-said a (Answer.case k) p);
        no-case-when = (λ e. subst Said e p, one-said a Answer.no_case p);
        spent-when = λ s. (λ e. subst Said e p, one-said a (Answer.spent s) p);
        refused-when = λ n l. (λ e. subst Said e p, one-said a (Answer.refused n l) p);
        buffers = b;
      }

-- ---- the definition of a look

module _ (F : File) (o : all ordered F.tables ≡ true) (small : SixteenBits F) (decides : (d : Database) → Decides (is_case F F.goal d) (Case F d F.goal)) where
  abbrev N : ℕ
  N = candidates F

  -- the test of a candidate says whether it is a case
  is-case : (k : ℕ) → is_case_at F k ≡ true → CaseAt F k
  unfolding is_case_at
  is-case k e = dec-true (decides (database F k)) e

  no-case : (k : ℕ) → is_case_at F k ≡ false → ¬ (CaseAt F k)
  unfolding is_case_at
  no-case k e c = true≢false (sym (true-dec (decides (database F k)) c) ∙ e)

  module _ (start count : ℕ) (work inst : List ℤ) where
    -- the answer and the buffers
    abbrev Result : After → Type 0
    Result r = Said F start count work inst (answer_in r) × Buffers F work inst r

    searches : Fits F start work inst → Result (searched F start count work inst)
    searches f =
        by_cond Result (ltb k end) _ _
        (λ l. let g = ltb-true k end l in (
          (f, record { from = s.from; to = g; hit = is-case k (s.hit (omega arith)); none = λ j a b. no-case j (s.none j a b) }),
          (refl, begins F o small k inst f.buffer),
        ))
        (λ l. let g = ltb-false k end l in
        by_cond (λ a. Result (After.after a (zeros work) inst)) (eqb end N) _ _
        (λ e. let h = eqb-true end N e in ((f, h, λ j a b. passed g j a (omega arith)), (refl, refl)))
        (λ e. let h = eqb-false end N e in ((f, refl, omega arith, passed g), (refl, refl))))
      where
        end : ℕ
        end = end_of F start count

        k : ℕ
        k = seek (is_case_at F) start (end - start)

        s : Sought (is_case_at F) start (end - start) k
        s = seeks (is_case_at F) start (end - start)

        passed : end ≤ k → NoneFrom F start end
        passed g j a b = no-case j (s.none j a (omega arith))

    finds : Result (look F start count work inst)
    unfolding look
    finds =
        by_cond Result (ltb (length work) work_size) _ _ (λ t. ((RefusedBy.short-work (ltb-true _ _ t), refl), (refl, refl)))
        (λ t. by_cond Result (ltb (length inst) (cell_count F)) _ _ (λ u. ((RefusedBy.short-instance (ltb-false _ _ t) (ltb-true _ _ u), refl), (refl, refl)))
        (λ u. by_cond Result (ltb N start) _ _ (λ v. ((RefusedBy.late-start (ltb-false _ _ t) (ltb-false _ _ u) (ltb-true _ _ v), refl), (refl, refl)))
        (λ v. searches (record { area = ltb-false _ _ t; buffer = ltb-false _ _ u; early = ltb-false _ _ v }))))

  pub look-says : EveryLook F (look F)
  look-says start count work inst = let r = finds start count work inst in says F start count work inst (look F start count work inst) r.0 r.1

-- ---- what follows for any look that says this

module _ (F : File) (look : Look) (Says-All : EveryLook F look) where
  -- "and so passes over no case: from its start up to its k, its next or, at "no case", N, that end left out, no candidate is a case"
  pub passes-over-none : (start count : ℕ) (work inst : List ℤ) → NoneFrom F start (up_to F (answer_in (look start count work inst)))
  passes-over-none start count work inst = go (answer_in (look start count work inst)) refl
    where
      go : (a : Answer) → answer_in (look start count work inst) ≡ a → NoneFrom F start (up_to F a)
      go (Answer.case k) e = (((Says-All start count work inst).case-when k).0 e).1.none
      go Answer.no_case e = ((Says-All start count work inst).no-case-when.0 e).2
      go (Answer.spent s) e = (((Says-All start count work inst).spent-when s).0 e).3
      go (Answer.refused n l) e = λ j a b. absurd (omega arith)

  pub refused-unchanged : RefusedUnchanged look
  refused-unchanged start count work inst n l w i e = subst (Buffers F work inst) e (Says-All start count work inst).buffers
