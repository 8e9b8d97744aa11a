-- Looks from any starts, in any order, that together cover all candidates: the smallest case among their answers is the first case, and
-- where no look answers a case, no database is one. A search that is shared out rests on this. Assumes nothing.
use mathlib.Core.Path.{◌≡◌, refl}
use mathlib.Core.Bool.{true}
use mathlib.Core.List.{List}
use Prim.Native.Nat.{ℕ, ◌+◌, ◌≤◌, ◌<◌}
use native.Mathlib.Decide.{dec_lt}
use native.Mathlib.Omega.{arith}
use Rattle.value.specs.Bag.{All}
use Rattle.meaning.specs.Lists.{all}
use Rattle.meaning.specs.Syntax.{File}
use Rattle.meaning.specs.Bounds.{ordered}
use Rattle.meaning.specs.Candidates.{candidates, database}
use Rattle.meaning.specs.Look.{Answer}
use Rattle.meaning.specs.Looks.{Look, CaseAt, First, NoDatabase, LookSays, EveryLook, Stretch, Accepted, answer_to, Covered, Least, EveryCover}
use Rattle.meaning.proofs.Elements.{all-given, any-map, any-all}
use Rattle.meaning.proofs.ListOfLooks.{no-database}

module _ (F : File) (look : Look) (says : EveryLook F look) where
  -- what the look of a stretch says
  said : (q : Stretch) → LookSays F q.start q.count q.work q.inst (look q.start q.count q.work q.inst)
  said q = says q.start q.count q.work q.inst

  abbrev Over : ℕ → Stretch → Type 0
  Over j q = Accepted (answer_to F look q) × (q.start ≤ j) × (j < q.start + q.count)

  -- an answered case is one
  answered-case : (q : Stretch) (k : ℕ) → answer_to F look q ≡ Answer.case k → (k < candidates F) × CaseAt F k
  answered-case q k e = let (_, s) = ((said q).case-when k).0 e in (omega arith, s.hit)

  -- an accepted look over a case answers a case that is no larger
  sees : (q : Stretch) (j : ℕ) → j < candidates F → CaseAt F j → Over j q → (k : ℕ) × (k ≤ j) × (answer_to F look q ≡ Answer.case k)
  sees q j h c (accepted, from, to) = go (answer_to F look q) refl accepted
    where
      go : (a : Answer) → answer_to F look q ≡ a → Accepted a → (k : ℕ) × (k ≤ j) × (answer_to F look q ≡ Answer.case k)
      go (Answer.case k) e _ =
          let (_, s) = ((said q).case-when k).0 e in
          (k, elim (dec_lt j k) [ yes l ↦ absurd (s.none j from l c) | no l ↦ omega arith ], e)
      go Answer.no_case e _ = absurd (((said q).no-case-when.0 e).2 j from h c)
      go (Answer.spent s) e _ = let (_, end, _, none) = ((said q).spent-when s).0 e in absurd (none j from (omega arith) c)
      go (Answer.refused n l) e b = absurd b

  module _ (qs : List Stretch) (covered : Covered F look qs) where
    -- so a case below N has an answered case that is no larger
    seen : {C : Type 0} (j : ℕ) → j < candidates F → CaseAt F j → {P : Stretch → Type 0} → All P qs
        → ((q : Stretch) → P q → (k : ℕ) → k ≤ j → answer_to F look q ≡ Answer.case k → C) → C
    seen j h c ps f = any-all ps (covered j h) (λ q p o. let (k, l, e) = sees q j h c o in f q p k l e)

    first-least : (k : ℕ) → First F k → Least F look qs k
    first-least k (h, c, none) =
        let below : (q : Stretch) (j : ℕ) → answer_to F look q ≡ Answer.case j → k ≤ j =
        λ q j e. elim (dec_lt j k) [ yes l ↦ absurd (none j l (answered-case q j e).1) | no l ↦ omega arith ] in
        record {
          answered = any-map (λ q o. let (j, l, e) = sees q k h c o in let same : j ≡ k = omega (arith, below q j e) in rw same at e) (covered k h);
          least = all-given below qs;
        }

    least_first : (k : ℕ) → Least F look qs k → First F k
    least_first k s =
        let (h, c) = any-all (all-given answered-case qs) s.answered (λ q f e. f k e) in
        (h, c, λ j l d. seen j (omega arith) d s.least (λ q f i m e. absurd (omega (arith, f i e))))

    none-answered : NoDatabase F → All (λ q. (k : ℕ) → ¬ (answer_to F look q ≡ Answer.case k)) qs
    none-answered none = all-given (λ q k e. none (database F k) (answered-case q k e).1) qs

    answered-none : all ordered F.tables ≡ true → All (λ q. (k : ℕ) → ¬ (answer_to F look q ≡ Answer.case k)) qs → NoDatabase F
    answered-none o none = no-database F o (λ j l c. seen j l c none (λ q f k _ e. absurd (f k e)))

  -- THE THEOREM
  pub together : all ordered F.tables ≡ true → EveryCover F look
  together o qs covered = record {
    first-when = λ k. (first-least qs covered k, least_first qs covered k);
    none-when = (none-answered qs covered, answered-none qs covered o);
  }
