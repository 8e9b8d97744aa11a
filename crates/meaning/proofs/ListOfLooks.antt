-- Every list of looks, of any look that says what "A look" says: one statement about the list as a whole. Assumes nothing.
use mathlib.Core.Path.{◌≡◌, refl, sym, ap, ◌∙◌, subst}
use mathlib.Core.Bool.{true}
use mathlib.Core.List.{List, [], ◌∷◌}
use Prim.Native.Nat.{ℕ, ◌≤◌, ◌<◌}
use native.Mathlib.Decide.{dec_lt}
use native.Mathlib.Omega.{arith}
use Rattle.meaning.specs.Lists.{all}
use Rattle.meaning.specs.Syntax.{File, Database}
use Rattle.meaning.specs.Cases.{Case}
use Rattle.meaning.specs.Bounds.{ordered}
use Rattle.meaning.specs.Candidates.{candidates, database}
use Rattle.meaning.specs.Look.{Answer, After}
use Rattle.meaning.specs.Looks.{Look, CaseAt, NoneFrom, NoneBelow, First, NoDatabase, Begins, LookSays, EveryLook, Ask, Run, told, one, run_from, run, Whole, EveryList}
use Rattle.meaning.proofs.Numbering.{candidates-above, numbered}
use Rattle.meaning.proofs.OneLook.{apart, least-one}

module _ (F : File) where
  -- there is one first case
  one-first : (k j : ℕ) → First F k → First F j → k ≡ j
  one-first k j a b = least-one {P = CaseAt F} 0 k j (omega arith) (omega arith) a.1 b.1 (λ i _. a.2 i) (λ i _. b.2 i)

  -- a case is valid, so it has the file's row counts and value ranges, and a number
  pub no-database : all ordered F.tables ≡ true → NoneBelow F (candidates F) → NoDatabase F
  no-database o none d c =
      let n = (numbered F o).candidate d c.valid.shaped in
      none n.0 n.1 (subst (λ (e : Database). Case F e F.goal) (sym n.2) c)

  -- what holds of a list after each look
  abbrev Inv : Run → Type 0
  Inv (Run.going start sum) = (start ≡ sum) × (sum < candidates F) × NoneBelow F sum
  Inv (Run.case k q inst sum) = First F k × (k < sum) × Begins F k q.inst inst
  Inv (Run.no_case sum) = (candidates F ≤ sum) × NoneBelow F (candidates F)

  -- none before the start, and none from there
  further : (start sum n : ℕ) → start ≡ sum → NoneBelow F sum → NoneFrom F start n → NoneBelow F n
  further start sum n e a b j l = elim (dec_lt j start) [ yes h ↦ a j (omega arith) | no h ↦ b j (omega arith) l ]

  tells : (q : Ask) (start sum : ℕ) → Inv (Run.going start sum) → (r : After) → LookSays F start q.count q.work q.inst r → Inv (told q start sum r)
  tells q start sum inv (After.after (Answer.case k) w i) f =
      let (_, s) = (f.case-when k).0 refl in
      ((omega arith, s.hit, further start sum k inv.0 inv.2 s.none), omega arith, f.buffers.1)
  tells q start sum inv (After.after Answer.no_case w i) f =
      let (_, end, none) = f.no-case-when.0 refl in (omega arith, further start sum (candidates F) inv.0 inv.2 none)
  tells q start sum inv (After.after (Answer.spent s) w i) f =
      let (_, end, below, none) = (f.spent-when s).0 refl in
      (omega arith, omega arith, λ j l. further start sum s inv.0 inv.2 none j (omega arith))
  tells q start sum inv (After.after (Answer.refused n l) w i) f = inv

  whole : all ordered F.tables ≡ true → (r : Run) → Inv r → Whole F r
  whole o (Run.going start sum) inv = record {
    case-when = λ k. (λ e. apart (cc), λ f. absurd (inv.2 k f.1 f.0.1));
    no-case-when = (λ e. apart (cc), λ f. absurd (omega arith));
    else = λ s e. let g : start ≡ s = cc in (sym g ∙ inv.0, λ j l. inv.2 j (omega arith));
    stands = tt;
  }
  whole o (Run.case k q inst sum) inv = record {
    case-when = λ j. (
      λ e. let g : k ≡ j = cc in subst (λ (n : ℕ). First F n × (n < sum)) g (inv.0, inv.1),
      λ f. ap Answer.case (one-first k j inv.0 f.0),
    );
    no-case-when = (λ e. apart (cc), λ f. absurd (f.1 (database F k) inv.0.1));
    else = λ s e. apart (cc);
    stands = inv.2;
  }
  whole o (Run.no_case sum) inv = record {
    case-when = λ k. (λ e. apart (cc), λ f. absurd (inv.1 k f.0.0 f.0.1));
    no-case-when = (λ e. (inv.0, no-database o inv.1), λ f. refl);
    else = λ s e. apart (cc);
    stands = tt;
  }

  module _ (look : Look) (says : EveryLook F look) where
    next : (r : Run) (q : Ask) → Inv r → Inv (one look r q)
    next (Run.going start sum) q inv =
        tells q start sum inv (look start q.count q.work q.inst) (says start q.count q.work q.inst)
    next (Run.case k q' inst sum) q inv = inv
    next (Run.no_case sum) q inv = inv

    each : (r : Run) (qs : List Ask) → Inv r → Inv (run_from look r qs)
    each r [] inv = inv
    each r (q ∷ qs) inv = each (one look r q) qs (next r q inv)

    -- THE THEOREM
    pub lists : all ordered F.tables ≡ true → EveryList F look
    lists o qs = whole o (run look qs) (each (Run.going 0 0) qs (refl, candidates-above F o, λ j l. absurd (omega arith)))
