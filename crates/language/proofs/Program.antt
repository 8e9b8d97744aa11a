-- What the program says of any text: its refusal, that no database is a case, or the first case; and the output tells which, with every
-- number in it. Assumes nothing.
use mathlib.Core.Path.{◌≡◌, refl, sym, ap, subst, subst₂, ◌∙◌}
use mathlib.Core.Bool.{true}
use mathlib.Core.Logic.{◌↔◌}
use mathlib.Core.List.{List, [], ◌∷◌}
use Prim.Native.Nat.{ℕ, ◌≤◌}
use native.Mathlib.Omega.{arith}
use borrow.Author.Tests.{ltb-true, ltb-false}
use lib.Dec.{ltb}
use lib.IntN.{ℤ, pos}
use lib.ListN.{length, replicate, length-replicate}
use Rattle.value.proofs.Decides.{by-test}
use Rattle.meaning.specs.Syntax.{File}
use Rattle.meaning.specs.Bounds.{well_formed}
use Rattle.meaning.specs.Candidates.{cell_count, candidates}
use Rattle.meaning.specs.Look.{Answer, After, work_size, zeros}
use Rattle.meaning.specs.Decided.{look}
use Rattle.meaning.specs.Looks.{EveryLook, Ask, Run, run, told, outcome, sum_of, First, NoDatabase, Whole}
use Rattle.meaning.proofs.Demand3.{look-says, demand-3}
use Rattle.text.specs.Text.{text_of}
use Rattle.language.specs.Check.{Outcome}
use Rattle.language.specs.FileOf.{file_of}
use Rattle.language.proofs.Refusals.{refusal-limits}
use Rattle.language.proofs.TextLaws.{accepted-text}
use Rattle.language.proofs.RealLooks.{sixteen-bits}
use Rattle.language.specs.OutputOf.{no_case_frame, answer_frames, searched_all, outcome_frames, output_of}
use Rattle.language.specs.Told.{Told, read_back, Says}
use Rattle.language.proofs.WholeSearch.{first, shown_all, all-case, all_none, whole-look}
use Rattle.language.proofs.ReadBack.{refusal-back, none-back, case-back}

-- ---- the answer of the whole search, by demand 3 of a list of one look

-- a list of one look with count n that has ended
one-case : {a : Answer} {k : ℕ} (q : Ask) (w i : List ℤ) → a ≡ Answer.case k → (outcome (told q 0 0 (After.after a w i)) ≡ a) × (sum_of (told q 0 0 (After.after a w i)) ≡ q.count)
one-case {a} {k} q w i e = rw e (refl, omega arith)

one_none : {a : Answer} (q : Ask) (w i : List ℤ) → a ≡ Answer.no_case → (outcome (told q 0 0 (After.after a w i)) ≡ a) × (sum_of (told q 0 0 (After.after a w i)) ≡ q.count)
one_none {a} q w i e = rw e (refl, omega arith)

module _ (F : File) (says : EveryLook F (look F)) (well : well_formed F ≡ true) (work inst : List ℤ) (whole : work_size ≤ length work) (room : cell_count F ≤ length inst) where
  -- one look, from 0 to the end
  abbrev ask : Ask
  ask = record { count = candidates F; work = work; inst = inst }

  abbrev ended : Run
  ended = told ask 0 0 (After.after (searched_all F) (zeros work) (shown_all F inst))

  ended-run : run (look F) (ask ∷ []) ≡ ended
  ended-run = ap (told ask 0 0) (whole-look F (candidates F) work inst (omega arith) whole room)

  ended-whole : Whole F ended
  ended-whole = subst (Whole F) ended-run (demand-3 F well (look F) says (ask ∷ []))

  ended_is : (outcome ended ≡ searched_all F) × (sum_of ended ≡ candidates F)
  ended_is =
      by-test (ltb (first F) (candidates F)) (λ t. one-case ask (zeros work) (shown_all F inst) (all-case F (ltb-true _ _ t)))
      (λ t. one_none ask (zeros work) (shown_all F inst) (all_none F (ltb-false _ _ t)))

  case-of : (k : ℕ) → (searched_all F ≡ Answer.case k) ↔ First F k
  case-of k =
      let (a, n) = ended_is in
      let (to, from) = ended-whole.case-when k in
      (λ e. (to (a ∙ e)).0, λ f. sym a ∙ from (f, omega (arith, n, f.0)))

  none_of : (searched_all F ≡ Answer.no_case) ↔ NoDatabase F
  none_of =
      let (a, n) = ended_is in
      let (to, from) = ended-whole.no-case-when in
      (λ e. (to (a ∙ e)).1, λ f. sym a ∙ from (omega (arith, n), f))

-- ---- what is printed

module _ (text : List ℕ) where
  output-is : {o : Outcome} → file_of text ≡ o → output_of text ≡ text_of (outcome_frames o)
  unfolding output_of
  output-is e = ap (λ (o : Outcome). text_of (outcome_frames o)) e

  module _ {F : File} (e : file_of text ≡ Outcome.accepted F) where
    answers : ((k : ℕ) → (searched_all F ≡ Answer.case k) ↔ First F k) × ((searched_all F ≡ Answer.no_case) ↔ NoDatabase F)
    answers =
        let well : well_formed F ≡ true = (accepted-text text F e).well-formed in
        let says : EveryLook F (look F) = look-says F well (sixteen-bits F (accepted-text text F e).legal) in
        let work : List ℤ = replicate work_size (pos 0) in
        let inst : List ℤ = replicate (cell_count F) (pos 0) in
        let whole : work_size ≤ length work = omega (arith, length-replicate work_size (pos 0)) in
        let room : cell_count F ≤ length inst = omega (arith, length-replicate (cell_count F) (pos 0)) in
        (case-of F says well work inst whole room, none_of F says well work inst whole room)

    answered : {a : Answer} → searched_all F ≡ a → output_of text ≡ text_of (answer_frames F a)
    answered {a} p = output-is e ∙ ap (λ (b : Answer). text_of (answer_frames F b)) p

  -- what is said of a text is its output, and what it tells is read back from it: number and line, k, and every cell of every table
  pub says-only : {out : List ℕ} {x : Told} → Says text out x → (output_of text ≡ out) × (read_back out ≡ x)
  says-only (Says.refused {n} {l} e) =
      let (low, high, few) = refusal-limits text n l e in
      (output-is e, refusal-back n l (omega arith) few)
  says-only (Says.none e f) = (answered e ((answers e).1.1 f), none-back)
  says-only (Says.first {F} {k} e f) =
      let A = accepted-text text F e in
      (answered e (((answers e).0 k).1 f), case-back F k A.legal A.well-formed f.0)

  some-said : (o : Outcome) → file_of text ≡ o → (out : List ℕ) × (x : Told) × Says text out x
  some-said (Outcome.refused n l) e = (_, _, Says.refused e)
  some-said (Outcome.accepted F) e =
      by-test (ltb (first F) (candidates F)) (λ t. (_, _, Says.first e (((answers e).0 (first F)).0 (all-case F (ltb-true _ _ t)))))
      (λ t. (_, _, Says.none e ((answers e).1.0 (all_none F (ltb-false _ _ t)))))

  -- the output of any text is 8f with its refusal, or 82 and no database is a case, or 80 with the first case; and it tells so
  pub says : Says text (output_of text) (read_back (output_of text))
  says =
      let (out, x, s) = some-said (file_of text) refl in
      let (p, q) = says-only s in
      subst₂ (Says text) (sym p) (sym (ap read_back p ∙ q)) s

  none_in : {out : List ℕ} {x : Told} → Says text out x → x ≡ Told.none → (F : File) × (file_of text ≡ Outcome.accepted F) × NoDatabase F
  none_in (Says.refused e) p = let z : ◌≡◌ {A = ℕ} 0 1 = cc in absurd (omega arith)
  none_in (Says.none {F} e f) p = (F, e, f)
  none_in (Says.first e f) p = let z : ◌≡◌ {A = ℕ} 0 1 = cc in absurd (omega arith)

  -- "82 for no case": it is printed exactly for an accepted file of which no database with its row counts, value ranges and keys, rows in
  -- any order, is a case
  pub no-case : (output_of text ≡ text_of (no_case_frame ∷ [])) ↔ ((F : File) × (file_of text ≡ Outcome.accepted F) × NoDatabase F)
  no-case = (λ p. none_in says (ap read_back p ∙ none-back), λ (F, e, f). (says-only (Says.none e f)).0)

-- two texts with one output have one outcome
pub same_outcome : {s t out : List ℕ} {x y : Told} → Says s out x → Says t out y → x ≡ y
same_outcome {s} {t} a b = sym (says-only s a).1 ∙ (says-only t b).1
