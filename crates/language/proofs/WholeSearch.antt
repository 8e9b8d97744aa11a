-- A look at a file from 0 to the end, which is the search of the program. Assumes nothing.
use mathlib.Core.Path.{◌≡◌, refl, sym, ap, ap₂, ◌∙◌}
use mathlib.Core.Bool.{cond}
use mathlib.Core.List.{List, []}
use Prim.Native.Nat.{ℕ, ◌+◌, ◌-◌, ◌≤◌, ◌<◌, min}
use native.Mathlib.Omega.{arith}
use borrow.Author.Tests.{ltb-true, ltb-false, eq-eqb}
use lib.Dec.{ltb, eqb}
use lib.IntN.{ℤ}
use lib.ListN.{length}
use Rattle.value.proofs.Decides.{by-test}
use Rattle.meaning.specs.Syntax.{File}
use Rattle.meaning.specs.Candidates.{cell_count, candidates}
use Rattle.meaning.specs.Look.{Answer, After, answer_in, number_of, zeros, work_size}
use Rattle.meaning.specs.Decided.{seek, searched, is_case_at, shown_in, after_search, look}
use Rattle.meaning.proofs.LookTests.{look-on, search-case, search-none}
use Rattle.language.specs.OutputOf.{searched_all}

module _ (F : File) where
  abbrev pub first : ℕ
  first = seek (is_case_at F) 0 (candidates F)

  searched-first : searched F 0 (candidates F) [] [] ≡ after_search F (candidates F) first [] []
  searched-first =
      let n = candidates F in
      let to : min (0 + n) n ≡ n = omega arith in
      let span : n - 0 ≡ n = omega arith in
      ap (λ end. after_search F end (seek (is_case_at F) 0 (end - 0)) [] []) to ∙ ap (λ i. after_search F n (seek (is_case_at F) 0 i) [] []) span

  pub all-case : first < candidates F → searched_all F ≡ Answer.case first
  unfolding searched_all
  all-case h = ap answer_in (searched-first ∙ search-case F [] [] (candidates F) first h)

  -- at the end of all candidates a search is not spent
  at-end : cond (eqb (candidates F) (candidates F)) Answer.no_case (Answer.spent (candidates F)) ≡ Answer.no_case
  at-end = rw (eq-eqb (candidates F) (candidates F) refl)

  pub all_none : candidates F ≤ first → searched_all F ≡ Answer.no_case
  unfolding searched_all
  all_none h = ap answer_in (searched-first ∙ search-none F [] [] (candidates F) first h) ∙ at-end

  -- the instance buffer after it
  abbrev pub shown_all : List ℤ → List ℤ
  shown_all inst = cond (ltb first (candidates F)) (shown_in F first inst) inst

  -- the answer's number
  pub answered : {P : Type 0} (x : Answer) → x ≡ searched_all F → (number_of x ≡ 0x80 → P) → (number_of x ≡ 0x82 → P) → P
  answered x e here none =
      by-test (ltb first (candidates F)) (λ t. here (ap number_of (e ∙ all-case (ltb-true _ _ t)))) (λ t. none (ap number_of (e ∙ all_none (ltb-false _ _ t))))

  pub whole-look : (count : ℕ) (work inst : List ℤ) → candidates F ≤ count → work_size ≤ length work → cell_count F ≤ length inst
      → look F 0 count work inst ≡ After.after (searched_all F) (zeros work) (shown_all inst)
  whole-look count work inst many whole room =
      let n = candidates F in
      let from : 0 ≤ n = omega arith in
      let to : n ≡ min (0 + count) n = omega arith in
      let span : n - 0 ≡ n = omega arith in
      let both : Answer → List ℤ → After = λ a i. After.after a (zeros work) i in
      look-on F 0 count work inst n whole room from to ∙ ap (λ i. after_search F n (seek (is_case_at F) 0 i) work inst) span
      ∙ by-test (ltb first n)
      (λ t. let shows : shown_in F first inst ≡ shown_all inst = rw t in
      search-case F work inst n first (ltb-true _ _ t) ∙ ap₂ both (sym (all-case (ltb-true _ _ t))) shows)
      (λ t. let keeps : inst ≡ shown_all inst = rw t in
      search-none F work inst n first (ltb-false _ _ t) ∙ ap₂ both (at-end ∙ sym (all_none (ltb-false _ _ t))) keeps)
