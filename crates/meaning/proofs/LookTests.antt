-- The definition of a look, test by test. Assumes nothing.
use mathlib.Core.Path.{◌≡◌}
use mathlib.Core.Bool.{cond}
use mathlib.Core.List.{List}
use Prim.Native.Nat.{ℕ, ◌+◌, ◌-◌, ◌≤◌, ◌<◌, min}
use borrow.Author.Tests.{lt-ltb, le-ltb}
use lib.Dec.{eqb}
use lib.IntN.{ℤ}
use lib.ListN.{length}
use Rattle.meaning.specs.Syntax.{File}
use Rattle.meaning.specs.Candidates.{cell_count, candidates}
use Rattle.meaning.specs.Look.{Answer, After, zeros, work_size}
use Rattle.meaning.specs.Decided.{seek, is_case_at, shown_in, after_search, look}

module _ (F : File) (start count : ℕ) (work inst : List ℤ) where
  pub look-short : work_size ≤ length work → length inst < cell_count F → look F start count work inst ≡ After.after (Answer.refused 12 0) work inst
  unfolding look
  look-short h i = rw (le-ltb (length work) work_size h, lt-ltb (length inst) (cell_count F) i)

  pub look-late : work_size ≤ length work → cell_count F ≤ length inst → candidates F < start
      → look F start count work inst ≡ After.after (Answer.refused 13 0) work inst
  unfolding look
  look-late h i l = rw (le-ltb (length work) work_size h, le-ltb (length inst) (cell_count F) i, lt-ltb (candidates F) start l)

  pub look-on : (end : ℕ) → work_size ≤ length work → cell_count F ≤ length inst → start ≤ candidates F → end ≡ min (start + count) (candidates F)
      → look F start count work inst ≡ after_search F end (seek (is_case_at F) start (end - start)) work inst
  unfolding look
  look-on end h i l e = rw (e, le-ltb (length work) work_size h, le-ltb (length inst) (cell_count F) i, le-ltb (candidates F) start l)

module _ (F : File) (work inst : List ℤ) where
  pub search-case : (end k : ℕ) → k < end → after_search F end k work inst ≡ After.after (Answer.case k) (zeros work) (shown_in F k inst)
  search-case end k h = rw (lt-ltb k end h)

  pub search-none : (end k : ℕ) → end ≤ k
      → after_search F end k work inst ≡ After.after (cond (eqb end (candidates F)) Answer.no_case (Answer.spent end)) (zeros work) inst
  search-none end k h = rw (le-ltb k end h)
