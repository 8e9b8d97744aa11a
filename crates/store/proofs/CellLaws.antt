-- Laws on single cells in the work area of a look. Assumes nothing.
use mathlib.Core.Path.{◌≡◌, ap}
use mathlib.Core.Bool.{true, false}
use mathlib.Core.List.{List}
use Prim.Native.Nat.{ℕ, ◌≤◌, ◌<◌}
use lib.IntN.{ℤ, pos}
use lib.ListN.{length, get_or, set, get_or-eq_default}
use lib.Seq.{set_out}
use Rattle.value.specs.Value.{Value, stored}
use Rattle.value.proofs.Decides.{by-test}
use Rattle.meaning.specs.Evaluation.{missing}
use Rattle.store.specs.Strides
use Rattle.store.specs.Layout.{sizes, inside, position, cell_in, put_cell, relation_limit, row_limit, column_limit, area}
use Rattle.store.proofs.StrideLaws

-- ---- one cell is written: it is the value, every other cell keeps, and so does the length

pub put-cell-there : (work : List ℤ) (r i c : ℕ) (v : Value) → r < relation_limit → i < row_limit → c < column_limit → area ≤ length work → cell_in (put_cell work r i c v) r i c ≡ v
put-cell-there = StrideLaws.put-cell-there sizes

pub put-cell-other : (work : List ℤ) (r i c : ℕ) (v : Value) (r' i' c' : ℕ) → (r' ≡ r → i' ≡ i → c' ≡ c → ⊥) → cell_in (put_cell work r i c v) r' i' c' ≡ cell_in work r' i' c'
put-cell-other = StrideLaws.put-cell-other sizes

pub put-cell-length : (work : List ℤ) (r i c : ℕ) (v : Value) → length (put_cell work r i c v) ≡ length work
put-cell-length = StrideLaws.put-cell-length sizes

-- ---- what the code finds: no such cell, a work area too short for it, or the cell

module _ (work : List ℤ) (r i c : ℕ) where
  pub cell-outside : inside r i c ≡ false → cell_in work r i c ≡ missing
  unfolding Strides.cell_in
  cell-outside e = rw e

  pub cell-past : length work ≤ position r i c → cell_in work r i c ≡ missing
  unfolding Strides.cell_in
  cell-past h = by-test (inside r i c) (λ e. rw e (ap Value.number (get_or-eq_default work (pos 0) h))) (λ e. rw e)

  pub cell-found : inside r i c ≡ true → cell_in work r i c ≡ Value.number (get_or work (position r i c) (pos 0))
  unfolding Strides.cell_in
  cell-found e = rw e

  pub put-outside : (v : Value) → inside r i c ≡ false → put_cell work r i c v ≡ work
  unfolding Strides.put_cell
  put-outside v e = rw e

  pub put-past : (v : Value) → length work ≤ position r i c → put_cell work r i c v ≡ work
  unfolding Strides.put_cell
  put-past v h = by-test (inside r i c) (λ e. rw e (set_out work (position r i c) (stored v) h)) (λ e. rw e)

  pub put-found : (v : Value) → inside r i c ≡ true → put_cell work r i c v ≡ set work (position r i c) (stored v)
  unfolding Strides.put_cell
  put-found v e = rw e
