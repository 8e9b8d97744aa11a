-- The cells of a case go to the front of the instance buffer, one by one. Assumes nothing.
use mathlib.Core.Path.{◌≡◌, refl, sym, ap, ap₂, ◌∙◌}
use mathlib.Core.List.{List, [], ◌∷◌, ◌++◌, map}
use Prim.Native.Nat.{ℕ, zero, suc, ◌+◌, ◌≤◌, ◌<◌}
use native.Mathlib.Omega.{arith}
use lib.IntN.{ℤ, pos}
use lib.ListN.{length, get_or, set, drop, length-map, length-set}
use lib.Seq.{get_or-set_same, get_or-set_other, ext_get_or}
use Rattle.value.specs.Value.{Value, shown}
use Rattle.meaning.proofs.ListSteps.{map_at}
use Rattle.meaning.proofs.Stacks.{by-lt}
use Rattle.store.specs.Layout.{cell_in}
use Rattle.look.specs.declared.cells.Cell.{Cell}
use Rattle.look.specs.Cells.{no_cell, cell_at, cells_in}
use Rattle.look.specs.Buffers.{Shows}

-- ---- a list that is written over another, from the front

-- t is s over the front of d
over : (n : ℕ) (s d t : List ℤ) → length s ≡ n → n ≤ length d → length t ≡ length d → ((j : ℕ) → j < n → get_or t j (pos 0) ≡ get_or s j (pos 0))
    → ((j : ℕ) → n ≤ j → get_or t j (pos 0) ≡ get_or d j (pos 0)) → t ≡ s ++ drop n d
over zero [] d t e l m h k = ext_get_or (pos 0) t d m (λ j _. k j (omega arith))
over zero (x ∷ s) d t e l m h k = absurd (omega arith)
over (suc n) [] d t e l m h k = absurd (omega arith)
over (suc n) (x ∷ s) [] t e l m h k = absurd (omega arith)
over (suc n) (x ∷ s) (y ∷ d) [] e l m h k = absurd (omega arith)
over (suc n) (x ∷ s) (y ∷ d) (z ∷ t) e l m h k =
    ap₂ (λ (a : ℤ) (b : List ℤ). a ∷ b) (h 0 (omega arith))
    (over n s d t (omega arith) (omega arith) (omega arith) (λ j i. h (suc j) (omega arith)) (λ j i. k (suc j) (omega arith)))

-- ---- the instance buffer

abbrev pub shown_all : List ℤ → List Cell → List ℤ
shown_all work xs = map shown (cells_in work xs)

length-shown : (work : List ℤ) (xs : List Cell) → length (shown_all work xs) ≡ length xs
unfolding cells_in
length-shown work xs = length-map (map (cell_at work) xs) shown ∙ length-map xs (cell_at work)

shown-at : (work : List ℤ) (xs : List Cell) (j : ℕ) → j < length xs → get_or (shown_all work xs) j (pos 0) ≡ shown (cell_at work (get_or xs j no_cell))
unfolding cells_in
shown-at work xs j h =
    map_at shown (map (cell_at work) xs) j (cell_at work no_cell) (pos 0) (omega (arith, length-map xs (cell_at work)))
    ∙ ap shown (map_at (cell_at work) xs j no_cell (cell_at work no_cell) h)

-- the first j cells are shown
pub record Showing (cells : List Cell) (n : ℕ) (work inst inst' : List ℤ) (j : ℕ) : Type 0 where
  pub bound : j ≤ n
  pub showing : Shows cells j work inst inst'

pub showing-none : (cells : List Cell) (n : ℕ) (work inst : List ℤ) → Showing cells n work inst inst 0
showing-none cells n work inst = record {
  bound = omega arith;
  showing = record { length-kept = refl; cell = λ j h l. absurd (omega arith); others = λ j h. refl };
}

-- what the work area has of a cell
cell-of : (work : List ℤ) (x : Cell) (v : Value) → v ≡ cell_in work x.table x.row x.column → v ≡ cell_at work x
unfolding cell_at
cell-of work x v e = e

pub showing-more : {cells : List Cell} {n : ℕ} {work inst inst' inst'' : List ℤ} {j : ℕ} (v : Value) (c : ℤ) → Showing cells n work inst inst' j → j < n
    → (let x = get_or cells j no_cell in v ≡ cell_in work x.table x.row x.column) → c ≡ shown v → inst'' ≡ set inst' j c → Showing cells n work inst inst'' (j + 1)
showing-more {cells} {n} {work} {inst} {inst'} {inst''} {j} v c S h cell put to =
    let size : length inst'' ≡ length inst = ap length to ∙ length-set inst' j c ∙ S.showing.length-kept in
    let value : c ≡ shown (cell_at work (get_or cells j no_cell)) = put ∙ ap shown (cell-of work (get_or cells j no_cell) v cell) in
    record {
      bound = omega arith;
      showing = record {
        length-kept = size;
        cell = λ i l r. rw to (by-lt i j
            (λ _ k. get_or-set_other inst' j i c (pos 0) (λ z. omega arith) ∙ S.showing.cell i k r)
            (λ _ k. let z : i ≡ j = omega arith in rw z (get_or-set_same inst' j c (pos 0) (omega (arith, S.showing.length-kept)) ∙ value)));
        others = λ i l. rw to (get_or-set_other inst' j i c (pos 0) (λ z. omega arith) ∙ S.showing.others i (omega arith));
      };
    }

pub showing-all : {cells : List Cell} {n : ℕ} {work inst inst' : List ℤ} {j : ℕ} → Showing cells n work inst inst' j → n ≤ j → Shows cells n work inst inst'
showing-all {cells} {n} {work} {inst} {inst'} {j} S h = let e : j ≡ n = omega (arith, S.bound) in rw e at S.showing

-- the whole buffer, where it has room for the cells
pub shows-all : {cells : List Cell} {work inst inst' : List ℤ} → Shows cells (length cells) work inst inst' → length cells ≤ length inst
    → inst' ≡ shown_all work cells ++ drop (length cells) inst
shows-all {cells} {work} {inst} {inst'} S room =
    over (length cells) (shown_all work cells) inst inst' (length-shown work cells) room S.length-kept
    (λ j h. S.cell j h (omega arith) ∙ sym (shown-at work cells j h))
    S.others
