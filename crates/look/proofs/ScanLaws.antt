-- The search of a span of candidates, from what a test and a move give. Assumes nothing.
use mathlib.Core.Path.{◌≡◌, refl, sym, ap, subst, ◌∙◌}
use mathlib.Core.Logic.{inl, inr}
use mathlib.Core.Bool.{Bool, true, false}
use mathlib.Core.List.{List, [], ◌∷◌}
use Prim.Native.Nat.{ℕ, suc, ◌+◌, ◌-◌, ◌≤◌, ◌<◌}
use native.Mathlib.Omega.{arith}
use lib.IntN.{ℤ}
use lib.ListN.{length, get_or, replicate}
use Rattle.std.specs.Prelude.{Option, None, Some}
use Rattle.value.specs.Bag.{All}
use Rattle.value.proofs.Values.{all_map}
use Rattle.meaning.specs.Syntax.{File, Row}
use Rattle.meaning.specs.Evaluation.{missing}
use Rattle.meaning.specs.Decided.{is_case, is_case_at}
use Rattle.meaning.specs.Candidates.{database}
use Rattle.meaning.proofs.Demand3.{every-database}
use Rattle.meaning.proofs.Elements.{map_same}
use Rattle.meaning.proofs.Stacks.{by-lt}
use Rattle.meaning.proofs.Seeks.{sought-one}
use Rattle.language.specs.Legal.{Legal}
use Rattle.language.proofs.LegalAccepted.{legal-well_formed}
use Rattle.catalog.specs.FileIn.{Source, FileIn, TablesCounted, goal_of}
use Rattle.catalog.specs.declared.outline.Outline.{Outline}
use Rattle.catalog.specs.declared.plan.Goal.{Goal}
use Rattle.catalog.proofs.FileLaws.{laid}
use Rattle.store.specs.Layout.{area}
use Rattle.store.proofs.RowLaws.{cell-of-rows, only_same, only-more, only_wider}
use Rattle.cases.specs.declared.needs.Needs.{Needs}
use Rattle.cases.specs.Needs.{GoalIn, Covers, NeedsOf}
use Rattle.cases.specs.Judgement.{Memory, memory_from, Ready, ViewIn, OnlyViews, IsCase}
use Rattle.cases.proofs.Preparing.{counts-are, table_stays, count-stays}
use Rattle.look.specs.declared.cells.Cell.{Cell}
use Rattle.look.specs.Cells.{no_cell, file_cells, cell_at, cells_in}
use Rattle.look.specs.Moves.{CellPlaces, Digits, CandidatePut, Moved}
use Rattle.look.specs.Scans.{Search, places_of, Setting, At, OnlySearched, Scans, Searched}
use Rattle.look.proofs.Distinct.{rank, Rising, rising-within, cells-inside}
use Rattle.look.proofs.Standing.{tables-stand}

-- ---- cells of tables that stay

rising-below : {lo hi : ℕ} {xs : List Cell} → Rising lo xs hi → All (λ x. rank x < hi) xs
rising-below {lo} {hi} {xs} r = all_of xs (λ j h. (rising-within r j h).to)
  where
    all_of : {P : Cell → Type 0} (xs : List Cell) → ((j : ℕ) → j < length xs → P (get_or xs j no_cell)) → All P xs
    all_of [] h = All.nil
    all_of (x ∷ xs) h = All.cons (h 0 (omega arith)) (all_of xs (λ j l. h (suc j) (omega arith)))

module _ {F : File} (L : Legal F) where
  cells-tables : All (λ x. x.table < length F.tables) (file_cells F)
  cells-tables = all_map (λ x h. omega arith) (rising-below (cells-inside F L))

  pub cells-kept : {o : Outline} {memory memory' : Memory} → o.tables ≡ length F.tables → OnlyViews o memory memory'
      → cells_in memory'.work (file_cells F) ≡ cells_in memory.work (file_cells F)
  unfolding cells_in cell_at
  cells-kept {o} {memory} {memory'} n k = map_same _ _ (all_map (λ x h.
      let t = x.table in
      let i = x.row in
      let c = x.column in
      sym (cell-of-rows memory'.work t (suc c) (suc i) i c (omega arith) (omega arith))
      ∙ ap (λ (R : List Row). get_or (get_or R i []) c missing) (table_stays k t (omega arith) (suc c) (suc i))
      ∙ cell-of-rows memory.work t (suc c) (suc i) i c (omega arith) (omega arith)) cells-tables)

-- ---- a candidate stands in the work area

-- a candidate that was placed
pub placed_at : {F : File} {source : Source} {p : CellPlaces} {k : ℕ} {work work₁ : List ℤ} {counts : List ℕ} → FileIn F source
    → Digits F p → TablesCounted source.relations source.outline.tables (replicate 16 0) counts → area ≤ length work → CandidatePut p k work work₁
    → At F (memory_from counts (replicate 16 0) work₁) k
placed_at {F} G D C whole P = record {
  counts-size = omega (arith, C.size);
  signs-size = omega arith;
  whole = omega (arith, P.only.size);
  rows = λ t l. counts-are G C (omega arith) t l;
  cells = P.placed F D whole;
}

-- the next one, after a test and a move
pub moved_at : {F : File} {source : Source} {p : CellPlaces} {k next : ℕ} {memory memory₁ : Memory} {work₂ : List ℤ} → FileIn F source
    → Digits F p → OnlyViews source.outline memory memory₁ → Moved p k next memory₁.work work₂ → At F memory k
    → At F (memory_from memory₁.counts memory₁.signs work₂) next
moved_at {F} G D K M A = record {
  counts-size = omega (arith, K.counts-size, A.counts-size);
  signs-size = omega (arith, K.signs-size, A.signs-size);
  whole = omega (arith, A.whole, M.only.size, K.cells.size);
  rows = λ t h. count-stays K t (omega (arith, G.tables)) ∙ A.rows t h;
  cells = M.moved F D (omega (arith, A.whole, K.cells.size)) (cells-kept G.legal G.tables K ∙ A.cells);
}

-- ---- a candidate is tested

-- what the file's own goal depends on
pub setting : {F : File} {source : Source} {needs : Needs} {g : Goal} → FileIn F source → goal_of g ≡ F.goal
    → NeedsOf source g needs → Setting F source needs g
setting {F} {needs = needs} M e N = record {
  file = M;
  goal = e;
  covers = subst (λ x. GoalIn F x → Covers F x needs) e (λ h. N.covers (laid M) h) M.legal.goal;
}

pub ready : {F : File} {source : Source} {needs : Needs} {g : Goal} {memory : Memory} {k : ℕ} → Setting F source needs g → At F memory k
    → Ready F F.goal (database F k) needs memory
ready {F} {memory = memory} {k = k} P A = record {
  covers = P.covers;
  shaped = (every-database F (legal-well_formed F P.file.legal)).shaped k;
  tables = record { table = λ t h. rw (A.rows t h) (tables-stand k memory.work P.file.legal A.cells t h) };
  whole = A.whole;
  counts-size = A.counts-size;
  signs-size = A.signs-size;
}

pub judged : {source : Source} {needs : Needs} {g : Goal} {k : ℕ} {memory memory' : Memory} {b : Bool} → IsCase source needs g memory b memory'
    → (F : File) → Setting F source needs g → At F memory k → b ≡ is_case_at F k
unfolding is_case_at
judged {needs = needs} {k = k} {memory} {b = b} J F P A =
    subst (λ x. Ready F x (database F k) needs memory → b ≡ is_case F x (database F k)) P.goal (J.case (laid P.file)) (ready P A)

-- ---- the loop

-- nothing from the start on and before k is a case, and the cells of candidate k stand in the work area
pub record Scanned (s : Search) (needs : Needs) (memory : Memory) (k : ℕ) (memory' : Memory) : Type 0 where
  pub only : OnlySearched s memory.work memory'.work
  pub counts-size : length memory'.counts ≡ length memory.counts
  pub signs-size : length memory'.signs ≡ length memory.signs
  pub counts : (i : ℕ) → (ViewIn s.source.outline i → ⊥) → get_or memory'.counts i 0 ≡ get_or memory.counts i 0
  pub signs : (i : ℕ) → (ViewIn s.source.outline i → ⊥) → get_or memory'.signs i 0 ≡ get_or memory.signs i 0
  pub here : (F : File) → Setting F s.source needs s.goal → Digits F (places_of s) → At F memory s.start → At F memory' k
  pub none : (F : File) → Setting F s.source needs s.goal → Digits F (places_of s) → At F memory s.start
      → (j : ℕ) → s.start ≤ j → j < k → is_case_at F j ≡ false

module _ {s : Search} {needs : Needs} {memory : Memory} where
  pub scanned-none : Scanned s needs memory s.start memory
  scanned-none = record {
    only = only_same memory.work;
    counts-size = refl;
    signs-size = refl;
    counts = λ i h. refl;
    signs = λ i h. refl;
    here = λ F P D A. A;
    none = λ F P D A j a b. absurd (omega arith);
  }

  -- a test that changes views only, and tells whether the candidate is a case
  module _ {k : ℕ} {memory₁ memory₂ : Memory} {b : Bool} (S : Scanned s needs memory k memory₁) (V : OnlyViews s.source.outline memory₁ memory₂)
      (told : (F : File) → Setting F s.source needs s.goal → At F memory₁ k → b ≡ is_case_at F k) where
    after_test : OnlySearched s memory.work memory₂.work
    after_test = only-more S.only (only_wider (λ t v. inr v) V.cells)

    after-counts : (i : ℕ) → (ViewIn s.source.outline i → ⊥) → get_or memory₂.counts i 0 ≡ get_or memory.counts i 0
    after-counts i h = V.counts i h ∙ S.counts i h

    after-signs : (i : ℕ) → (ViewIn s.source.outline i → ⊥) → get_or memory₂.signs i 0 ≡ get_or memory.signs i 0
    after-signs i h = V.signs i h ∙ S.signs i h

    pub scanned-past : b ≡ false → {work₃ : List ℤ} → Moved (places_of s) k (k + 1) memory₂.work work₃
        → Scanned s needs memory (k + 1) (memory_from memory₂.counts memory₂.signs work₃)
    scanned-past e M = record {
      only = only-more after_test (only_wider (λ t v. inl v) M.only);
      counts-size = V.counts-size ∙ S.counts-size;
      signs-size = V.signs-size ∙ S.signs-size;
      counts = after-counts;
      signs = after-signs;
      here = λ F P D A. moved_at P.file D V M (S.here F P D A);
      none = λ F P D A j a l. by-lt j k
          (λ _ h. S.none F P D A j a h)
          (λ _ h. let q : j ≡ k = omega arith in rw q (sym (told F P (S.here F P D A)) ∙ e));
    }

    pub scanned-at : s.start ≤ k → k < s.end → b ≡ true → Scans s needs memory (Some k) memory₂
    scanned-at f l e = record {
      only = after_test;
      counts = after-counts;
      signs = after-signs;
      inside = l;
      found = λ F P D A h.
          let X = S.here F P D A in
          record {
            first = sought-one (is_case_at F) s.start (s.end - s.start) k (record {
              from = f;
              to = omega arith;
              none = S.none F P D A;
              hit = λ _. sym (told F P X) ∙ e;
            });
            cells = cells-kept P.file.legal P.file.tables V ∙ X.cells;
          };
    }

  module _ {k : ℕ} {memory₁ memory₂ : Memory} {b : Bool} (S : Scanned s needs memory k memory₁) (J : IsCase s.source needs s.goal memory₁ b memory₂) where
    pub scanned-more : b ≡ false → {work₃ : List ℤ} → Moved (places_of s) k (k + 1) memory₂.work work₃
        → Scanned s needs memory (k + 1) (memory_from memory₂.counts memory₂.signs work₃)
    scanned-more = scanned-past S J.kept (judged J)

    pub scanned-found : s.start ≤ k → k < s.end → b ≡ true → Scans s needs memory (Some k) memory₂
    scanned-found = scanned-at S J.kept (judged J)

  pub scanned-all : {k : ℕ} {memory₁ : Memory} → Scanned s needs memory k memory₁ → s.end ≤ k → Scans s needs memory None memory₁
  scanned-all {k} S l = record {
    only = S.only;
    counts = S.counts;
    signs = S.signs;
    inside = tt;
    found = λ F P D A h. record {
      first = sought-one (is_case_at F) s.start (s.end - s.start) s.end (record {
        from = h;
        to = omega arith;
        none = λ j a b. S.none F P D A j a (omega arith);
        hit = λ x. absurd (omega arith);
      });
      cells = tt;
    };
  }

-- ---- the search

-- the same from candidate k on
abbrev search_from : Search → ℕ → Search
search_from s k = record { source = s.source; cells = s.cells; goal = s.goal; start = k; end = s.end }

-- k is where it was to begin
pub searches : {s : Search} {needs : Needs} {work work₁ : List ℤ} {counts : List ℕ} {r : Option ℕ} {memory₂ : Memory} {k : ℕ}
    → TablesCounted s.source.relations s.source.outline.tables (replicate 16 0) counts → CandidatePut (places_of s) k work work₁
    → NeedsOf s.source s.goal needs → Scans (search_from s k) needs (memory_from counts (replicate 16 0) work₁) r memory₂
    → k ≡ s.start → Searched s work r memory₂.work
searches {s} {k = k} C P N S e = record {
  only = only-more (only_wider (λ t v. inl v) P.only) S.only;
  inside = S.inside;
  found = λ F M g D whole h. rw e at (S.found F (setting M g N) D (placed_at M D C whole P) (rw e h));
}
