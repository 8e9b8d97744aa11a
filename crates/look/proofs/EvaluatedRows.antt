-- Demand 2 of the code: for an accepted text and any candidate the rows that the evaluator leaves in the work area are those of the algebra,
-- and its verdict is that of Definitions 1 to 4. Assumes nothing.
use mathlib.Core.Path.{◌≡◌, refl, sym, subst, ◌∙◌}
use mathlib.Core.Logic.{◌↔◌}
use mathlib.Core.Bool.{Bool, true}
use mathlib.Core.List.{List}
use Prim.Native.Nat.{ℕ, ◌≤◌}
use lib.IntN.{ℤ}
use lib.ListN.{length, replicate, take}
use Rattle.std.proofs.Common.{Ok}
use Rattle.value.proofs.Decides.{dec-true, true-dec}
use Rattle.meaning.specs.Syntax.{File}
use Rattle.meaning.specs.Algebra.{MeaningOf}
use Rattle.meaning.specs.Bounds.{well_formed}
use Rattle.meaning.specs.Candidates.{database}
use Rattle.meaning.specs.Cases.{Case}
use Rattle.meaning.specs.Decided.{is_case_at}
use Rattle.meaning.proofs.Demand2.{cases}
use Rattle.meaning.proofs.Relations.{rows-mean}
use Rattle.language.specs.Check.{Outcome}
use Rattle.language.specs.FileOf.{file_of}
use Rattle.checker.specs.Plans.{Plans}
use Rattle.catalog.specs.FileIn.{source_of, PlanOf, TablesCounted}
use Rattle.catalog.specs.declared.plan.Plan.{Plan}
use Rattle.catalog.proofs.FileLaws.{laid}
use Rattle.language.proofs.TextLaws.{accepted-text}
use Rattle.store.specs.Layout.{area}
use Rattle.cases.specs.declared.needs.Needs.{Needs}
use Rattle.cases.specs.Needs.{Wants, NeedsOf}
use Rattle.cases.specs.Judgement.{Memory, memory_from}
use Rattle.look.specs.declared.cells.Cell.{Cell}
use Rattle.look.specs.Cells.{no_cell, CellsOf}
use Rattle.look.specs.Moves.{places_from, CandidatePut, Moved}
use Rattle.look.specs.Scans.{Setting}
use Rattle.look.specs.Evaluations.{Prepared, Evaluated, Judged, RowsMean}
use Rattle.look.proofs.Standing.{digits-given}
use Rattle.look.proofs.ScanLaws.{placed_at, moved_at, setting, ready, judged}

module _ (text : List ℕ) (F : File) (e : file_of text ≡ Outcome.accepted F) where
  well-formed : well_formed F ≡ true
  well-formed = (accepted-text text F e).well-formed

  planned : {p : Plan} → Plans (file_of text) (Ok p) → PlanOf F p
  planned {p} c = subst (λ out. Plans out (Ok p)) e c

  -- any candidate is prepared by the calls of a look up to its first test
  pub placed : (p : Plan) {k : ℕ} {room : List Cell} {counts : List ℕ} {needs : Needs} {n : ℕ} {work work' : List ℤ} → Plans (file_of text) (Ok p)
      → CellsOf p.relations p.outline.tables (replicate 512 no_cell) n room → TablesCounted p.relations p.outline.tables (replicate 16 0) counts
      → NeedsOf (source_of p) p.goal needs
      → area ≤ length work → CandidatePut (places_from p.relations (take n room)) k work work' → Prepared text F k
  placed p {counts = counts} {needs} {work' = work'} c D C N whole P =
      let M = (planned c).file in
      record {
        plan = p;
        needs = needs;
        memory = memory_from counts (replicate 16 0) work';
        checked = c;
        flagged = N;
        stands = placed_at M (digits-given M D refl) C whole P;
      }

  module _ {k : ℕ} (P : Prepared text F k) where
    plan-of : PlanOf F P.plan
    plan-of = planned P.checked

    set-up : Setting F (source_of P.plan) P.needs P.plan.goal
    set-up = setting plan-of.file plan-of.goal P.flagged

    -- the next candidate is prepared by the test of this one and the move to that one
    pub moved : {r : Bool} {room : List Cell} {n next : ℕ} {memory' : Memory} {work'' : List ℤ} → CellsOf P.plan.relations P.plan.outline.tables (replicate 512 no_cell) n room
        → Judged P r memory' → Moved (places_from P.plan.relations (take n room)) k next memory'.work work'' → Prepared text F next
    moved {memory' = memory'} {work''} D J M = record {
      plan = P.plan;
      needs = P.needs;
      memory = memory_from memory'.counts memory'.signs work'';
      checked = P.checked;
      flagged = P.flagged;
      stands = moved_at set-up.file (digits-given plan-of.file D refl) J.kept M P.stands;
    }

    -- "Each view's rows, counted as a bag, are those of the Extended Relational Algebra"
    pub evaluated-rows : {memory' : Memory} → Evaluated P memory' → RowsMean F (database F k) P.needs memory'
    evaluated-rows E = record {
      relation = λ i h f. subst (MeaningOf F (database F k) i) (sym ((E.known (laid set-up.file) (ready set-up P.stands)).rows-known i h f)) (rows-mean F well-formed (database F k) i);
      goal = λ s. subst (λ b. Wants P.needs b F.goal.view) s set-up.covers.goal;
    }

    -- "a database is a positive or negative case exactly by Definitions 1 to 4"
    pub evaluated-case : {r : Bool} {memory' : Memory} → Judged P r memory' → (r ≡ true) ↔ Case F (database F k) F.goal
    unfolding is_case_at
    evaluated-case J =
        let same = judged J F set-up P.stands in
        let decided = cases F well-formed (database F k) in
        ((λ t. dec-true decided (sym same ∙ t)), λ c. same ∙ true-dec decided c)
