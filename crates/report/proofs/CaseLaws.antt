-- The lines of a case, and where an accepted text's plan says that its cells stand. Assumes nothing.
use mathlib.Core.Path.{◌≡◌, ap, subst, ◌∙◌}
use mathlib.Core.List.{List, [], ◌∷◌, map}
use Prim.Native.Nat.{ℕ, ◌≤◌}
use native.Mathlib.Omega.{arith}
use lib.IntN.{ℤ}
use lib.ListN.{length, take}
use Rattle.value.specs.Value.{shown}
use Rattle.meaning.specs.Syntax.{File}
use Rattle.meaning.specs.Candidates.{cell_count, cells, database}
use Rattle.meaning.proofs.Numbering.{length-cells}
use Rattle.text.specs.Text.{line}
use Rattle.text.specs.Answers.{Written}
use Rattle.text.proofs.Laws.{text-one}
use Rattle.text.proofs.Writing.{length-line}
use Rattle.language.specs.Check.{Outcome}
use Rattle.language.specs.FileOf.{file_of}
use Rattle.language.specs.OutputOf.{case_frame}
use Rattle.catalog.specs.FileIn.{PlanOf}
use Rattle.catalog.specs.declared.plan.Plan.{Plan}
use Rattle.catalog.proofs.FileLaws.{rows_are, columns-are}
use Rattle.std.proofs.Common.{Ok}
use Rattle.checker.specs.Plans.{Plans}
use Rattle.report.specs.Lines.{Grown, Tabled, TablesLined, CaseLined}
use Rattle.report.proofs.LineLaws.{grown-line, grown-more}
use Rattle.catalog.specs.declared.relation.Relation.{Relation}

-- the plan of an accepted text says where the cells of a candidate stand
pub tabled : (text : List ℕ) (p : Plan) → Plans (file_of text) (Ok p) → (F : File) (k : ℕ) {shows : List ℤ} → file_of text ≡ Outcome.accepted F
    → cell_count F ≤ length shows → take (cell_count F) shows ≡ map shown (cells F k) → Tabled F (cells F k) p.relations p.outline.tables shows
tabled text p P F k {shows} e room same =
    let Q : PlanOf F p = subst (λ (o : Outcome). Plans o (Ok p)) e P in
    let n : length (cells F k) ≡ cell_count F = length-cells F k in
    record {
      legal = Q.file.legal;
      number = Q.file.tables;
      rows = λ t h. rows_are Q.file t (omega (arith, h, Q.file.tables));
      columns = λ t h. columns-are Q.file t (omega (arith, h, Q.file.tables));
      count = n;
      room = omega (arith, n, room);
      shows = ap (λ i. take i shows) n ∙ same;
    }

pub case-lined : {relations : List Relation} {tables k : ℕ} {shows : List ℤ} {f out out₁ out' : List ℕ} {at r : ℕ} → f ≡ case_frame k → Written f 0 out at out₁
    → TablesLined relations tables shows at out₁ r out' → CaseLined relations tables k shows out r out'
unfolding database
case-lined {k = k} {f = f} {out} {out₁} {at = at} own w L = record {
  lined = λ F t room.
      let n : length (line (case_frame k)) ≡ 11 = length-line (case_frame k) in
      let g : Grown (case_frame k ∷ []) 0 out at out₁ = grown-line (subst (λ (l : List ℕ). Written l 0 out at out₁) own w) (omega (arith, n, room)) in
      let here : at ≡ 11 = omega (arith, g.next, ap length (text-one (case_frame k)), n) in
      grown-more g (L.lined F (cells F k) t (omega (arith, here, room, g.size)));
}
