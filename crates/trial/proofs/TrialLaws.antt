-- A trial, from what each of its calls gives. Assumes nothing.
use mathlib.Core.Path.{◌≡◌, refl, sym, ap, ap₂, subst, ◌∙◌}
use mathlib.Core.Logic.{◌⊎◌, ⊎_elim}
use mathlib.Core.Bool.{Bool, true, false, cond}
use mathlib.Core.List.{List}
use Prim.Native.Nat.{ℕ, ◌+◌, ◌*◌, ◌≤◌, ◌<◌}
use native.Mathlib.Omega.{arith}
use lib.IntN.{ℤ}
use lib.ListN.{length, replicate}
use Rattle.value.proofs.Decides.{dec-true, true-dec}
use Rattle.meaning.specs.Syntax.{File, Database}
use Rattle.meaning.specs.Algebra.{MeaningOf}
use Rattle.meaning.specs.Bounds.{well_formed}
use Rattle.meaning.specs.Valid.{Shaped}
use Rattle.meaning.specs.Decided.{is_case}
use Rattle.meaning.proofs.Demand2.{cases}
use Rattle.meaning.proofs.Relations.{rows-mean}
use Rattle.language.specs.Check.{Outcome}
use Rattle.language.specs.FileOf.{file_of}
use Rattle.language.proofs.TextLaws.{accepted-text}
use Rattle.catalog.specs.FileIn.{Source, source_of, TablesCounted, goal_of}
use Rattle.catalog.specs.declared.plan.Goal.{Goal}
use Rattle.catalog.specs.declared.plan.Plan.{Plan}
use Rattle.catalog.proofs.FileLaws.{laid}
use Rattle.std.proofs.Common.{Ok, Err}
use Rattle.text.specs.Refusals.{packed_refusal}
use Rattle.text.specs.declared.refusal.Refusal.{Refusal}
use Rattle.checker.specs.Plans.{Plans}
use Rattle.store.specs.Layout.{area}
use Rattle.store.proofs.RowLaws.{only-more, only_wider}
use Rattle.cases.specs.TablesIn.{TablesIn}
use Rattle.cases.specs.declared.needs.Needs.{Needs}
use Rattle.cases.specs.Needs.{GoalIn, all_needs, NeedsOf}
use Rattle.cases.specs.Judgement.{Memory, memory_from, Ready, Evaluates, IsCase}
use Rattle.cases.proofs.Preparing.{counts-are, tables-kept, all-needed, all-covers}
use Rattle.trial.specs.Tried.{TablesStand, Evaluated, ByAlgebra, EveryRelation, TriedText, Tried}

-- ---- buffers that are too short, and a text that is refused

module _ (out : Outcome) (counts : List ℕ) (work : List ℤ) where
  pub short-trial : (length work < area) ⊎ (length counts < 16) → Tried out counts work 720896 counts work
  short-trial s = record {
    short = λ _. (refl, refl, refl);
    enough = λ h k. ⊎_elim (λ (l : length work < area). absurd (omega arith)) (λ (l : length counts < 16). absurd (omega arith)) s;
  }

enough-trial : {out : Outcome} {counts counts' : List ℕ} {work work' : List ℤ} {r : ℕ} → area ≤ length work → 16 ≤ length counts
    → TriedText out counts work r counts' work' → Tried out counts work r counts' work'
enough-trial {counts = counts} {work = work} h k t = record {
  short = λ s. ⊎_elim (λ (l : length work < area). absurd (omega arith)) (λ (l : length counts < 16). absurd (omega arith)) s;
  enough = λ _ _. t;
}

refused-text : (out : Outcome) (x : Refusal) → Plans out (Err x) → (counts : List ℕ) (work : List ℤ) → TriedText out counts work (packed_refusal x) counts work
refused-text (Outcome.refused n line) x h counts work = (ap₂ (λ a b. a * 65536 + b) h.0 h.1, refl, refl)
refused-text (Outcome.accepted F) x h counts work = absurd h

pub refused-trial : (out : Outcome) (x : Refusal) {counts : List ℕ} {work : List ℤ} {r : ℕ} → area ≤ length work → 16 ≤ length counts → Plans out (Err x)
    → r ≡ packed_refusal x → Tried out counts work r counts work
refused-trial out x {counts} {work} a b h e = rw e (enough-trial a b (refused-text out x h counts work))

-- ---- an accepted text

pub every-relation : {source : Source} {needs : Needs} {g : Goal} {counts counts₁ : List ℕ} {work : List ℤ} {memory₂ memory₃ : Memory} {b : Bool}
    → TablesCounted source.relations source.outline.tables counts counts₁ → NeedsOf source g needs
    → IsCase source needs g (memory_from counts₁ (replicate 16 0) work) b memory₂
    → Evaluates source all_needs memory₂ memory₃ → EveryRelation source g counts work b memory₃.counts memory₃.work
every-relation {source} {needs} {g} {counts₁ = counts₁} {work} {memory₂} C N J E = record {
  cells = only-more J.kept.cells E.kept.cells;
  size = E.kept.counts-size ∙ J.kept.counts-size ∙ C.size;
  others = λ i h v. E.kept.counts i v ∙ J.kept.counts i v ∙ C.others i h;
  evaluated = λ F M e d shaped T whole size.
      let tables : TablesIn F d counts₁ work = record { table = λ t h. rw (counts-are M C size t h) (T.table t h) } in
      let goal : GoalIn F (goal_of g) = subst (GoalIn F) (sym e) M.legal.goal in
      let first : Ready F (goal_of g) d needs (memory_from counts₁ (replicate 16 0) work) = record {
        covers = N.covers (laid M) goal;
        shaped = shaped;
        tables = tables;
        whole = whole;
        counts-size = omega (arith, C.size);
        signs-size = omega arith;
      } in
      let second : Ready F (goal_of g) d all_needs memory₂ = record {
        covers = all-covers M.legal (goal_of g) goal;
        shaped = shaped;
        tables = tables-kept M.tables J.kept tables;
        whole = omega (arith, J.kept.cells.size);
        counts-size = omega (arith, J.kept.counts-size, C.size);
        signs-size = omega (arith, J.kept.signs-size);
      } in
      record {
        case = ap (λ x. cond x 1 0) (J.case (laid M) first ∙ ap (λ x. is_case F x d) e);
        relation = λ i h. (E.known (laid M) second).rows-known i h (all-needed i (omega (arith, M.legal.relation_count)));
      };
}

accepted-text-trial : (out : Outcome) (p : Plan) {counts counts' : List ℕ} {work work' : List ℤ} {b : Bool} {r : ℕ} → area ≤ length work → 16 ≤ length counts
    → Plans out (Ok p) → EveryRelation (source_of p) p.goal counts work b counts' work' → r ≡ cond b 1 0 → TriedText out counts work r counts' work'
accepted-text-trial (Outcome.refused n line) p whole size h E v = absurd h
accepted-text-trial (Outcome.accepted F) p {counts' = counts'} {work' = work'} whole size h E v = record {
  cells = only_wider (λ i l. (omega (arith, l.0, h.file.tables), omega (arith, l.1, h.file.relations))) E.cells;
  size = E.size;
  others = λ i l. E.others i (omega (arith, h.file.tables)) (λ w. omega (arith, w.1, h.file.relations));
  evaluated = λ d shaped T. subst (λ k. Evaluated F d k counts' work') (sym v) (E.evaluated F h.file h.goal d shaped T whole size);
}

pub accepted-trial : (out : Outcome) (p : Plan) {counts counts' : List ℕ} {work work' : List ℤ} {b : Bool} {r : ℕ} → area ≤ length work → 16 ≤ length counts
    → Plans out (Ok p) → EveryRelation (source_of p) p.goal counts work b counts' work' → r ≡ cond b 1 0 → Tried out counts work r counts' work'
accepted-trial out p a b h E v = enough-trial a b (accepted-text-trial out p a b h E v)

-- ---- by the algebra

one-true : (b : Bool) {r : ℕ} → r ≡ cond b 1 0 → r ≡ 1 → b ≡ true
one-true true p q = refl
one-true false p q = absurd (omega arith)

pub by-algebra : {F : File} {d : Database} {r : ℕ} {counts : List ℕ} {work : List ℤ} → well_formed F ≡ true → Evaluated F d r counts work → ByAlgebra F d r counts work
by-algebra {F} {d} w E =
    let decided = cases F w d in
    record {
      case = ((λ q. dec-true decided (one-true (is_case F F.goal d) E.case q)), λ c. E.case ∙ ap (λ b. cond b 1 0) (true-dec decided c));
      relation = λ i h. subst (MeaningOf F d i) (sym (E.relation i h)) (rows-mean F w d i);
    }

-- what `sakthveim_evaluate` promises of an accepted text, said by the algebra
pub tried-rows : (text : List ℕ) (F : File) → file_of text ≡ Outcome.accepted F → (counts : List ℕ) (work : List ℤ) (r : ℕ) (counts' : List ℕ) (work' : List ℤ)
    → Tried (file_of text) counts work r counts' work'
    → (d : Database) → Shaped F d → TablesStand F d work → area ≤ length work → 16 ≤ length counts → ByAlgebra F d r counts' work'
tried-rows text F e counts work r counts' work' t d shaped T whole size =
    by-algebra (accepted-text text F e).well-formed ((subst (λ out. TriedText out counts work r counts' work') e (t.enough whole size)).evaluated d shaped T)
