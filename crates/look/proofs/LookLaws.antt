-- A look, from what each of its calls gives. Assumes nothing.
use mathlib.Core.Path.{◌≡◌, refl, sym, ap, ap₂, subst, ◌∙◌}
use mathlib.Core.Bool.{Bool, true, false, cond}
use mathlib.Core.List.{List, ◌++◌, map}
use Prim.Native.Nat.{ℕ, ◌+◌, ◌≤◌, ◌<◌, min}
use native.Mathlib.Omega.{arith}
use borrow.Author.Tests.{lt-ltb, ltb-true, ltb-false, eq-eqb, ne_eqb}
use lib.Dec.{ltb, eqb}
use lib.IntN.{ℤ, pos}
use lib.ListN.{length, take, drop, replicate, length-take}
use Rattle.std.specs.Prelude.{Option, None, Some}
use Rattle.value.specs.Value.{Value, shown}
use Rattle.value.proofs.Decides.{by-test}
use Rattle.meaning.specs.Syntax.{File}
use Rattle.meaning.specs.Candidates.{candidates, cell_columns}
use Rattle.meaning.specs.Look.{Answer, number_of, values_of, After, answer_in, zeros, work_size}
use Rattle.meaning.specs.Decided.{refusal, shown_in, after_search, look}
use Rattle.meaning.proofs.LookTests.{look-short, look-late, look-on, search-case, search-none}
use Rattle.language.specs.Check.{Outcome}
use Rattle.language.specs.FileOf.{file_of}
use Rattle.checker.specs.Plans.{Plans}
use Rattle.catalog.specs.FileIn.{source_of, PlanOf}
use Rattle.catalog.specs.declared.plan.Plan.{Plan}
use Rattle.look.specs.declared.cells.Cell.{Cell}
use Rattle.look.specs.Cells.{no_cell, file_cells, cells_in, CellsOf}
use Rattle.look.specs.Moves.{places_from, Digits}
use Rattle.look.specs.Scans.{Search, come_to, FirstFound, Searched}
use Rattle.look.specs.Buffers.{Shows}
use Rattle.look.specs.Looks.{answer_by, answer_of, number_told, values_told, LooksText, cells_by, Leaves, Concludes, TellsOf, Tells, Looked, Says, LooksAt}
use Rattle.language.specs.LookOf.{look_at, look_of}
use Rattle.std.specs.Result.{IsErrAnd}
use Rattle.std.proofs.Common.{Result, Ok, Err}
use Rattle.std.proofs.lemmas.Result.{err_from_is_err_and}
use Rattle.text.specs.Refusals.{numbers_of}
use Rattle.text.specs.declared.refusal.Refusal.{Refusal}
use Rattle.text.specs.declared.refusal.Reason.TheVariants.{WorkArea, Instance, Start}
use Rattle.look.specs.declared.Answer.{Answer as Answered}
use Rattle.look.specs.declared.Answer.TheVariants.{Case, NoCase, Spent}
use Rattle.look.proofs.BufferLaws.{shows-all}
use Rattle.look.proofs.Standing.{digits-given, cells-counted}

-- ---- without a case

pub concluded-none : {end n : ℕ} → end ≡ n → Concludes end n NoCase
concluded-none {end} {n} e = record { concludes = rw (eq-eqb end n e) }

pub concluded-spent : {end n : ℕ} → (end ≡ n → ⊥) → Concludes end n (Spent end)
concluded-spent {end} {n} h = record { concludes = rw (ne_eqb end n h) }

-- ---- a look at an accepted file

zeros-same : (a b : List ℤ) → length a ≡ length b → zeros a ≡ zeros b
zeros-same a b e = ap (λ n. replicate n (pos 0)) e

-- the cells that a look at a plan works out
abbrev pub Planned : Plan → ℕ → List Cell → Type 0
Planned p n room = CellsOf p.relations p.outline.tables (replicate 512 no_cell) n room

module _ {p : Plan} where
  digits : {F : File} {n : ℕ} {room : List Cell} → PlanOf F p → Planned p n room → Digits F (places_from p.relations (take n room))
  digits P C = digits-given P.file C refl

  counted : {F : File} {n : ℕ} {room : List Cell} → PlanOf F p → Planned p n room → length (cell_columns F.tables) ≡ n
  counted P C = cells-counted P.file C refl

  module _ {start count : ℕ} {work inst : List ℤ} where
    pub finds-short : {n : ℕ} {room : List Cell} (x : Refusal) → x ≡ record { reason = Instance; line = 0 } → Planned p n room → length inst < n
        → Looked p start count work inst (Err x) work inst
    finds-short x e C h = record {
      leaves = (refl, refl);
      finds = λ F P whole. rw e (sym (look-short F start count work inst whole (omega (arith, counted P C))));
    }

    pub finds-late : {n : ℕ} {room : List Cell} (x : Refusal) → x ≡ record { reason = Start; line = 0 } → Planned p n room → n ≤ length inst
        → p.candidates < start → Looked p start count work inst (Err x) work inst
    finds-late x e C h l = record {
      leaves = (refl, refl);
      finds = λ F P whole. rw e (sym (look-late F start count work inst whole (omega (arith, counted P C)) (omega (arith, P.candidates-are))));
    }

-- the search of a look at a plan
abbrev search_of : Plan → List Cell → ℕ → ℕ → Search
search_of p cells start end = record { source = source_of p; cells = cells; goal = p.goal; start = start; end = end }

-- "no case" and "spent" leave the same
by_end : (b : Bool) (cells end : ℕ) (work inst work' : List ℤ) → work' ≡ zeros work → Leaves (cond b Answer.no_case (Answer.spent end)) cells work inst work' inst
by_end true cells end work inst work' z = (z, refl)
by_end false cells end work inst work' z = (z, refl)

-- a look that is not refused searches
pub record Sought (p : Plan) (start count : ℕ) (inst : List ℤ) (end : ℕ) (cells : List Cell) : Type 0 where
  pub number : ℕ
  pub all : List Cell
  pub planned : Planned p number all
  pub cells-are : cells ≡ take number all
  pub room : number ≤ length inst
  pub from : start ≤ p.candidates
  pub to : end ≡ min (start + count) p.candidates

module _ {p : Plan} {start count : ℕ} {inst : List ℤ} {end : ℕ} {cells : List Cell} (S : Sought p start count inst end cells) where
  few : length cells ≤ S.number
  few = omega (arith, ap length S.cells-are ∙ length-take S.number S.all)

  module _ {work : List ℤ} where
    module _ {r : Option ℕ} {work₁ : List ℤ} (X : Searched (search_of p cells start end) work r work₁) where
      module _ (F : File) (P : PlanOf F p) (whole : work_size ≤ length work) where
        found : FirstFound F (search_of p cells start end) r work₁
        found = X.found F P.file P.goal (rw S.cells-are (digits P S.planned)) whole (omega (arith, S.from, S.to))

        looks : look F start count work inst ≡ after_search F end (come_to r end) work inst
        looks =
            look-on F start count work inst end whole (omega (arith, S.room, counted P S.planned)) (omega (arith, S.from, P.candidates-are))
            (S.to ∙ ap (min (start + count)) P.candidates-are)
            ∙ ap (λ i. after_search F end i work inst) (sym found.first)

      zeros-left : {work₂ : List ℤ} → work₂ ≡ zeros work₁ → work₂ ≡ zeros work
      zeros-left z = z ∙ zeros-same work₁ work X.only.size

    finds-case : {k : ℕ} {work₁ : List ℤ} → Searched (search_of p cells start end) work (Some k) work₁ → {work₂ inst₂ : List ℤ}
        → Shows cells (length cells) work₁ inst inst₂ → work₂ ≡ zeros work₁ → Looked p start count work inst (Ok (Case k)) work₂ inst₂
    finds-case {k} {work₁} X {work₂} {inst₂} W z = record {
      leaves = (zeros-left X z, λ j l. W.others j (omega (arith, few, S.planned.total)));
      finds = λ F P whole.
          let D = digits P S.planned in
          let size : length cells ≡ length (cell_columns F.tables) = ap length S.cells-are ∙ sym D.number in
          let here : cells ≡ file_cells F = S.cells-are ∙ D.cells-are in
          let i : inst₂ ≡ shown_in F k inst =
          shows-all W (omega (arith, few, S.room))
          ∙ ap₂ (λ (a : List Value) (j : ℕ). map shown a ++ drop j inst) (ap (cells_in work₁) here ∙ (found X F P whole).cells) size in
          ap₂ (λ (a b : List ℤ). After.after (Answer.case k) a b) (zeros-left X z) i ∙ sym (looks X F P whole ∙ search-case F work inst end k X.inside);
    }

    finds-none : {work₁ : List ℤ} → Searched (search_of p cells start end) work None work₁ → {work₂ : List ℤ} {r : Answered}
        → work₂ ≡ zeros work₁ → Concludes end p.candidates r → Looked p start count work inst (Ok r) work₂ inst
    finds-none {work₁} X {work₂} {r} z R = record {
      leaves = subst (λ a. Leaves a (cells_by p) work inst work₂ inst) (sym R.concludes)
          (by_end (eqb end p.candidates) (cells_by p) end work inst work₂ (zeros-left X z));
      finds = λ F P whole.
          let a : answer_of (Ok r) ≡ cond (eqb end (candidates F)) Answer.no_case (Answer.spent end) =
          R.concludes ∙ ap (λ j. cond (eqb end j) Answer.no_case (Answer.spent end)) P.candidates-are in
          ap₂ (λ (a : Answer) (b : List ℤ). After.after a b inst) a (zeros-left X z) ∙ sym (looks X F P whole ∙ search-none F work inst end end (omega arith));
    }

    by-found : (found : Option ℕ) {work₁ : List ℤ} → Searched (search_of p cells start end) work found work₁ → {work₂ inst₂ : List ℤ} {r : Answered}
        → work₂ ≡ zeros work₁ → TellsOf found (search_of p cells start end) p.candidates work₁ inst r inst₂ → Looked p start count work inst (Ok r) work₂ inst₂
    by-found (Some k) X z (e, W) = rw e (finds-case X W z)
    by-found None X z (C, e) = rw e (finds-none X z C)

    pub finds-told : {work₂ inst₂ : List ℤ} {r : Answered} → Tells (search_of p cells start end) p.candidates work inst r work₂ inst₂
        → Looked p start count work inst (Ok r) work₂ inst₂
    finds-told T = by-found T.found T.searched T.cleared T.tells

-- ---- a look at a plan

look-unsized : (F : File) (start count : ℕ) (work inst : List ℤ) → length work < work_size → look F start count work inst ≡ refusal 11 work inst
unfolding look
look-unsized F start count work inst h = rw (lt-ltb (length work) work_size h)

-- this crate's own refusals, of which each is made of itself
pub says-own : Says (λ r e. e ≡ r) numbers_of
says-own r e m = ap numbers_of m

module _ {E : Type 0} {says : E → ℕ × ℕ} where
  -- what is made of a refusal says the same
  pub said : {made : Refusal → E → Type 0} → Says made says → {x : Refusal} {e : E} → made x e → answer_by says (Err e) ≡ answer_of (Err x)
  said S {x} {e} m = ap (λ n. Answer.refused n.0 n.1) (S x e m)

  -- a refusal of `s` says the same
  pub said-err : {made : Refusal → E → Type 0} → Says made says → {s : Result Answered Refusal} (r : Result Answered E) {x : Refusal}
      → s ≡ Err x → IsErrAnd r (made x) → answer_by says r ≡ answer_of s
  said-err S r e h = let p = err_from_is_err_and r h in rw (e, p.1) (said S p.2)

pub said-ok : {E : Type 0} (says : E → ℕ × ℕ) (a : Answered) → answer_by says (Ok a) ≡ answer_of (Ok a)
said-ok says (Case k) = refl
said-ok says NoCase = refl
said-ok says (Spent next) = refl

module _ {E : Type 0} {says : E → ℕ × ℕ} {start count : ℕ} {work inst : List ℤ} where
  pub at-short : (p : Result Plan E) (x : Refusal) {e : E} → x ≡ record { reason = WorkArea; line = 0 } → answer_by says (Err e) ≡ answer_of (Err x)
      → length work < work_size → LooksAt says p start count work inst (Err e) work inst
  at-short p x k same h = record {
    work-size = refl;
    inst-size = refl;
    leaves = (refl, refl);
    short = λ _. rw (same, k);
    refused = λ whole y q. absurd (omega arith);
    accepted = λ F q j P. rw (same, k) (sym (look-unsized F start count work inst h));
  }

  pub at-refused : (p : Result Plan E) (r : Result Answered E) (x : E) → work_size ≤ length work → p ≡ Err x → r ≡ Err x
      → LooksAt says p start count work inst r work inst
  at-refused p r x whole e f = record {
    work-size = refl;
    inst-size = refl;
    leaves = rw f (refl, refl);
    short = λ h. absurd (omega arith);
    refused = λ _ y k. let q : x ≡ y = cc in rw (f, q);
    accepted = λ F q k P. absurd (cc);
  }

  pub at-file : (p : Result Plan E) (q : Plan) {r : Result Answered E} {s : Result Answered Refusal} {work' inst' : List ℤ} → length work' ≡ length work
      → length inst' ≡ length inst → work_size ≤ length work → p ≡ Ok q → answer_by says r ≡ answer_of s → Looked q start count work inst s work' inst'
      → LooksAt says p start count work inst r work' inst'
  at-file p q {r} {s} {work'} {inst'} w i whole e f L = record {
    work-size = w;
    inst-size = i;
    leaves = rw (e, f) L.leaves;
    short = λ h. absurd (omega arith);
    refused = λ _ y k. absurd (cc);
    accepted = λ F q' k P. let same : q' ≡ q = cc in rw f (L.finds F (subst (PlanOf F) same P) whole);
  }

-- ---- a look at a text

number-told : (r : Result Answered Refusal) → number_told r ≡ number_of (answer_of r)
number-told (Ok (Case k)) = refl
number-told (Ok NoCase) = refl
number-told (Ok (Spent next)) = refl
number-told (Err x) = refl

values-told : (r : Result Answered Refusal) → values_told r ≡ values_of (answer_of r)
values-told (Ok (Case k)) = refl
values-told (Ok NoCase) = refl
values-told (Ok (Spent next)) = refl
values-told (Err x) = refl

module _ (text : List ℕ) {p : Result Plan Refusal} {start count : ℕ} {work inst : List ℤ} {r : Result Answered Refusal} {work' inst' : List ℤ}
    (L : LooksAt numbers_of p start count work inst r work' inst') where
  looks-so : work_size ≤ length work → (out : Outcome) (q : Result Plan Refusal) → p ≡ q → Plans out q
      → After.after (answer_of r) work' inst' ≡ look_at out start count work inst
  looks-so whole (Outcome.refused n line) (Ok q) e P = absurd P
  looks-so whole (Outcome.refused n line) (Err x) e P = L.refused whole x e ∙ ap₂ (λ a b. After.after (Answer.refused a b) work inst) P.0 P.1
  looks-so whole (Outcome.accepted F) (Ok q) e P = L.accepted F q e P
  looks-so whole (Outcome.accepted F) (Err x) e P = absurd P

  after-planned : Plans (file_of text) p → After.after (answer_of r) work' inst' ≡ look_of text start count work inst
  unfolding look_of
  after-planned P =
      by-test (ltb (length work) work_size)
      (λ t. rw t (L.short (ltb-true (length work) work_size t)))
      (λ t. rw t (looks-so (ltb-false (length work) work_size t) (file_of text) p refl P))

  -- a look at the plan of a text is one at the text
  pub looks-planned : Plans (file_of text) p → LooksText text start count work inst r work' inst'
  looks-planned P = record {
    after = after-planned P;
    number = number-told r ∙ ap (λ x. number_of (answer_in x)) (after-planned P);
    values = values-told r ∙ ap (λ x. values_of (answer_in x)) (after-planned P);
  }
