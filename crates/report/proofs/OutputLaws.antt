-- The program's output from the answer to its look, and the output's length. Assumes nothing.
use mathlib.Core.Path.{◌≡◌, refl, sym, ap, ap₂, ◌∙◌}
use mathlib.Core.List.{List, [], ◌∷◌, map}
use Prim.Native.Nat.{ℕ, ◌≤◌}
use native.Mathlib.Omega.{arith}
use borrow.Author.Tests.{le-ltb, ltb-true, ltb-false}
use lib.Dec.{ltb}
use lib.IntN.{ℤ}
use lib.ListN.{length, take, drop, length-append, length-map}
use lib.Seq.{take_at}
use Rattle.value.specs.Value.{shown}
use Rattle.value.proofs.Decides.{by-test}
use Rattle.meaning.specs.Syntax.{File}
use Rattle.meaning.specs.Candidates.{cell_count, candidates, cells}
use Rattle.meaning.specs.Look.{Answer, After, answer_in, inst_in, number_of, zeros, work_size}
use Rattle.meaning.specs.Decided.{shown_in}
use Rattle.meaning.proofs.Numbering.{length-cells}
use Rattle.text.specs.Answers.{Written}
use Rattle.text.proofs.Writing.{length-line}
use Rattle.language.specs.Check.{Outcome, candidate_limit}
use Rattle.language.specs.FileOf.{file_of}
use Rattle.language.specs.Legal.{Legal}
use Rattle.language.proofs.TextLaws.{accepted-text}
use Rattle.std.proofs.Common.{Result, Ok, Err}
use Rattle.text.specs.Refusals.{number_of as reason_number, numbers_of}
use Rattle.text.specs.declared.refusal.Refusal.{Refusal}
use Rattle.checker.specs.Plans.{Plans}
use Rattle.catalog.specs.declared.plan.Plan.{Plan}
use Rattle.look.specs.Looks.{answer_of, Says, LooksAt}
use Rattle.language.specs.LookOf.{look_of}
use Rattle.look.specs.declared.Answer.{Answer as Answered}
use Rattle.look.specs.declared.Answer.TheVariants.{Case, NoCase, Spent}
use Rattle.language.proofs.WholeSearch.{first, shown_all, all-case, all_none, answered, whole-look}
use Rattle.look.proofs.CellLaws.{cells-few}
use Rattle.look.proofs.LookLaws.{says-own, looks-planned}
use Rattle.language.proofs.RealLooks.{look-of-text}
use Rattle.language.specs.OutputOf.{no_case_frame, refusal_frame, answer_frames, searched_all, outcome_frames, output_of, output_room, Printed}
use Rattle.report.specs.Lines.{Grown, CaseLined}
use Rattle.report.proofs.CaseLaws.{tabled}
use Rattle.report.proofs.LineLaws.{grown-line, grown-whole}

-- ---- a look at a text from 0 to the end

abbrev case_in : Answer → ℕ
case_in (Answer.case k) = k
case_in Answer.no_case = 0
case_in (Answer.spent next) = 0
case_in (Answer.refused n l) = 0

abbrev refusal_in : Answer → List (List ℕ)
refusal_in (Answer.case k) = []
refusal_in Answer.no_case = []
refusal_in (Answer.spent next) = []
refusal_in (Answer.refused n l) = refusal_frame n l ∷ []

-- case k of an accepted text, whose cells the buffer begins with
pub record FoundCase (text : List ℕ) (k : ℕ) (inst : List ℤ) : Type 0 where
  pub file : File
  pub accepted : file_of text ≡ Outcome.accepted file
  pub answer : searched_all file ≡ Answer.case k
  pub room : cell_count file ≤ length inst
  pub shows : take (cell_count file) inst ≡ map shown (cells file k)

-- what the answer to the whole search says of the output
pub record Said (text : List ℕ) (x : Answer) (inst : List ℤ) : Type 0 where
  pub case : (k : ℕ) → x ≡ Answer.case k → FoundCase text k inst
  pub none : x ≡ Answer.no_case → outcome_frames (file_of text) ≡ no_case_frame ∷ []
  pub refused : (n l : ℕ) → x ≡ Answer.refused n l → outcome_frames (file_of text) ≡ refusal_frame n l ∷ []
  pub spent : (next : ℕ) → x ≡ Answer.spent next → ⊥

module _ (text : List ℕ) (count : ℕ) (work inst : List ℤ) (x : Answer) (w i : List ℤ) (many : candidate_limit ≤ count) (whole : work_size ≤ length work)
    (room : 512 ≤ length inst) (looked : After.after x w i ≡ look_of text 0 count work inst) where
  -- 512 numbers are enough for the cells of any file
  cells_fit : (F : File) → file_of text ≡ Outcome.accepted F → cell_count F ≤ length inst
  cells_fit F e =
      let l : Legal F = (accepted-text text F e).legal in
      omega (arith, cells-few l.tables, l.relation_count, room)

  accepted-all : (F : File) → file_of text ≡ Outcome.accepted F → After.after x w i ≡ After.after (searched_all F) (zeros work) (shown_all F inst)
  accepted-all F e =
      looked ∙ ap (λ (f : ℕ → ℕ → List ℤ → List ℤ → After). f 0 count work inst) (look-of-text text F e)
      ∙ whole-look F count work inst (omega (arith, (accepted-text text F e).legal.number, many)) whole (cells_fit F e)

  refused_all : (n l : ℕ) → file_of text ≡ Outcome.refused n l → x ≡ Answer.refused n l
  unfolding look_of
  refused_all n l e =
      let a : look_of text 0 count work inst ≡ After.after (Answer.refused n l) work inst = rw (le-ltb (length work) work_size whole, e) in
      ap answer_in (looked ∙ a)

  found : (k : ℕ) → x ≡ Answer.case k → (o : Outcome) → file_of text ≡ o → FoundCase text k i
  found k c (Outcome.refused n l) e = absurd (omega (arith, ap number_of (sym c ∙ refused_all n l e)))
  found k c (Outcome.accepted F) e =
      let a : x ≡ searched_all F = ap answer_in (accepted-all F e) in
      let b : i ≡ shown_all F inst = ap inst_in (accepted-all F e) in
      by-test (ltb (first F) (candidates F))
      (λ t. let at : first F ≡ k = ap case_in (sym (all-case F (ltb-true _ _ t)) ∙ sym a ∙ c) in
      let front : shown_all F inst ≡ shown_in F (first F) inst = rw t in
      let n : length (map shown (cells F k)) ≡ cell_count F = length-map (cells F k) shown ∙ length-cells F k in
      let own : i ≡ shown_in F k inst = b ∙ front ∙ ap (λ j. shown_in F j inst) at in
      record {
        file = F;
        accepted = e;
        answer = sym a ∙ c;
        room = omega (arith, ap length own, length-append (map shown (cells F k)) (drop (cell_count F) inst), n);
        shows = ap (take (cell_count F)) own ∙ take_at (map shown (cells F k)) (drop (cell_count F) inst) (cell_count F) n;
      })
      (λ t. absurd (omega (arith, ap number_of (sym c ∙ a ∙ all_none F (ltb-false _ _ t)))))

  none : x ≡ Answer.no_case → (o : Outcome) → file_of text ≡ o → outcome_frames o ≡ no_case_frame ∷ []
  none c (Outcome.refused n l) e = absurd (omega (arith, ap number_of (sym c ∙ refused_all n l e)))
  none c (Outcome.accepted F) e = ap (answer_frames F) (sym (ap answer_in (accepted-all F e)) ∙ c)

  refused : (n l : ℕ) → x ≡ Answer.refused n l → (o : Outcome) → file_of text ≡ o → outcome_frames o ≡ refusal_frame n l ∷ []
  refused n l c (Outcome.refused m j) e = ap refusal_in (sym (refused_all m j e) ∙ c)
  refused n l c (Outcome.accepted F) e =
      answered F x (ap answer_in (accepted-all F e)) (λ t. absurd (omega (arith, ap number_of c, t))) (λ t. absurd (omega (arith, ap number_of c, t)))

  spent : (next : ℕ) → x ≡ Answer.spent next → (o : Outcome) → file_of text ≡ o → ⊥
  spent next c (Outcome.refused n l) e = absurd (omega (arith, ap number_of (sym c ∙ refused_all n l e)))
  spent next c (Outcome.accepted F) e =
      answered F x (ap answer_in (accepted-all F e)) (λ t. absurd (omega (arith, ap number_of c, t))) (λ t. absurd (omega (arith, ap number_of c, t)))

  said : Said text x i
  said = record {
    case = λ k c. found k c (file_of text) refl;
    none = λ c. none c (file_of text) refl;
    refused = λ n l c. refused n l c (file_of text) refl;
    spent = λ next c. spent next c (file_of text) refl;
  }

-- by a look at the text's plan
pub said-planned : (text : List ℕ) {p : Result Plan Refusal} {count : ℕ} {work inst : List ℤ} {a : Result Answered Refusal} {w i : List ℤ} → candidate_limit ≤ count → work_size ≤ length work
    → 512 ≤ length inst → Plans (file_of text) p → LooksAt numbers_of p 0 count work inst a w i → Said text (answer_of a) i
said-planned text {count = count} {work} {inst} {a} {w} {i} many whole room P L =
    said text count work inst (answer_of a) w i many whole room (looks-planned text L P).after

-- by what `look::look_at` promises of a plan, or a refusal of the checker
pub said-looked : (text : List ℕ) {p : Result Plan Refusal} {count : ℕ} {work inst : List ℤ} {a : Result Answered Refusal} {w i : List ℤ} → candidate_limit ≤ count → work_size ≤ length work
    → 512 ≤ length inst → Plans (file_of text) p
    → ((says : Refusal → ℕ × ℕ) → Says (λ r e. e ≡ r) says → LooksAt says p 0 count work inst a w i) → Said text (answer_of a) i
said-looked text many whole room P L = said-planned text many whole room P (L numbers_of says-own)

-- ---- the output

module _ (text out : List ℕ) where
  printed : {fs : List (List ℕ)} {out' : List ℕ} {r : ℕ} → output_room ≤ length out → outcome_frames (file_of text) ≡ fs → Grown fs 0 out r out' → Printed text out r out'
  unfolding output_of
  printed {fs} {out'} {r} h e g =
      let (n, l) = grown-whole g in
      record { length-is = rw (le-ltb (length out) output_room h, e) n; left = rw (le-ltb (length out) output_room h, e) l }

  -- the line of an answer without a case
  printed-line : {f out' : List ℕ} {r : ℕ} → output_room ≤ length out → outcome_frames (file_of text) ≡ f ∷ [] → length f ≤ 4 → Written f 0 out r out' → Printed text out r out'
  printed-line {f} h e n w = printed h e (grown-line w (omega (arith, length-line f, n, h)))

  -- a text that is refused
  pub printed-unread : (x : Refusal) {out' : List ℕ} {r : ℕ} → output_room ≤ length out → Plans (file_of text) (Err x)
      → Written (refusal_frame (reason_number x.reason) x.line) 0 out r out' → Printed text out r out'
  printed-unread x h P w = printed-line h (go (file_of text) P) (omega arith) w
    where
      go : (o : Outcome) → Plans o (Err x) → outcome_frames o ≡ refusal_frame (reason_number x.reason) x.line ∷ []
      go (Outcome.refused n l) q = ap₂ (λ (m k : ℕ). refusal_frame m k ∷ []) (sym q.0) (sym q.1)
      go (Outcome.accepted F) q = absurd q

  module _ {a : Result Answered Refusal} {inst : List ℤ} {out' : List ℕ} {r : ℕ} (h : output_room ≤ length out) (S : Said text (answer_of a) inst) where
    pub printed-case : (p : Plan) {k : ℕ} {x : Answered} → a ≡ Ok x → x ≡ Case k → Plans (file_of text) (Ok p) → CaseLined p.relations p.outline.tables k inst out r out' → Printed text out r out'
    printed-case p {k} e f P L =
        let C = S.case k (ap answer_of (e ∙ ap Ok f)) in
        printed h (ap outcome_frames C.accepted ∙ ap (answer_frames C.file) C.answer)
        (L.lined C.file (tabled text p P C.file k C.accepted C.room C.shows) h)

    pub printed-none : {x : Answered} → a ≡ Ok x → x ≡ NoCase → Written no_case_frame 0 out r out' → Printed text out r out'
    printed-none e f w = printed-line h (S.none (ap answer_of (e ∙ ap Ok f))) (omega arith) w

    pub printed-refused : {x : Refusal} → a ≡ Err x → Written (refusal_frame (reason_number x.reason) x.line) 0 out r out' → Printed text out r out'
    printed-refused {x} e w = printed-line h (S.refused (reason_number x.reason) x.line (ap answer_of e)) (omega arith) w

    pub printed-spent : {next : ℕ} {x : Answered} → a ≡ Ok x → x ≡ Spent next → Printed text out r out'
    printed-spent {next} e f = absurd (S.spent next (ap answer_of (e ∙ ap Ok f)))
