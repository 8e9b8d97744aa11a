-- What a plan and an answer give as numbers. Assumes nothing.
use mathlib.Core.Path.{◌≡◌, refl, sym, ap, ap₂, ◌∙◌}
use mathlib.Core.List.{List}
use Prim.Native.Nat.{ℕ, ◌+◌, ◌*◌, ◌/◌, ◌%◌, ◌^◌, ◌<◌}
use native.Mathlib.Omega.{arith}
use lib.IntN.{ℤ}
use Rattle.meaning.specs.Look.{Answer, After, answer_in, work_in, inst_in}
use Rattle.language.specs.Check.{Outcome}
use Rattle.catalog.specs.declared.plan.Plan.{Plan}
use Rattle.std.proofs.Common.{Result, Ok, Err}
use Rattle.text.specs.Refusals.{packed_refusal}
use Rattle.text.specs.declared.refusal.Refusal.{Refusal}
use Rattle.checker.specs.Plans.{Plans}
use Rattle.look.specs.Looks.{answer_of}
use Rattle.language.specs.LookOf.{look_of}
use Rattle.look.specs.declared.Answer.{Answer as Answered}
use Rattle.look.specs.declared.Answer.TheVariants.{Case, NoCase, Spent}
use Rattle.language.proofs.RealLooks.{refused-unchanged}
use Rattle.export.specs.Answers.{check_answer, payload_count, look_answer, Looks}

-- ---- a check

pub answer-accepted : (o : Outcome) (p : Plan) → Plans o (Ok p) → 0 ≡ check_answer o
answer-accepted (Outcome.refused n line) p h = absurd h
answer-accepted (Outcome.accepted F) p h = refl

pub answer-refused : (o : Outcome) (x : Refusal) → Plans o (Err x) → packed_refusal x ≡ check_answer o
answer-refused (Outcome.refused n line) x h = ap₂ (λ a b. a * 65536 + b) h.0 h.1
answer-refused (Outcome.accepted F) x h = absurd h

-- ---- a look

module _ {a : Result Answered Refusal} where
  pub told-case : {k : ℕ} {x : Answered} → a ≡ Ok x → x ≡ Case k → 0x80 * payload_count + k % payload_count ≡ look_answer (answer_of a)
  unfolding look_answer
  told-case {k} e f = rw (e, f)

  pub told_none : {x : Answered} → a ≡ Ok x → x ≡ NoCase → 0x82 * payload_count ≡ look_answer (answer_of a)
  unfolding look_answer
  told_none e f = rw (e, f)

  pub told-spent : {next : ℕ} {x : Answered} → a ≡ Ok x → x ≡ Spent next → next % payload_count ≡ look_answer (answer_of a)
  unfolding look_answer
  told-spent {next} e f = rw (e, f) (omega arith)

  pub told-refused : {x : Refusal} {n : ℕ} → a ≡ Err x → n ≡ packed_refusal x → n < 2 ^ 32 → 0x8f * payload_count + n ≡ look_answer (answer_of a)
  unfolding look_answer
  told-refused {x} {n} e p l = rw e (omega arith)

-- the number of an answer is in the upper bits
number_of : (a : Answer) → look_answer a / payload_count ≡ 0x8f → (n : ℕ) × (l : ℕ) × (a ≡ Answer.refused n l)
unfolding look_answer
number_of (Answer.case k) e = absurd (omega arith)
number_of Answer.no_case e = absurd (omega arith)
number_of (Answer.spent next) e = absurd (omega arith)
number_of (Answer.refused n l) e = (n, l, refl)

-- what the look gave, told as a number
pub told-look : (text : List ℕ) (start count : ℕ) (work inst : List ℤ) {a : Answer} {r : ℕ} {work' inst' : List ℤ}
    → After.after a work' inst' ≡ look_of text start count work inst → r ≡ look_answer a → Looks text start count work inst r work' inst'
told-look text start count work inst {a} {r} {work'} {inst'} e t =
    record {
      answer = t ∙ ap (λ x. look_answer (answer_in x)) e;
      work-is = ap work_in e;
      instance-is = ap inst_in e;
      refused-unchanged = λ h.
          let (n, l, q) = number_of a (ap (λ x. x / payload_count) (sym t) ∙ h) in
          refused-unchanged text start count work inst n l work' inst' (sym e ∙ ap (λ x. After.after x work' inst') q);
    }
