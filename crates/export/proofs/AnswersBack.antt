-- From the number alone: the answer of a look, and that of a check. Assumes nothing.
use mathlib.Core.Path.{◌≡◌, refl, ap₂, ◌∙◌}
use mathlib.Core.List.{List}
use Prim.Native.Nat.{ℕ, ◌+◌, ◌*◌, ◌-◌, ◌/◌, ◌%◌, ◌≤◌, ◌<◌, min}
use native.Mathlib.Omega.{arith}
use borrow.Author.Tests.{ltb-true, eqb-false}
use lib.Dec.{ltb, eqb}
use lib.IntN.{ℤ}
use lib.ListN.{length}
use Rattle.value.proofs.Decides.{by-test}
use Rattle.meaning.specs.Syntax.{File}
use Rattle.meaning.specs.Candidates.{cell_count, candidates}
use Rattle.meaning.specs.Look.{Answer, answer_in, work_size}
use Rattle.meaning.specs.Decided.{after_search, is_case_at, seek, look}
use Rattle.language.specs.Check.{Outcome, candidate_limit}
use Rattle.language.specs.FileOf.{file_of}
use Rattle.language.proofs.Refusals.{refusal-limits}
use Rattle.language.proofs.TextLaws.{accepted-text}
use Rattle.language.specs.LookOf.{look_of, look_at}
use Rattle.export.specs.Answers.{check_answer, Readable, payload_count, look_answer, answer_at, answer_back}

-- ---- a look

-- answers whose values fit their bits
abbrev pub Fits : Answer → Type 0
Fits (Answer.case k) = k < payload_count
Fits Answer.no_case = Unit {0}
Fits (Answer.spent next) = next < payload_count
Fits (Answer.refused n l) = (n < 256) × (l < 65536)

-- number and value, each from its bits
parts : (number value : ℕ) → value < payload_count → answer_back (number * payload_count + value % payload_count) ≡ answer_at number value
parts number value h =
    let r = number * payload_count + value % payload_count in
    let p : r / payload_count ≡ number = omega arith in
    let q : r % payload_count ≡ value = omega arith in
    ap₂ answer_at p q

pub back : (a : Answer) → Fits a → answer_back (look_answer a) ≡ a
unfolding look_answer
back (Answer.case k) h = parts 0x80 k h
back Answer.no_case h = refl
back (Answer.spent next) h = parts 0 next h
back (Answer.refused n l) h =
    let p : (n * 65536 + l) / 65536 ≡ n = omega arith in
    let q : (n * 65536 + l) % 65536 ≡ l = omega arith in
    parts 0x8f (n * 65536 + l) (omega arith) ∙ ap₂ Answer.refused p q

-- the answers that looks give: "at most 2^24" candidates, and refusals 1 to 13
abbrev pub Possible : Answer → Type 0
Possible (Answer.case k) = k < candidate_limit
Possible Answer.no_case = Unit {0}
Possible (Answer.spent next) = next < candidate_limit
Possible (Answer.refused n l) = (1 ≤ n) × (n ≤ 13) × (l < 65536)

possible-fits : (a : Answer) → Possible a → Fits a
possible-fits (Answer.case k) h = omega arith
possible-fits Answer.no_case h = h
possible-fits (Answer.spent next) h = omega arith
possible-fits (Answer.refused n l) h = (omega arith, h.2)

module _ (F : File) (few : candidates F ≤ candidate_limit) where
  possible-search : (end k : ℕ) (work inst : List ℤ) → end ≤ candidates F → Possible (answer_in (after_search F end k work inst))
  possible-search end k work inst h =
      by-test (ltb k end) (λ t. rw t (omega (arith, ltb-true k end t)))
      (λ t. by-test (eqb end (candidates F)) (λ u. rw (t, u) tt) (λ u. rw (t, u) (omega (arith, eqb-false end (candidates F) u))))

  possible-file : (start count : ℕ) (work inst : List ℤ) → Possible (answer_in (look F start count work inst))
  unfolding look
  possible-file start count work inst =
      let end = min (start + count) (candidates F) in
      by-test (ltb (length work) work_size) (λ t. rw t (omega arith, omega arith, omega arith))
      (λ t. by-test (ltb (length inst) (cell_count F)) (λ u. rw (t, u) (omega arith, omega arith, omega arith))
      (λ u. by-test (ltb (candidates F) start) (λ v. rw (t, u, v) (omega arith, omega arith, omega arith))
      (λ v. rw (t, u, v) (possible-search end (seek (is_case_at F) start (end - start)) work inst (omega arith)))))

possible-at : (text : List ℕ) (o : Outcome) → file_of text ≡ o → (start count : ℕ) (work inst : List ℤ) → Possible (answer_in (look_at o start count work inst))
possible-at text (Outcome.refused n l) e start count work inst = let h = refusal-limits text n l e in (h.0, omega arith, h.2)
possible-at text (Outcome.accepted F) e start count work inst = possible-file F (accepted-text text F e).legal.number start count work inst

pub possible : (text : List ℕ) (start count : ℕ) (work inst : List ℤ) → Possible (answer_in (look_of text start count work inst))
unfolding look_of
possible text start count work inst =
    by-test (ltb (length work) work_size) (λ t. rw t (omega arith, omega arith, omega arith))
    (λ t. rw t (possible-at text (file_of text) refl start count work inst))

-- the answer of a look, from the number that `sakthveim_look` returns
pub look-back : (text : List ℕ) (start count : ℕ) (work inst : List ℤ)
    → answer_back (look_answer (answer_in (look_of text start count work inst))) ≡ answer_in (look_of text start count work inst)
look-back text start count work inst =
    let a = answer_in (look_of text start count work inst) in
    back a (possible-fits a (possible text start count work inst))

-- ---- a check

readable : (text : List ℕ) (o : Outcome) → file_of text ≡ o → Readable o (check_answer o)
readable text (Outcome.refused n line) e =
    let h = refusal-limits text n line e in
    record {
      accepted = (λ z. absurd (omega arith), λ f. let z : ◌≡◌ {A = ℕ} 0 1 = cc f.1 in absurd (omega arith));
      refused = λ m k. (
        λ q. let p : n ≡ m = cc in let r : line ≡ k = cc in (omega arith, omega arith, omega arith),
        λ q. ap₂ Outcome.refused (omega arith) (omega arith),
      );
      numbers = omega arith;
    }
readable text (Outcome.accepted F) e =
    record {
      accepted = (λ z. (F, refl), λ f. refl);
      refused = λ m k. (λ q. let z : ◌≡◌ {A = ℕ} 0 1 = cc in absurd (omega arith), λ q. absurd (omega arith));
      numbers = omega arith;
    }

-- what a caller reads from the number that `sakthveim_check` returns
pub check-back : (text : List ℕ) → Readable (file_of text) (check_answer (file_of text))
check-back text = readable text (file_of text) refl
