-- A function that gives the first fault of its parts by `?`, and a loop that does.
--     chain-stop, chain-go          a part that refuses, and one that does not
--     among-none .. among-stop      the first of n faults, as a loop finds it
--     among-times                   n parts of a fixed size, one behind the other
-- Assumes nothing.
use mathlib.Core.Path.{◌≡◌, refl, sym, ap, ap₂, ◌∙◌}
use mathlib.Core.Bool.{Bool}
use Prim.Native.Nat.{ℕ, zero, suc, ◌+◌, ◌*◌, ◌<◌}
use mathlib.Core.List.{List}
use native.Mathlib.Numerals.{add-one}
use native.Mathlib.Omega.{arith}
use lib.Dec.{eqb}
use borrow.Author.Tests.{eqb-true, eqb-false}
use Rattle.std.specs.Result.{IsErrAnd}
use Rattle.std.proofs.Common.{Result}
use Rattle.value.proofs.Decides.{by-test}
use Rattle.text.specs.Refusals.{number_of}
use Rattle.text.specs.declared.refusal.Reason.{Reason}
use Rattle.text.specs.declared.refusal.Reason.TheVariants.{Size, Line, Order, Form, Limit, Reference, Aggregate, RowBound, Range, Candidates, WorkArea, Instance, Start}
use Rattle.text.proofs.Exits.{exit_is}
use Rattle.language.specs.Reading.{Reader, byte_if}
use Rattle.language.specs.Frames.{repeated}
use Rattle.checker.specs.Faults.{fault_told, fault_at, first, first_among}
use Rattle.checker.proofs.FieldLaws.{Sized, first-none, first_some, first-assoc}
use Rattle.checker.proofs.SizedLaws.{times-suc, times-end, sized-byte_if}

-- no reason has the number 0
pub number-some : (r : Reason) → number_of r ≡ 0 → ⊥
number-some Size e = omega arith
number-some Line e = omega arith
number-some Order e = omega arith
number-some Form e = omega arith
number-some Limit e = omega arith
number-some Reference e = omega arith
number-some Aggregate e = omega arith
number-some RowBound e = omega arith
number-some Range e = omega arith
number-some Candidates e = omega arith
number-some WorkArea e = omega arith
number-some Instance e = omega arith
number-some Start e = omega arith

-- what a part says that may refuse by anything, where it refuses by a reason
pub told : {fault : (Reason → ℕ) → ℕ} {n : (Reason → ℕ) → ℕ} → ((number : Reason → ℕ) → ((e : Reason) → e ≡ Form → number e ≡ 4) → fault number ≡ n number)
    → fault number_of ≡ n number_of
told h = h number_of (λ e. ap number_of)

-- ---- one part after the other

pub chain-stop : {A : Type 0} (r : Result A Reason) (e : Reason) {m : ℕ} (n : ℕ) → IsErrAnd r (λ x. x ≡ e) → number_of e ≡ m → fault_told r ≡ first m n
chain-stop r e {m} n h p = ap fault_told (exit_is r h) ∙ p ∙ sym (first_some m n (λ z. number-some e (p ∙ z)))

pub chain-go : {k m n : ℕ} → 0 ≡ m → k ≡ n → k ≡ first m n
chain-go {k} {m} {n} p q = q ∙ sym (first-none n) ∙ ap (λ j. first j n) p

-- ---- n parts

module _ (f : ℕ → ℕ) where
  pub among-none : first_among f 0 ≡ 0
  unfolding first_among
  among-none = refl

  pub among-more : (n : ℕ) → first_among f n ≡ 0 → 0 ≡ f n → first_among f (n + 1) ≡ 0
  unfolding first_among
  among-more n h e = rw (add-one n, h) (first-none (f n) ∙ sym e)

  -- the first fault stays the first
  pub among-stop : (i n : ℕ) → i < n → first_among f i ≡ 0 → (f i ≡ 0 → ⊥) → first_among f n ≡ f i
  unfolding first_among
  among-stop i zero l h z = absurd (omega arith)
  among-stop i (suc n) l h z = by-test (eqb i n)
      (λ t. let e : i ≡ n = eqb-true i n t in ap (λ k. first k (f n)) (rw e at h) ∙ first-none (f n) ∙ ap f (sym e))
      (λ t. let p : first_among f n ≡ f i = among-stop i n (omega (arith, eqb-false i n t)) h z in
      ap (λ k. first k (f n)) p ∙ first_some (f i) (f n) z)

zero-last : (a : ℕ) → first a 0 ≡ a
unfolding first
zero-last a = by-test (eqb a 0) (λ t. rw t (sym (eqb-true a 0 t))) (λ t. rw t)

among-cons : (f : ℕ → ℕ) (n : ℕ) → first_among f (suc n) ≡ first (f 0) (first_among (λ i. f (suc i)) n)
unfolding first_among
among-cons f zero = first-none (f 0) ∙ sym (zero-last (f 0))
among-cons f (suc n) =
    ap (λ k. first k (f (suc n))) (among-cons f n) ∙ sym (first-assoc (f 0) (first_among (λ i. f (suc i)) n) (f (suc n)))

among-same : (f g : ℕ → ℕ) (n : ℕ) → ((i : ℕ) → f i ≡ g i) → first_among f n ≡ first_among g n
unfolding first_among
among-same f g zero h = refl
among-same f g (suc n) h = ap₂ first (among-same f g n h) (h n)

pub among-times : {A : Type 0} {size : ℕ} {r : Reader A} (s : Sized size r) (frame : List ℕ) (at n : ℕ)
    → first_among (λ i. fault_at frame (at + i * size) r) n ≡ fault_at frame at (repeated n r)
unfolding first_among
among-times s frame at zero = sym (times-end s frame at 0 (omega arith))
among-times {size = size} {r = r} s frame at (suc n) =
    let e : at + 0 * size ≡ at = omega arith in
    among-cons (λ i. fault_at frame (at + i * size) r) n
    ∙ ap₂ first (ap (λ k. fault_at frame k r) e)
    (among-same (λ i. fault_at frame (at + suc i * size) r) (λ i. fault_at frame (at + size + i * size) r) n
    (λ i. let q : at + suc i * size ≡ at + size + i * size = omega arith in ap (λ k. fault_at frame k r) q)
    ∙ among-times s frame (at + size) n)
    ∙ sym (times-suc s frame at n)

pub among-bytes : (n : ℕ) (p : ℕ → Bool) → (n ≡ 0 → ⊥) → (frame : List ℕ) (at k : ℕ)
    → first_among (λ i. fault_at frame (at + i) (byte_if n p)) k ≡ fault_at frame at (repeated k (byte_if n p))
among-bytes n p z frame at k =
    among-same (λ i. fault_at frame (at + i) (byte_if n p)) (λ i. fault_at frame (at + i * 1) (byte_if n p)) k
    (λ i. let e : at + i ≡ at + i * 1 = omega arith in ap (λ j. fault_at frame j (byte_if n p)) e)
    ∙ among-times (sized-byte_if n p z) frame at k
