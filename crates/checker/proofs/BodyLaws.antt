-- The fault of a whole frame, byte by byte: a byte and what follows it, a part of fixed size, the end and the rules on the whole frame.
-- Assumes nothing.
use mathlib.Core.Path.{◌≡◌, refl, sym, ap, ◌∙◌}
use mathlib.Core.Bool.{Bool, true}
use mathlib.Core.List.{List, []}
use Prim.Native.Nat.{ℕ, ◌+◌}
use native.Mathlib.Omega.{arith}
use lib.Dec.{ltb, eqb}
use lib.ListN.{length, get_or, drop}
use lib.Seq.{drop-drop}
use borrow.Author.Tests.{ltb-true, ltb-false, eqb-true, eqb-false}
use Rattle.value.proofs.Decides.{by-test}
use Rattle.value.proofs.Places.{from_byte}
use Rattle.language.specs.Reading.{Read, Reader, and_then, ◌>>=◌, byte_if}
use Rattle.language.specs.Draft.{Draft, Item}
use Rattle.language.specs.Frames.{ending, whole_fault}
use Rattle.language.specs.Check.{read_checked}
use Rattle.checker.specs.Faults.{fault_of, fault_at, first}
use Rattle.checker.specs.Catalogued.{checked_fault, body_fault}
use Rattle.checker.proofs.FieldLaws.{Sized, first-none, first_some, at-end, byte-missing, byte-wrong}

-- what counts behind a fault counts only where there is none
pub first-where : (m : ℕ) {a b : ℕ} → (m ≡ 0 → a ≡ b) → first m a ≡ first m b
first-where m {a} {b} f = by-test (eqb m 0)
    (λ t. ap (first m) (f (eqb-true m 0 t)))
    (λ t. let z = eqb-false m 0 t in first_some m a z ∙ sym (first_some m b z))

pub first-zero : (m : ℕ) → first m 0 ≡ m
unfolding first
first-zero m = by-test (eqb m 0) (λ t. rw t (sym (eqb-true m 0 t))) (λ t. rw t)

-- a byte without a fault passes its test
pub byte-passes : (frame : List ℕ) (at n : ℕ) (p : ℕ → Bool) → (n ≡ 0 → ⊥) → fault_at frame at (byte_if n p) ≡ 0 → p (get_or frame at 0) ≡ true
byte-passes frame at n p z e = by-test (ltb at (length frame))
    (λ l. by-test (p (get_or frame at 0)) (λ t. t) (λ t. absurd (z (sym (byte-wrong frame at n p (ltb-true at (length frame) l) t) ∙ e))))
    (λ l. let k = byte-missing frame at n p (ltb-false at (length frame) l) in absurd (omega arith))

-- the fault of the rest of a frame, and of the rules on it
unfoldable pub body_at : Draft → List ℕ → ℕ → Reader Item → ℕ
body_at d frame at r = checked_fault (read_checked d (r (drop at frame)))

module _ (d : Draft) (frame : List ℕ) where
  pub body-start : (r : Reader Item) → body_fault d r frame ≡ body_at d frame 1 r
  unfolding body_fault body_at
  body-start r = refl

  pub body-byte : (at n : ℕ) (p : ℕ → Bool) (k : ℕ → Reader Item) → (n ≡ 0 → ⊥)
      → body_at d frame at (byte_if n p >>= k) ≡ first (fault_at frame at (byte_if n p)) (body_at d frame (at + 1) (k (get_or frame at 0)))
  unfolding fault_at body_at
  body-byte at n p k z = by-test (ltb at (length frame))
      (λ l. let h = ltb-true at (length frame) l in by-test (p (get_or frame at 0))
      (λ t. rw (from_byte frame at h, t) (sym (first-none _)))
      (λ t. rw (from_byte frame at h, t) (sym (first_some n _ z))))
      (λ l. let h = ltb-false at (length frame) l in rw (at-end frame at h) (sym (first_some 4 _ (λ e. omega arith))))

  -- what follows a part of fixed size may depend on what was read
  pub body-sized : {A : Type 0} {size : ℕ} {r : Reader A} → Sized size r → (at m : ℕ) (k : A → Reader Item)
      → ((x : A) (left : List ℕ) → r (drop at frame) ≡ Read.ok x left → body_at d frame (at + size) (k x) ≡ m)
      → body_at d frame at (r >>= k) ≡ first (fault_at frame at r) m
  unfolding fault_at body_at
  body-sized {A} {size} {r} s at m k same = go (r (drop at frame)) refl
    where
      go : (x : Read A) → r (drop at frame) ≡ x → checked_fault (read_checked d (and_then x k)) ≡ first (fault_of x) m
      go (Read.ok x left) e =
          let l : left ≡ drop (at + size) frame = s.rest (drop at frame) x left e ∙ drop-drop size at frame in
          rw l (same x left e ∙ sym (first-none m))
      go (Read.refused n) e = sym (first_some n m (s.number (drop at frame) n e))

  pub body_end : (at : ℕ) (i : Item) → body_at d frame at (ending i) ≡ first (fault_at frame at (ending at)) (whole_fault d i)
  unfolding fault_at body_at
  body_end at i = by-test (ltb at (length frame))
      (λ l. rw (from_byte frame at (ltb-true at (length frame) l)) (sym (first_some 4 _ (λ e. omega arith))))
      (λ l. rw (at-end frame at (ltb-false at (length frame) l)) (whole ∙ sym (first-none _)))
    where
      whole : checked_fault (read_checked d (Read.ok i [])) ≡ whole_fault d i
      whole = by-test (eqb (whole_fault d i) 0) (λ t. rw t (sym (eqb-true _ 0 t))) (λ t. rw t)
