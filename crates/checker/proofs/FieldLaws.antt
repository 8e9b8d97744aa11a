-- The fault of a reader at a place of a frame: a byte, a byte and what follows it, a repetition, the end. Assumes nothing.
use mathlib.Core.Path.{◌≡◌, refl, sym, ap, ◌∙◌}
use mathlib.Core.Bool.{Bool, true, false}
use mathlib.Core.List.{List, []}
use Prim.Native.Nat.{ℕ, ◌+◌, ◌≤◌, ◌<◌}
use native.Mathlib.Omega.{arith}
use lib.Dec.{ltb, eqb}
use lib.ListN.{length, get_or, drop, drop_of_length-le}
use lib.Seq.{drop-drop}
use borrow.Author.Tests.{ne_eqb, ltb-true, ltb-false}
use Rattle.value.proofs.Decides.{by-test}
use Rattle.value.proofs.Places.{from_byte}
use Rattle.language.specs.Reading.{Read, Reader, and_then, ◌>>=◌, byte_if}
use Rattle.language.specs.Frames.{ending}
use Rattle.checker.specs.Faults.{fault_of, fault_at, first}

-- ---- the first of two
pub first-none : (n : ℕ) → first 0 n ≡ n
unfolding first
first-none n = refl

pub first_some : (m n : ℕ) → (m ≡ 0 → ⊥) → first m n ≡ m
unfolding first
first_some m n h = rw (ne_eqb m 0 h)

pub first-assoc : (a b c : ℕ) → first a (first b c) ≡ first (first a b) c
unfolding first
first-assoc a b c = by-test (eqb a 0) (λ t. rw t) (λ t. rw (t, t))

pub first_three : (a b c e : ℕ) → first (first a (first b c)) e ≡ first a (first b (first c e))
first_three a b c e = sym (first-assoc a (first b c) e) ∙ ap (first a) (sym (first-assoc b c e))

-- ---- a byte
module _ (frame : List ℕ) (at : ℕ) where
  pub at-end : length frame ≤ at → drop at frame ≡ []
  at-end h = drop_of_length-le frame h

  module _ (n : ℕ) (p : ℕ → Bool) where
    pub byte-missing : length frame ≤ at → fault_at frame at (byte_if n p) ≡ 4
    unfolding fault_at
    byte-missing h = rw (at-end h)

    pub byte_fits : at < length frame → p (get_or frame at 0) ≡ true → fault_at frame at (byte_if n p) ≡ 0
    unfolding fault_at
    byte_fits h t = rw (from_byte frame at h, t)

    pub byte-wrong : at < length frame → p (get_or frame at 0) ≡ false → fault_at frame at (byte_if n p) ≡ n
    unfolding fault_at
    byte-wrong h t = rw (from_byte frame at h, t)

    -- a byte and what follows it
    pub byte-then : {B : Type 0} (k : ℕ → Reader B) → (n ≡ 0 → ⊥)
        → fault_at frame at (byte_if n p >>= k) ≡ first (fault_at frame at (byte_if n p)) (fault_at frame (at + 1) (k (get_or frame at 0)))
    unfolding fault_at
    byte-then k z = by-test (ltb at (length frame))
        (λ l. let h = ltb-true at (length frame) l in by-test (p (get_or frame at 0))
        (λ t. rw (from_byte frame at h, t) (sym (first-none _)))
        (λ t. rw (from_byte frame at h, t) (sym (first_some n _ z))))
        (λ l. let h = ltb-false at (length frame) l in rw (at-end h) (sym (first_some 4 _ (λ e. omega arith))))

  pub end-here : {A : Type 0} (x : A) → length frame ≤ at → fault_at frame at (ending x) ≡ 0
  unfolding fault_at
  end-here x h = rw (at-end h)

  pub end-surplus : {A : Type 0} (x : A) → at < length frame → fault_at frame at (ending x) ≡ 4
  unfolding fault_at
  end-surplus x h = rw (from_byte frame at h)

  -- the end does not depend on what was read
  pub end-any : {A B : Type 0} (x : A) (y : B) → fault_at frame at (ending x) ≡ fault_at frame at (ending y)
  end-any x y = by-test (ltb at (length frame))
      (λ l. let h = ltb-true at (length frame) l in end-surplus x h ∙ sym (end-surplus y h))
      (λ l. let h = ltb-false at (length frame) l in end-here x h ∙ sym (end-here y h))

-- ---- parts of a fixed size

-- a reader that reads so many bytes where it reads, and refuses by no 0
pub record Sized {A : Type 0} (size : ℕ) (r : Reader A) : Type 0 where
  pub rest : (bs : List ℕ) (x : A) (left : List ℕ) → r bs ≡ Read.ok x left → left ≡ drop size bs
  pub number : (bs : List ℕ) (n : ℕ) → r bs ≡ Read.refused n → n ≡ 0 → ⊥

module _ {A B : Type 0} {size : ℕ} {r : Reader A} (s : Sized size r) where
  -- what follows starts behind it; the value may be left open where it does not count
  pub sized-then : (frame : List ℕ) (at : ℕ) (k : A → Reader B) (n : ℕ) → ((x : A) → fault_at frame (at + size) (k x) ≡ n)
      → fault_at frame at (r >>= k) ≡ first (fault_at frame at r) n
  unfolding fault_at
  sized-then frame at k n same = go (r (drop at frame)) refl
    where
      go : (x : Read A) → r (drop at frame) ≡ x → fault_of (and_then x k) ≡ first (fault_of x) n
      go (Read.ok x left) e =
          let l : left ≡ drop (at + size) frame = s.rest (drop at frame) x left e ∙ drop-drop size at frame in
          rw l (same x ∙ sym (first-none n))
      go (Read.refused m) e = sym (first_some m n (s.number (drop at frame) m e))
