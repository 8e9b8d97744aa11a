-- Key masks: the bits of a mask and the mask of bits, each way. Assumes nothing.
use mathlib.Core.Path.{◌≡◌, refl, sym, ap, ap₂, ◌∙◌}
use mathlib.Core.Bool.{Bool, true, false, cond}
use mathlib.Core.List.{List, [], ◌∷◌}
use Prim.Native.Nat.{ℕ, zero, suc, ◌+◌, ◌*◌, ◌/◌, ◌%◌, ◌^◌, ◌<◌}
use native.Mathlib.Nat.{pow-suc}
use native.Mathlib.Omega.{arith}
use lib.Dec.{eqb}
use lib.ListN.{length}
use borrow.Author.Tests.{eqb-true, eqb-false, eq-eqb, ne_eqb}
use Rattle.value.proofs.Decides.{by-test}
use Rattle.meaning.proofs.Stacks.{by-lt}
use Rattle.language.specs.Frames.{mask_bits}
use Rattle.language.specs.Written.{mask_of}

pub length-mask_bits : (n m : ℕ) → length (mask_bits n m) ≡ n
length-mask_bits zero m = refl
length-mask_bits (suc n) m = ap suc (length-mask_bits n (m / 2))

bit-zero : (m : ℕ) → (m % 2 ≡ 1 → ⊥) → 0 ≡ m % 2
bit-zero m n = by-lt (m % 2) 1 (λ _ h. omega arith) (λ _ h. let e : m % 2 ≡ 1 = omega arith in absurd (n e))

bit-back : (m : ℕ) → cond (eqb (m % 2) 1) 1 0 ≡ m % 2
bit-back m = by-test (eqb (m % 2) 1)
    (λ t. rw t (sym (eqb-true (m % 2) 1 t)))
    (λ t. rw t (bit-zero m (eqb-false (m % 2) 1 t)))

pub mask-back : (n m : ℕ) → m < 2 ^ n → mask_of (mask_bits n m) ≡ m
mask-back zero m h = omega arith
mask-back (suc n) m h =
    let half = mask-back n (m / 2) (omega (arith, pow-suc 2 n)) in
    omega (arith, bit-back m)

pub mask-small : (ks : List Bool) → mask_of ks < 2 ^ length ks
mask-small [] = omega arith
mask-small (true ∷ ks) = let h = mask-small ks in omega (arith, pow-suc 2 (length ks))
mask-small (false ∷ ks) = let h = mask-small ks in omega (arith, pow-suc 2 (length ks))

pub bits_back : (ks : List Bool) → mask_bits (length ks) (mask_of ks) ≡ ks
bits_back [] = refl
bits_back (true ∷ ks) =
    let m = 1 + 2 * mask_of ks in
    let e : m / 2 ≡ mask_of ks = omega arith in
    ap₂ ◌∷◌ (eq-eqb (m % 2) 1 (omega arith)) (ap (mask_bits (length ks)) e ∙ bits_back ks)
bits_back (false ∷ ks) =
    let m = 0 + 2 * mask_of ks in
    let e : m / 2 ≡ mask_of ks = omega arith in
    ap₂ ◌∷◌ (ne_eqb (m % 2) 1 (λ q. omega arith)) (ap (mask_bits (length ks)) e ∙ bits_back ks)

-- ---- column by column

pub bit-first : (k : Bool) (ks : List Bool) → mask_of (k ∷ ks) % 2 ≡ cond k 1 0
bit-first true ks = omega arith
bit-first false ks = omega arith

pub bits-after : (k : Bool) (ks : List Bool) → mask_of (k ∷ ks) / 2 ≡ mask_of ks
bits-after true ks = omega arith
bits-after false ks = omega arith
