-- Two's complement: sixteen bits and the number they stand for, each way. Assumes nothing.
use mathlib.Core.Path.{◌≡◌, refl, sym, ap, ◌∙◌}
use mathlib.Core.Bool.{Bool, true, false, cond}
use Prim.Native.Nat.{ℕ, suc, ◌+◌, ◌*◌, ◌-◌, ◌<◌, ◌≤◌}
use native.Mathlib.Nat.{div-add-mod'}
use native.Mathlib.Omega.{arith}
use lib.Dec.{ltb}
use lib.IntN.{ℤ, pos, negsuc, ◌-ℤ◌}
use lib.Signed.{◌≤ℤ◌, ◌<ℤ◌}
use borrow.Author.Tests.{lt-ltb, le-ltb, ltb-true, ltb-false}
use mir.Syntax.{w16}
use mir.Val.{SFits, to_z, of_z}
use mir.Facts.{to_z_pos, to_z-neg}
use Rattle.value.specs.Integer.{signed_of, bytes_z, bits_of, high_byte, low_byte}
use Rattle.value.proofs.Decides.{by-test}
use Rattle.value.proofs.Linear.{plus, minus, parts-≡, diff-parts, ints}

pub signed_low : (n : ℕ) → n < 32768 → signed_of n ≡ pos n
unfolding signed_of
signed_low n h = simp (lt-ltb _ _ h)

pub signed_high : (n : ℕ) → 32768 ≤ n → signed_of n ≡ pos n -ℤ pos 65536
unfolding signed_of
signed_high n h = simp (le-ltb _ _ h)

pub bits_below : (z : ℤ) → z <ℤ pos 0 → bits_of z ≡ 65536 + plus z - minus z
unfolding bits_of
bits_below (pos n) h = absurd (omega ints)
bits_below (negsuc n) h = omega arith

pub bits_above : (z : ℤ) → pos 0 ≤ℤ z → bits_of z ≡ plus z - minus z
unfolding bits_of
bits_above (pos n) h = omega arith
bits_above (negsuc n) h = absurd (omega ints)

-- ---- the library's bits are these
pub bits_are : (z : ℤ) → of_z w16 z ≡ bits_of z
unfolding bits_of
bits_are (pos n) = refl
bits_are (negsuc n) = refl

pub signed_are : (n : ℕ) → n < 65536 → to_z w16 n ≡ signed_of n
signed_are n h = by-test (ltb n 32768)
    (λ e. to_z_pos w16 (ltb-true n 32768 e) ∙ sym (signed_low n (ltb-true n 32768 e)))
    (λ e. let l : 32768 ≤ n = ltb-false n 32768 e in
    let k : n ≡ 65536 - suc (65535 - n) = omega arith in
    let d : negsuc (65535 - n) ≡ pos n -ℤ pos 65536 = parts-≡ (omega (arith, diff-parts (pos n) (pos 65536))) in
    ap (to_z w16) k ∙ to_z-neg w16 (65535 - n) (omega arith) ∙ d ∙ sym (signed_high n l))

-- ---- the round trip, from the number
signed-bits : (z : ℤ) → SFits w16 z → signed_of (bits_of z) ≡ z
unfolding bits_of
signed-bits (pos n) f = signed_low n f.sfits
signed-bits (negsuc n) f =
    let h : n < 32768 = f.sfits in
    signed_high (65536 - suc n) (omega arith) ∙ parts-≡ (omega (arith, diff-parts (pos (65536 - suc n)) (pos 65536)))

pub bytes_back : (z : ℤ) → SFits w16 z → bytes_z (high_byte z) (low_byte z) ≡ z
bytes_back z f = ap signed_of (div-add-mod' (bits_of z) 256) ∙ signed-bits z f

-- ---- and from the bytes
bits_is : (n : ℕ) (z : ℤ) → n < 65536 → plus z + 65536 ≡ n + minus z → bits_of z ≡ n
unfolding bits_of
bits_is n (pos k) h e = absurd (omega arith)
bits_is n (negsuc k) h e = omega arith

pub bits-signed : (n : ℕ) → n < 65536 → bits_of (signed_of n) ≡ n
unfolding signed_of bits_of
bits-signed n h = go (ltb n 32768)
  where
    go : (c : Bool) → bits_of (cond c (pos n) (pos n -ℤ pos 65536)) ≡ n
    go true = refl
    go false = bits_is n (pos n -ℤ pos 65536) h (omega (arith, diff-parts (pos n) (pos 65536)))

module _ (high low : ℕ) (h : high < 256) (l : low < 256) where
  pub high-back : high_byte (bytes_z high low) ≡ high
  high-back = rw (bits-signed (high * 256 + low) (omega arith)) (omega arith)

  pub low-back : low_byte (bytes_z high low) ≡ low
  low-back = rw (bits-signed (high * 256 + low) (omega arith)) (omega arith)
