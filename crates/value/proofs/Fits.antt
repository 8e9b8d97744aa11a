-- What a signed width holds, and numbers read back from their bits. Assumes nothing.
use mathlib.Core.Path.{◌≡◌}
use mathlib.Core.Bool.{true}
use Prim.Native.Nat.{◌^◌, ◌<◌}
use lib.IntN.{ℤ}
use lib.Signed.{mag, le_z, ◌≤ℤ◌}
use mir.Syntax.{Width, w32}
use mir.Val.{SFits, hbits, to_z, of_z}
use mir.Facts.{to_z-of_z}
use Rattle.value.specs.Integer.{low32, high32, low16, high16, in32, narrow32, narrow16}
use Rattle.value.proofs.Decides.{and_parts}
use Rattle.value.proofs.Linear.{true-le_z, le_z-true, ints}

-- a call's result z, read back from its bits: `back w64 _ c.f.ok`
pub back : (w : Width) (z : ℤ) → mag z < 2 ^ hbits w → to_z w (of_z w z) ≡ z
back w z h = to_z-of_z (record { sfits = h })

-- which numbers a width holds, as a test
pub fits-in32 : {z : ℤ} → SFits w32 z → in32 z ≡ true
fits-in32 {z} f =
    let l : low32 ≤ℤ z = omega ints in
    let h : z ≤ℤ high32 = omega ints in
    rw (true-le_z l, true-le_z h)

pub in32-fits : (z : ℤ) → in32 z ≡ true → SFits w32 z
in32-fits z e =
    let p = and_parts (le_z low32 z) (le_z z high32) e in
    let l : low32 ≤ℤ z = le_z-true low32 z p.0 in
    let h : z ≤ℤ high32 = le_z-true z high32 p.1 in
    omega ints

-- what a width holds is kept
pub fits-narrow32 : {z : ℤ} → SFits w32 z → narrow32 z ≡ z
fits-narrow32 f = rw (fits-in32 f)

-- a number that is held
module _ {z : ℤ} where
  pub narrow32-held : low32 ≤ℤ z → z ≤ℤ high32 → narrow32 z ≡ z
  narrow32-held l h = rw (true-le_z l, true-le_z h)

  pub narrow16-held : low16 ≤ℤ z → z ≤ℤ high16 → narrow16 z ≡ z
  narrow16-held l h = rw (true-le_z l, true-le_z h)
