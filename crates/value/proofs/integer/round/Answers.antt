-- `value::integer::round` meets its contract. Assumes nothing.
use mathlib.Core.Path.{◌≡◌, sym, ap, ◌∙◌}
use Prim.Native.Nat.{◌<◌, ◌^◌}
use native.Mathlib.Omega.{arith}
use lib.IntN.{pos, nat_abs, +ℤ_idl}
use lib.Signed.{◌≤ℤ◌, ◌<ℤ◌}
use mir.Syntax.{w64}
use mir.Facts.{to_z-of_z, to_z_pos}
use Rattle.value.proofs.Linear.{ints, ≡-parts, magnitude-parts, diff-parts}
use Rattle.value.specs.Integer.{nearest}
use Rattle.value.proofs.Rounding.{nearest-most, round-below, round-above}
use Rattle.value.proofs.integer.round.Goals as goal

-- the magnitude of the result, which 33 bits hold

near-is : (c : goal.After-near-n) → c.near-n.result ≡ nearest c.args.m (nat_abs c.args.x)
near-is c = c.near-n.ensures ∙ ap (nearest c.args.m) (c.from.ensures ∙ (simp (to_z-of_z, c.ranges.x) at c.unsigned_abs.ensures.value))

small : (c : goal.After-near-n) → c.near-n.result < 2 ^ 33
small c = omega (ints, near-is c, nearest-most c.args.m (nat_abs c.args.x), magnitude-parts c.args.x, c.ranges)

pub near-n-requires : goal.near-n-requires
near-n-requires c = omega (ints, c.from.ensures, c.unsigned_abs.ensures.bound)

pub overflow_cast-n : goal.overflow_cast-n
overflow_cast-n c = omega (ints, small c)

pub overflow_sub-result : goal.overflow_sub-result
overflow_sub-result c =
    let h = small c.before in
    rw (to_z_pos w64 {n = c.near-n.result} (omega arith)) (omega (ints, diff-parts (pos 0) (pos c.near-n.result)))

pub returns-then-x-lt0 : goal.returns-then-x-lt0
returns-then-x-lt0 c =
    let s = c.before.before.before in
    let h = small c.before in
    let b : s.args.x <ℤ pos 0 = omega (ints, ≡-parts (to_z-of_z s.ranges.x)) in
    rw (to_z-of_z (overflow_sub-result c), to_z_pos w64 {n = c.near-n.result} (omega arith), near-is c.before)
    (+ℤ_idl _ ∙ sym (round-below _ _ b))

pub returns-else-x-lt0 : goal.returns-else-x-lt0
returns-else-x-lt0 c =
    let s = c.before.before.before in
    let h = small c.before in
    let b : pos 0 ≤ℤ s.args.x = omega (ints, ≡-parts (to_z-of_z s.ranges.x)) in
    rw (to_z_pos w64 {n = c.near-n.result} (omega arith), near-is c.before) (sym (round-above _ _ b))
