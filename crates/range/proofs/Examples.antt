-- M12, by computation: a × a + a × a lies within 32 bits for a from -32,767 to 32,767, and not from -32,768. Assumes nothing.
use mathlib.Core.Path.{◌≡◌, refl}
use mathlib.Core.Bool.{true, false}
use lib.IntN.{pos, negsuc}
use Rattle.value.specs.Integer.{min_z, max_z, steps_up, round_z}
use Rattle.value.specs.Value.{Operation}
use Rattle.range.specs.Ranges.{range_from, operated_of, rounded_of, scaled_of, within32}
use Rattle.range.specs.declared.Range.{Range}

-- a × a + a × a
doubled : Range → Range
doubled a = let p = operated_of Operation.product a a in operated_of Operation.sum p p

m12-accepted : within32 (doubled (range_from (negsuc 32766) (pos 32767))) ≡ true
unfolding doubled min_z max_z
m12-accepted = refl

m12-refused : within32 (doubled (range_from (negsuc 32767) (pos 32767))) ≡ false
unfolding doubled min_z max_z
m12-refused = refl

-- rounding may carry an end out of 32 bits
rounded-out : within32 (rounded_of 10 (range_from (pos 0) (pos 2147483645))) ≡ false
unfolding round_z steps_up
rounded-out = refl

-- a sum's range holds 0 also where every member is above it
sum-holds-zero : scaled_of 8 (range_from (pos 3) (pos 5)) ≡ range_from (pos 0) (pos 40)
unfolding min_z max_z
sum-holds-zero = refl
