-- Worked examples, by computation. Assumes nothing.
use mathlib.Core.Path.{◌≡◌, refl}
use mathlib.Core.List.{List, [], ◌∷◌, map}
use lib.IntN.{pos, negsuc}
use Rattle.value.specs.Integer.{steps_up, round_z, min_z, max_z, signed_of, bytes_z}
use Rattle.value.specs.Value.{Value, Aggregate, start, weight, more, finish, total, narrowed}

-- M3: rounding by 10
m3 : map (round_z 10) (pos 14 ∷ pos 15 ∷ negsuc 14 ∷ negsuc 13 ∷ pos 5 ∷ negsuc 4 ∷ pos 0 ∷ [])
    ≡ pos 10 ∷ pos 20 ∷ negsuc 19 ∷ negsuc 9 ∷ pos 10 ∷ negsuc 9 ∷ pos 0 ∷ []
unfolding round_z steps_up
m3 = refl

-- 8000 is the least value and 7fff the greatest
ends : map (bytes_z 128) (0 ∷ []) ≡ negsuc 32767 ∷ []
unfolding signed_of
ends = refl

top : bytes_z 127 255 ≡ pos 32767
unfolding signed_of
top = refl

-- members 50 and 51
fifties : List Value
fifties = Value.number (pos 50) ∷ Value.number (pos 51) ∷ []

totals : map (λ op. total op fifties) (Aggregate.count ∷ Aggregate.sum ∷ Aggregate.minimum ∷ Aggregate.maximum ∷ [])
    ≡ Value.number (pos 2) ∷ Value.number (pos 101) ∷ Value.number (pos 50) ∷ Value.number (pos 51) ∷ []
unfolding fifties start weight more finish min_z max_z
totals = refl

-- 2^31 is one too many for 32 bits
past_the_end : narrowed (Value.number (pos 2147483648)) ≡ Value.number (pos 0)
unfolding narrowed
past_the_end = refl

at-the-end : narrowed (Value.number (negsuc 2147483647)) ≡ Value.number (negsuc 2147483647)
unfolding narrowed
at-the-end = refl
