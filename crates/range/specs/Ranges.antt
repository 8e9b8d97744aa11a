-- "Every expression has a range, and every range must lie within -2^31 to 2^31-1. A range is a value with its own operations."
-- Each operation is on pairs of whole numbers, lo and hi. Assumes nothing: these are definitions, and they compute.
use Rattle.std.specs.Prelude.{Bool, ◌&&◌, cond, ℕ, ℤ, pos, ◌*ℤ◌, Option, None, Some}
use Rattle.value.specs.Integer.{in32, min_z, max_z, least_end, greatest_end, round_z}
use Rattle.value.specs.Value.{Operation, Aggregate, apply_z, Value, Between}
use Rattle.range.specs.declared.Range.{Range}

-- a value lies in a range
abbrev pub Inside : Range → Value → Type 0
Inside r v = Between r.lo r.hi v

-- "within -2^31 to 2^31-1"
abbrev pub within32 : Range → Bool
within32 r = in32 r.lo && in32 r.hi

-- the range, or the number of the refusal
pub data Fitted : Type 0 where
  fits : Range → Fitted
  refused : ℕ → Fitted

-- the range itself if 32 bits hold it, else "9, range"
unfoldable pub fitted : Range → Fitted
fitted r = cond (within32 r) (Fitted.fits r) (Fitted.refused 9)

-- what each answer of the code says
abbrev pub ranged_told : Option Range → Fitted
ranged_told (Some r) = Fitted.fits r
ranged_told None = Fitted.refused 9

-- the answer of the code that says it
unfoldable pub ranged : Range → Option Range
ranged r = cond (within32 r) (Some r) None

-- "a constant or table column is itself"
abbrev pub constant_of : ℤ → Range
constant_of z = record { lo = z; hi = z }

abbrev pub range_from : ℤ → ℤ → Range
range_from l h = record { lo = l; hi = h }

-- "06 takes the hull of both branches", "Union columns take hulls"
abbrev pub hull_of : Range → Range → Range
hull_of a b = record { lo = min_z a.lo b.lo; hi = max_z a.hi b.hi }

-- "sum, difference and product take the hull of the end results"
abbrev pub operated_of : Operation → Range → Range → Range
operated_of op a b = record { lo = least_end (apply_z op) a.lo a.hi b.lo b.hi; hi = greatest_end (apply_z op) a.lo a.hi b.lo b.hi }

-- "rounding rounds both ends"
abbrev pub rounded_of : ℕ → Range → Range
rounded_of m a = record { lo = round_z m a.lo; hi = round_z m a.hi }

-- "sum is R × min(lo,0) to R × max(hi,0), where R is the row bound"
abbrev pub scaled_of : ℕ → Range → Range
scaled_of R a = record { lo = pos R *ℤ min_z a.lo (pos 0); hi = pos R *ℤ max_z a.hi (pos 0) }

-- "count is 0 to R"
abbrev pub count_of : ℕ → Range
count_of R = record { lo = pos 0; hi = pos R }

-- "min and max keep the range"
abbrev pub aggregated_of : Aggregate → ℕ → Range → Range
aggregated_of Aggregate.count R a = count_of R
aggregated_of Aggregate.sum R a = scaled_of R a
aggregated_of Aggregate.minimum R a = a
aggregated_of Aggregate.maximum R a = a
