-- What a cell holds and what a condition answers. Only this crate looks inside a value or a truth; every other one uses
-- the names below and their laws (proofs/Values). Assumes nothing: these are definitions, and they compute.
use Rattle.std.specs.Prelude.{◌≡◌, refl, Bool, true, false, ◌&&◌, ℕ, zero, suc, ℤ, pos, negsuc, nat_abs, ◌+ℤ◌, ◌-ℤ◌, ◌*ℤ◌, ◌≤ℤ◌}
use Rattle.std.proofs.Common.{ap, sym, true≢false, eqb-true, eq-eqb}
use mathlib.Core.List.{List, foldr}
use Rattle.std.proofs.Math.Option.{Option, none, some}
use Rattle.std.specs.Int.Signed.{lt_z, le_z}
use Rattle.value.specs.Bag.{Test}
use Rattle.value.specs.Integer.{low32, high32, narrow32, narrow16, equal_z, min_z, max_z, round_z}

-- ---- the kinds of operation, each numbered from 0 as its tokens stand in document 01

-- "02 sum, 03 difference, 04 product"
pub data Operation : Type 0 where
  sum difference product : Operation

abbrev pub operation_at : ℕ → Operation
operation_at zero = Operation.sum
operation_at (suc zero) = Operation.difference
operation_at (suc (suc n)) = Operation.product

-- "11 equal, 12 less, 13 less or equal"
pub data Comparison : Type 0 where
  equal less less_equal : Comparison

abbrev pub comparison_at : ℕ → Comparison
comparison_at zero = Comparison.equal
comparison_at (suc zero) = Comparison.less
comparison_at (suc (suc n)) = Comparison.less_equal

-- "15 and. 16 or"
pub data Connective : Type 0 where
  conjunction disjunction : Connective

abbrev pub connective_at : ℕ → Connective
connective_at zero = Connective.conjunction
connective_at (suc n) = Connective.disjunction

-- "07 aggregate (0 count, 1 sum, 2 min, 3 max)"
pub data Aggregate : Type 0 where
  count sum minimum maximum : Aggregate

abbrev pub aggregate_at : ℕ → Aggregate
aggregate_at zero = Aggregate.count
aggregate_at (suc zero) = Aggregate.sum
aggregate_at (suc (suc zero)) = Aggregate.minimum
aggregate_at (suc (suc (suc n))) = Aggregate.maximum

-- ---- truths: what a condition answers

pub data Truth : Type 0 where
  True False : Truth

unfoldable pub sure : Bool → Truth
sure true = Truth.True
sure false = Truth.False

-- "14 not"
unfoldable pub negate : Truth → Truth
negate Truth.True = Truth.False
negate Truth.False = Truth.True

unfoldable pub connect : Connective → Truth → Truth → Truth
connect Connective.conjunction Truth.True u = u
connect Connective.conjunction Truth.False u = Truth.False
connect Connective.disjunction Truth.True u = Truth.True
connect Connective.disjunction Truth.False u = u

-- "kept where the condition holds", "A group satisfying having", "the first if it holds"
unfoldable pub holds : Truth → Bool
holds Truth.True = true
holds Truth.False = false

-- ---- values

pub data Value : Type 0 where
  number : ℤ → Value

abbrev pub apply_z : Operation → ℤ → ℤ → ℤ
apply_z Operation.sum = ◌+ℤ◌
apply_z Operation.difference = ◌-ℤ◌
apply_z Operation.product = ◌*ℤ◌

unfoldable pub apply : Operation → Value → Value → Value
apply op (Value.number a) (Value.number b) = Value.number (apply_z op a b)

unfoldable pub round : ℕ → Value → Value
round m (Value.number a) = Value.number (round_z m a)

abbrev pub compare_z : Comparison → ℤ → ℤ → Bool
compare_z Comparison.equal = equal_z
compare_z Comparison.less = lt_z
compare_z Comparison.less_equal = le_z

-- a comparison as a condition: 11, 12, 13
unfoldable pub compare : Comparison → Value → Value → Truth
compare op (Value.number a) (Value.number b) = sure (compare_z op a b)

-- the same cell, which grouping, set views and keys go by: apart from "equal" as a condition
unfoldable pub same_value : Value → Value → Bool
same_value (Value.number a) (Value.number b) = equal_z a b

pub equal_z-sound : (a b : ℤ) → equal_z a b ≡ true → a ≡ b
equal_z-sound (pos a) (pos b) e = ap pos (eqb-true a b e)
equal_z-sound (pos a) (negsuc b) e = absurd (true≢false (sym e))
equal_z-sound (negsuc a) (pos b) e = absurd (true≢false (sym e))
equal_z-sound (negsuc a) (negsuc b) e = ap negsuc (eqb-true a b e)

pub equal_z-self : (a : ℤ) → equal_z a a ≡ true
equal_z-self (pos a) = eq-eqb a a refl
equal_z-self (negsuc a) = eq-eqb a a refl

pub same-sound : (v w : Value) → same_value v w ≡ true → v ≡ w
unfolding same_value
same-sound (Value.number a) (Value.number b) e = ap Value.number (equal_z-sound a b e)

pub same_self : (v : Value) → same_value v v ≡ true
unfolding same_value
same_self (Value.number a) = equal_z-self a

abbrev pub value_test : Test Value
value_test = record { same = same_value; sound = same-sound; self = same_self }

-- ---- aggregates over a list of values

-- a running aggregate: nothing yet, or what the values so far come to
abbrev pub Tally : Type 0
Tally = Option ℤ

unfoldable pub start : Aggregate → Tally
start Aggregate.count = some (pos 0)
start Aggregate.sum = none
start Aggregate.minimum = none
start Aggregate.maximum = none

-- what two numbers come to
abbrev pub combine : Aggregate → ℤ → ℤ → ℤ
combine Aggregate.count = ◌+ℤ◌
combine Aggregate.sum = ◌+ℤ◌
combine Aggregate.minimum = min_z
combine Aggregate.maximum = max_z

-- what a value counts for; "Count counts members"
unfoldable pub weight : Aggregate → Value → ℤ
weight Aggregate.count v = pos 1
weight Aggregate.sum (Value.number z) = z
weight Aggregate.minimum (Value.number z) = z
weight Aggregate.maximum (Value.number z) = z

abbrev pub gather : Aggregate → ℤ → Tally → Tally
gather op z none = some z
gather op z (some t) = some (combine op t z)

-- one value more
unfoldable pub more : Aggregate → Value → Tally → Tally
more op v t = gather op (weight op v) t

-- "A group has at least one member": 0 stands for what is never met
unfoldable pub finish : Tally → Value
finish none = Value.number (pos 0)
finish (some z) = Value.number z

-- the running aggregate of a list of values, and the aggregate
abbrev pub tally : Aggregate → List Value → Tally
tally op vs = foldr (more op) (start op) vs

abbrev pub total : Aggregate → List Value → Value
total op vs = finish (tally op vs)

-- ---- what lies between two whole numbers, and what 32 bits hold

pub data Between (lo hi : ℤ) : Value → Type 0 where
  number : {z : ℤ} → lo ≤ℤ z → z ≤ℤ hi → Between lo hi (Value.number z)

unfoldable pub between : ℤ → ℤ → Value → Bool
between lo hi (Value.number z) = le_z lo z && le_z z hi

pub data TallyBetween (lo hi : ℤ) : Tally → Type 0 where
  nothing : TallyBetween lo hi none
  number : {z : ℤ} → lo ≤ℤ z → z ≤ℤ hi → TallyBetween lo hi (some z)

abbrev pub Held : Value → Type 0
Held v = Between low32 high32 v

abbrev pub TallyHeld : Tally → Type 0
TallyHeld t = TallyBetween low32 high32 t

-- the value itself where 32 bits hold it, else 0
unfoldable pub narrowed : Value → Value
narrowed (Value.number z) = Value.number (narrow32 z)

-- the same of a running aggregate
unfoldable pub narrowed_tally : Tally → Tally
narrowed_tally none = none
narrowed_tally (some z) = some (narrow32 z)

-- ---- cells

-- the i32 number of the work area that stands for a value
unfoldable pub stored : Value → ℤ
stored (Value.number z) = z

-- the i16 number of the instance buffer: a value that 16 bits hold, else 0
unfoldable pub shown : Value → ℤ
shown (Value.number z) = narrow16 z

-- a number of the instance buffer is a cell of this value
pub data Cell : Value → ℤ → Type 0 where
  number : {z : ℤ} → Cell (Value.number z) z

-- ---- columns of tables

-- "lo and hi for each column"
pub record Column : Type 0 where
  pub lo : ℤ
  pub hi : ℤ

-- "each value lies in its column's lo..hi"
pub record InColumn (c : Column) (v : Value) : Type 0 where
  pub bounds : Between c.lo c.hi v

abbrev pub in_column : Column → Value → Bool
in_column c v = between c.lo c.hi v

-- "digit = value - lo": how many digits there are for a column, and the value of each
unfoldable pub size : Column → ℕ
size c = suc (nat_abs (c.hi -ℤ c.lo))

unfoldable pub digit : Column → ℕ → Value
digit c n = Value.number (c.lo +ℤ pos n)

-- back: the digit of a value in its column
unfoldable pub digit_of : Column → Value → ℕ
digit_of c (Value.number z) = nat_abs (z -ℤ c.lo)
