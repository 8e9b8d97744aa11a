-- Each operation is sound: values inside the operands' ranges give a value inside the result's range. Assumes nothing.
use mathlib.Core.List.{List, ◌∷◌}
use Prim.Native.Nat.{ℕ, ◌≤◌}
use lib.IntN.{ℤ}
use lib.ListN.{length}
use Rattle.value.specs.Bag.{All}
use Rattle.value.specs.Value.{Operation, Aggregate, Value, apply, round, tally, total, TallyBetween, Column, InColumn}
use Rattle.value.proofs.Order.{min-below, max-above}
use Rattle.value.proofs.Values.{between-wider, between-self, apply-between, round-between, count-between, sum-tally, minimum-tally, maximum-tally, total-between}
use Rattle.range.specs.Ranges.{Inside, constant_of, range_from, hull_of, operated_of, rounded_of, aggregated_of}
use Rattle.range.specs.declared.Range.{Range}

pub constant-inside : (z : ℤ) → Inside (constant_of z) (Value.number z)
constant-inside z = between-self z

pub column-inside : {c : Column} {v : Value} → InColumn c v → Inside (range_from c.lo c.hi) v
column-inside w = w.bounds

module _ {a : Range} {v : Value} (i : Inside a v) where
  pub hull-left : (b : Range) → Inside (hull_of a b) v
  hull-left b = between-wider (min-below _ _).0 (max-above _ _).0 i

  pub hull-right : (b : Range) → Inside (hull_of b a) v
  hull-right b = between-wider (min-below _ _).1 (max-above _ _).1 i

  pub rounded-inside : (m : ℕ) → Inside (rounded_of m a) (round m v)
  rounded-inside m = round-between m i

pub operated-inside : (op : Operation) {a b : Range} {v w : Value} → Inside a v → Inside b w → Inside (operated_of op a b) (apply op v w)
operated-inside op i j = apply-between op i j

-- an aggregate of at most R values, at each step on the way
pub aggregated-tally : (op : Aggregate) (R : ℕ) (a : Range) {vs : List Value} → length vs ≤ R → All (Inside a) vs
    → TallyBetween (aggregated_of op R a).lo (aggregated_of op R a).hi (tally op vs)
aggregated-tally Aggregate.count R a {vs} h is = count-between R vs h
aggregated-tally Aggregate.sum R a h is = sum-tally R h is
aggregated-tally Aggregate.minimum R a h is = minimum-tally is
aggregated-tally Aggregate.maximum R a h is = maximum-tally is

-- and, of a group with a member, in the end
pub aggregated-inside : (op : Aggregate) (R : ℕ) (a : Range) {v : Value} {vs : List Value} → length (v ∷ vs) ≤ R → All (Inside a) (v ∷ vs)
    → Inside (aggregated_of op R a) (total op (v ∷ vs))
aggregated-inside op R a {v} {vs} h is = total-between op v vs (aggregated-tally op R a h is)
