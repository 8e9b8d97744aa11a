-- The definitions by computation: one table of two columns, 0 to 9 and -5 to 5, at most 4 rows, and a frame that begins with the
-- grouping column (0, 1). Assumes nothing.
use Rattle.std.specs.Prelude.{Option, None, Some}
use mathlib.Core.Path.{◌≡◌, refl}
use mathlib.Core.Bool.{Bool, true, false}
use mathlib.Core.List.{List, [], ◌∷◌}
use Prim.Native.Nat.{ℕ}
use lib.IntN.{pos, negsuc}
use Rattle.value.specs.Integer.{min_z, max_z}
use Rattle.value.specs.Value.{Operation, Comparison, Aggregate}
use Rattle.range.specs.Ranges.{constant_of, range_from}
use Rattle.range.specs.declared.Range.{Range}
use Rattle.meaning.specs.Syntax.{Expr, Cond}
use Rattle.meaning.specs.Lists.{listed}
use Rattle.meaning.specs.Bounds.{OpenRanges, within_c, Permitted, allowed_e, allowed_c}
use Rattle.catalog.specs.declared.relation.Relation.{Relation}
use Rattle.catalog.specs.Items.{open_ranges_in}
use Rattle.bounds.specs.declared.Part.{Part}
use Rattle.bounds.specs.declared.Part.TheVariants.{Where, Plain, Grouped}
use Rattle.bounds.specs.Walk.{places_from, permitted_of, item_range, ranged_e}

abbrev relations : List Relation
relations = record { width = 2; bound = 4; mask = 1; start = 0; ranges = range_from (pos 0) (pos 9) ∷ range_from (negsuc 4) (pos 5) ∷ [] } ∷ []

abbrev column : ℕ → Expr
column c = Expr.column 0 c

abbrev total : Expr → Expr
total e = Expr.aggregate Aggregate.sum e

abbrev large : Expr
large = Expr.constant (pos 32767)

abbrev cube : Expr
cube = Expr.operation Operation.product large (Expr.operation Operation.product large large)

-- ---- ranges

there : item_range relations (0 ∷ []) 0 1 ≡ range_from (negsuc 4) (pos 5)
unfolding item_range listed
there = refl

not_there : item_range relations (0 ∷ []) 0 2 ≡ constant_of (pos 0)
unfolding item_range listed
not_there = refl

abbrev items : OpenRanges
items = open_ranges_in relations 1 (0 ∷ []) 4

abbrev answer : Expr → Option Range
answer e = ranged_e items e

of-a-sum : answer (total (column 1)) ≡ Some (range_from (negsuc 19) (pos 20))
unfolding ranged_e listed min_z max_z
of-a-sum = refl

-- a range inside counts, also where the whole fits
inside-counts : answer (Expr.aggregate Aggregate.count cube) ≡ None
unfolding ranged_e listed min_z max_z
inside-counts = refl

-- 32767 * 32767 * column 1 of from item 1 < 32767
abbrev second-item : Cond
second-item =
    Cond.comparison Comparison.less (Expr.operation Operation.product (Expr.operation Operation.product large large) (Expr.column 1 1)) large

-- that column is -5 to 5 where 17 has opened the table's row
inside-exists : within_c items (Cond.exists 0 second-item) ≡ false
unfolding listed min_z max_z
inside-exists = refl

-- and 0 to 0 where no such item is open
outside-exists : within_c items second-item ≡ true
unfolding listed min_z max_z
outside-exists = refl

-- ---- the rule on 07, in having or select

abbrev rule : Part → Permitted
rule part = permitted_of (0 ∷ 1 ∷ []) (record { bound = 4; part = part })

abbrev grouped : Part
grouped = Grouped 0 1

abbrev permitted : Part → Expr → Bool
permitted part e = allowed_e (rule part) e

grouping-column : permitted grouped (column 1) ≡ true
unfolding permitted_of places_from
grouping-column = refl

other-column : permitted grouped (column 0) ≡ false
unfolding permitted_of places_from
other-column = refl

other-column-inside : permitted grouped (total (column 0)) ≡ true
unfolding permitted_of places_from
other-column-inside = refl

inside-another : permitted grouped (total (total (column 0))) ≡ false
unfolding permitted_of places_from
inside-another = refl

in-where : permitted Plain (total (column 0)) ≡ false
unfolding permitted_of places_from
in-where = refl

-- ---- 17 in where, in the select of a basic view, and in having

abbrev looks : Part → Bool
looks part = allowed_c (rule part) (Cond.exists 0 Cond.always)

exists-in-where : looks Where ≡ true
unfolding permitted_of
exists-in-where = refl

exists-in-basic : looks Plain ≡ false
unfolding permitted_of
exists-in-basic = refl

exists-in-grouped : looks grouped ≡ false
unfolding permitted_of
exists-in-grouped = refl
