-- The theorem on the marked examples: every entry of the table is right. Assumes nothing.
use mathlib.Core.Path.{refl}
use mathlib.Core.List.{List}
use Prim.Native.Nat.{ℕ}
use lib.Dec.{eqb}
use Rattle.value.specs.Bag.{All}
use Rattle.meaning.specs.Lists.{keep}
use Rattle.meaning.proofs.Elements.{all_append}
use Rattle.marked.specs.Table.{Entry, Right, table}
use Rattle.marked.proofs.Computed.{Computed, right-all, ◌&◌}

-- the entries of one example
abbrev entries : ℕ → List (ℕ × Entry)
entries m = keep (λ x. eqb x.0 m) table

-- each of them is right
abbrev Example : ℕ → Type 0
Example m = All (λ x. Right x.1) (entries m)

example : {xs : List (ℕ × Entry)} → All (λ x. Computed x.1) xs → All (λ x. Right x.1) xs
example = right-all (λ x. x.1)

pub m1 : Example 1
unfolding Computed
m1 =
    example ((_, refl, λ work inst. refl) & (_, refl, λ work inst. refl) & (_, refl, λ work inst. refl) & (_, refl, λ work inst. refl)
    & refl & All.nil)

m2 : Example 2
unfolding Computed
m2 = example ((_, refl, λ work inst. refl) & (_, refl, λ work inst. refl) & refl & All.nil)

m3 : Example 3
unfolding Computed
m3 = example ((_, refl, refl, refl, refl) & All.nil)

m4 : Example 4
unfolding Computed
m4 = example ((_, refl, refl, refl, refl) & (_, refl, refl, refl, refl) & (_, refl, refl, refl, refl) & (_, refl, refl, refl, refl) & All.nil)

m5 : Example 5
unfolding Computed
m5 = example ((_, refl, λ work inst. refl) & All.nil)

m6 : Example 6
unfolding Computed
m6 =
    example ((_, refl, refl) & (_, refl, λ work inst. refl) & (_, refl, λ work inst. refl)
    & (_, refl, refl) & (_, refl, λ work inst. refl) & (_, refl, λ work inst. refl) & All.nil)

m7 : Example 7
unfolding Computed
m7 = example ((_, refl, λ work inst. refl) & All.nil)

m8 : Example 8
unfolding Computed
m8 = example ((_, refl, refl, refl, refl) & (_, refl, refl, refl, refl) & All.nil)

m9 : Example 9
unfolding Computed
m9 = example ((_, refl, refl, refl, refl) & All.nil)

m10 : Example 10
unfolding Computed
m10 = example ((_, refl, refl) & refl & All.nil)

m11 : Example 11
unfolding Computed
m11 = example ((_, refl, refl) & refl & All.nil)

m12 : Example 12
unfolding Computed
m12 = example ((_, refl, refl) & refl & All.nil)

pub marked : All (λ x. Right x.1) table
marked =
    all_append m1 (all_append m2 (all_append m3 (all_append m4 (all_append m5 (all_append m6
    (all_append m7 (all_append m8 (all_append m9 (all_append m10 (all_append m11 m12))))))))))
