-- The theorem on the samples: every entry is right. Each operation has a law of its own. Assumes nothing.
use mathlib.Core.Path.{refl}
use mathlib.Core.List.{List}
use Rattle.value.specs.Bag.{All}
use Rattle.marked.specs.Table.{Entry, Right}
use Rattle.marked.specs.Samples as of
use Rattle.marked.proofs.Computed.{Computed, right-all, ◌&◌}

each : {xs : List Entry} → All Computed xs → All Right xs
each = right-all (λ x. x)

constants : All Right of.constants
unfolding Computed
constants = each ((_, refl, refl, refl) & All.nil)

tables : All Right of.tables
unfolding Computed
tables = each ((_, refl, refl, refl) & (_, refl, refl, refl) & (_, refl, refl, refl) & All.nil)

sums : All Right of.sums
unfolding Computed
sums = each ((_, refl, refl, refl) & All.nil)

differences : All Right of.differences
unfolding Computed
differences = each ((_, refl, refl, refl) & All.nil)

products : All Right of.products
unfolding Computed
products = each ((_, refl, refl, refl) & All.nil)

roundings : All Right of.roundings
unfolding Computed
roundings = each ((_, refl, refl, refl) & All.nil)

branches : All Right of.branches
unfolding Computed
branches = each ((_, refl, refl, refl) & All.nil)

counts : All Right of.counts
unfolding Computed
counts = each ((_, refl, refl, refl) & All.nil)

totals : All Right of.totals
unfolding Computed
totals = each ((_, refl, refl, refl) & All.nil)

extremes : All Right of.extremes
unfolding Computed
extremes = each ((_, refl, refl, refl) & All.nil)

basic-columns : All Right of.basic-columns
unfolding Computed
basic-columns = each ((_, refl, refl, refl) & (_, refl, refl, refl) & All.nil)

aggregate-columns : All Right of.aggregate-columns
unfolding Computed
aggregate-columns = each ((_, refl, refl, refl) & All.nil)

unions : All Right of.unions
unfolding Computed
unions = each ((_, refl, refl, refl) & (_, refl, refl, refl) & All.nil)

intersections : All Right of.intersections
unfolding Computed
intersections = each ((_, refl, refl, refl) & (_, refl, refl, refl) & All.nil)

from-lists : All Right of.from-lists
unfolding Computed
from-lists = each ((_, refl, refl, refl) & (_, refl, refl, refl) & (_, refl, refl, refl) & All.nil)

zero-factors : All Right of.zero-factors
unfolding Computed
zero-factors = each ((_, refl, refl, refl) & (_, refl, refl, refl) & All.nil)

upper-end : All Right of.upper-end
unfolding Computed
upper-end = each ((_, refl, refl, refl) & refl & refl & refl & All.nil)

lower-end : All Right of.lower-end
unfolding Computed
lower-end = each ((_, refl, refl, refl) & refl & refl & All.nil)

rounded-ends : All Right of.rounded-ends
unfolding Computed
rounded-ends = each ((_, refl, refl, refl) & refl & (_, refl, refl, refl) & refl & All.nil)

summed-ends : All Right of.summed-ends
unfolding Computed
summed-ends = each ((_, refl, refl, refl) & refl & (_, refl, refl, refl) & refl & All.nil)

ranges-inside : All Right of.ranges-inside
unfolding Computed
ranges-inside = each (refl & refl & refl & refl & refl & refl & All.nil)

united-rows : All Right of.united-rows
unfolding Computed
united-rows = each ((_, refl, refl, refl) & refl & All.nil)

combined-rows : All Right of.combined-rows
unfolding Computed
combined-rows = each ((_, refl, refl, refl) & refl & (_, refl, refl, refl) & All.nil)

token-00 : All Right of.token-00
unfolding Computed
token-00 = each ((_, refl, refl, refl, refl) & All.nil)

token-01 : All Right of.token-01
unfolding Computed
token-01 = each ((_, refl, refl, refl, refl) & All.nil)

token-02 : All Right of.token-02
unfolding Computed
token-02 = each ((_, refl, refl, refl, refl) & All.nil)

token-03 : All Right of.token-03
unfolding Computed
token-03 = each ((_, refl, refl, refl, refl) & All.nil)

token-04 : All Right of.token-04
unfolding Computed
token-04 = each ((_, refl, refl, refl, refl) & All.nil)

token-05 : All Right of.token-05
unfolding Computed
token-05 = each ((_, refl, refl, refl, refl) & All.nil)

token-06 : All Right of.token-06
unfolding Computed
token-06 = each ((_, refl, refl, refl, refl) & All.nil)

token-10 : All Right of.token-10
unfolding Computed
token-10 = each ((_, refl, refl, refl, refl) & All.nil)

token-11 : All Right of.token-11
unfolding Computed
token-11 = each ((_, refl, refl, refl, refl) & All.nil)

token-12 : All Right of.token-12
unfolding Computed
token-12 = each ((_, refl, refl, refl, refl) & (_, refl, refl, refl, refl) & All.nil)

token-13 : All Right of.token-13
unfolding Computed
token-13 = each ((_, refl, refl, refl, refl) & (_, refl, refl, refl, refl) & All.nil)

token-14 : All Right of.token-14
unfolding Computed
token-14 = each ((_, refl, refl, refl, refl) & (_, refl, refl, refl, refl) & All.nil)

token-15 : All Right of.token-15
unfolding Computed
token-15 = each ((_, refl, refl, refl, refl) & All.nil)

token-16 : All Right of.token-16
unfolding Computed
token-16 = each ((_, refl, refl, refl, refl) & All.nil)

aggregate-0 : All Right of.aggregate-0
unfolding Computed
aggregate-0 = each ((_, refl, refl, refl, refl) & All.nil)

aggregate-1 : All Right of.aggregate-1
unfolding Computed
aggregate-1 = each ((_, refl, refl, refl, refl) & All.nil)

aggregate-2 : All Right of.aggregate-2
unfolding Computed
aggregate-2 = each ((_, refl, refl, refl, refl) & All.nil)

aggregate-3 : All Right of.aggregate-3
unfolding Computed
aggregate-3 = each ((_, refl, refl, refl, refl) & All.nil)

combination-order : All Right of.combination-order
unfolding Computed
combination-order = each ((_, refl, refl, refl, refl) & All.nil)

set-order : All Right of.set-order
unfolding Computed
set-order = each ((_, refl, refl, refl, refl) & (_, refl, refl, refl, refl) & (_, refl, refl, refl, refl) & All.nil)

pub later-starts : All Right of.later-starts
unfolding Computed
later-starts = each ((_, refl, λ work inst. refl) & (_, refl, λ work inst. refl) & All.nil)

pub samples : All (All Right) of.samples
samples =
    constants & tables & sums & differences & products & roundings & branches & counts & totals & extremes & basic-columns
    & aggregate-columns & unions & intersections & from-lists & zero-factors & upper-end & lower-end & rounded-ends & summed-ends
    & ranges-inside & united-rows & combined-rows & token-00 & token-01 & token-02 & token-03 & token-04 & token-05 & token-06
    & token-10 & token-11 & token-12 & token-13 & token-14 & token-15 & token-16 & aggregate-0 & aggregate-1 & aggregate-2
    & aggregate-3 & combination-order & set-order & later-starts & All.nil
