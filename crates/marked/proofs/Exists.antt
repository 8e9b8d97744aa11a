-- The theorem on the samples of exists: every entry is right. Assumes nothing.
use mathlib.Core.Path.{refl}
use mathlib.Core.List.{List}
use Rattle.value.specs.Bag.{All}
use Rattle.marked.specs.Table.{Entry, Right}
use Rattle.marked.specs.Exists as of
use Rattle.marked.proofs.Computed.{Computed, right-all, ◌&◌}

each : {xs : List Entry} → All Computed xs → All Right xs
each = right-all (λ x. x)

over_none : All Right of.over_none
unfolding Computed
over_none = each ((_, refl, refl, refl, refl) & (_, refl, refl, refl, refl) & (_, refl, λ work inst. refl) & All.nil)

over-view : All Right of.over-view
unfolding Computed
over-view = each ((_, refl, λ work inst. refl) & All.nil)

nested : All Right of.nested
unfolding Computed
nested = each ((_, refl, λ work inst. refl) & (_, refl, λ work inst. refl) & All.nil)

six-deep : All Right of.six-deep
unfolding Computed
six-deep = each ((_, refl, λ work inst. refl) & (_, refl, refl, refl, refl) & All.nil)

beside : All Right of.beside
unfolding Computed
beside = each ((_, refl, λ work inst. refl) & All.nil)

negated : All Right of.negated
unfolding Computed
negated = each ((_, refl, λ work inst. refl) & (_, refl, λ work inst. refl) & All.nil)

chosen_by : All Right of.chosen_by
unfolding Computed
chosen_by = each ((_, refl, λ work inst. refl) & All.nil)

not-counted : All Right of.not-counted
unfolding Computed
not-counted = each ((_, refl, refl, refl) & (_, refl, refl, refl) & All.nil)

refusals : All Right of.refusals
unfolding Computed
refusals = each (refl & refl & refl & refl & refl & refl & refl & refl & refl & All.nil)

too_wide : All Right of.too_wide
unfolding Computed
too_wide = each (refl & All.nil)

pub exists-right : All (All Right) of.exists-samples
exists-right = over_none & over-view & nested & six-deep & beside & negated & chosen_by & not-counted & refusals & too_wide & All.nil
