-- `checker::entries::set_of` meets its contract. Assumes nothing.
use mathlib.Core.Path.{◌≡◌, refl, ap, ap₂, ◌∙◌}
use Prim.Native.Nat.{min}
use native.Mathlib.Omega.{arith}
use lib.ListN.{get_or}
use Rattle.std.proofs.Common.{rules}
use Rattle.catalog.specs.Relations.{no_range, width_at}
use Rattle.checker.specs.Entries.{hull_at}
use Rattle.checker.proofs.entries.set_of.Goals as goal

pub returns : goal.returns
returns c =
    let rs = c.args.relations.now in
    let left = c.args.operands.left in
    let other = c.joined_with-other.ensures in
    record {
      width = c.min-width.ensures ∙ ap₂ min c.width_of.ensures (c.width_of-2.ensures ∙ ap (width_at rs) other);
      bound = omega (arith, c.set_bound.ensures);
      mask = refl;
      start = refl;
      ranges = record {
        column = λ k h l.
            let told = c.ranges_by-ranges.ensures.column k h l in
            let here : get_or c.ranges_by-ranges.result k no_range ≡ hull_at rs left c.joined_with-other.result k = search rules in
            here ∙ ap (λ o. hull_at rs left o k) other;
        rest = c.ranges_by-ranges.ensures.rest;
      };
    }
