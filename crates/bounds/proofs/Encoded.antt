-- The same of the encoding of a tree in its limits: what stands at a position is read as that tree. Assumes nothing.
use mathlib.Core.Path.{◌≡◌, ap, ◌∙◌}
use mathlib.Core.List.{List, ◌++◌}
use Prim.Native.Nat.{ℕ}
use lib.ListN.{drop}
use Rattle.meaning.specs.Syntax.{Expr, Cond}
use Rattle.language.specs.Prefix.{encode_e, encode_c}
use Rattle.language.specs.Reading.{read_e, read_c, InLimitsE, InLimitsC}
use Rattle.meaning.specs.Bounds.{within_c, allowed_e, allowed_c}
use Rattle.language.proofs.PrefixForms.{back_e, back_c}
use Rattle.catalog.specs.Items.{open_in, open_ranges_in}
use Rattle.bounds.specs.Walk.{permitted_of, ranged_e, SizesE, TestsC}
use Rattle.bounds.specs.declared.Rule.{Rule}
use Rattle.bounds.specs.declared.Sized.{Sized}
use Rattle.bounds.specs.declared.Tested.{Tested}
use Rattle.catalog.specs.declared.relation.Relation.{Relation}

module _ {frame : List ℕ} {at : ℕ} {items : List ℕ} {relations : List Relation} {rule : Rule} where
  pub encoded-sizes : {r : Sized} → SizesE frame at items relations rule r
      → (n : ℕ) (e : Expr) (rest : List ℕ) → drop at frame ≡ encode_e e ++ rest → InLimitsE (open_in relations n items) e
      → (drop r.next frame ≡ rest)
      × (r.allowed ≡ allowed_e (permitted_of frame rule) e)
      × (r.range ≡ ranged_e (open_ranges_in relations n items rule.bound) e)
  encoded-sizes s n e rest h l = s.sizes n e rest (ap (read_e (open_in relations n items)) h ∙ back_e (open_in relations n items) e rest l)

  pub encoded-tests : {r : Tested} → TestsC frame at items relations rule r
      → (n : ℕ) (c : Cond) (rest : List ℕ) → drop at frame ≡ encode_c c ++ rest → InLimitsC (open_in relations n items) c
      → (drop r.next frame ≡ rest)
      × (r.allowed ≡ allowed_c (permitted_of frame rule) c)
      × (r.within ≡ within_c (open_ranges_in relations n items rule.bound) c)
  encoded-tests s n c rest h l = s.tests n c rest (ap (read_c (open_in relations n items)) h ∙ back_c (open_in relations n items) c rest l)
