-- What one walk over a well-formed expression or condition on frame bytes answers: where it ends, whether the rule on 07 is kept
-- (refusal 7), and its range, or that a range inside it leaves 32 bits (refusal 9). Assumes nothing: these are definitions.
use Rattle.std.specs.Prelude.{◌≡◌, Bool, true, false, ◌&&◌, cond, List, [], ◌∷◌, ℕ, zero, suc, ◌+◌, ◌≤◌, ◌<◌, pos, length, get_or, drop, Option, None, Some}
use Rattle.value.specs.Value.{Operation, Aggregate}
use Rattle.range.specs.Ranges.{ranged, constant_of, hull_of, operated_of, rounded_of, aggregated_of}
use Rattle.range.specs.declared.Range.{Range}
use Rattle.meaning.specs.Syntax.{Expr, Cond, Place}
use Rattle.language.specs.Reading.{Read, read_e, read_c}
use Rattle.meaning.specs.Bounds.{OpenRanges, range, within_e, within_c, Permitted, in_where, in_basic, in_grouped, allowed_e, allowed_c}
use Rattle.catalog.specs.Relations.{items_in}
use Rattle.catalog.specs.Items.{open_in, open_ranges_in}
use Rattle.bounds.specs.declared.Part.{Part}
use Rattle.bounds.specs.declared.Part.TheVariants.{Where, Plain, Grouped}
use Rattle.bounds.specs.declared.Rule.{Rule}
use Rattle.bounds.specs.declared.Sized.{Sized}
use Rattle.bounds.specs.declared.TwoSized.{TwoSized}
use Rattle.bounds.specs.declared.Tested.{Tested}
use Rattle.catalog.specs.declared.relation.Relation.{Relation}

-- ---- the rule on 07

-- n grouping columns, two bytes each (from item, column), from a position on
unfoldable pub places_from : List ℕ → ℕ → ℕ → List Place
places_from frame at zero = []
places_from frame at (suc n) = record { item = get_or frame at 0; column = get_or frame (at + 1) 0 } ∷ places_from frame (at + 2) n

-- what may stand in a part
abbrev pub permitted_in : List ℕ → Part → Permitted
permitted_in frame Where = in_where
permitted_in frame Plain = in_basic
permitted_in frame (Grouped places count) = in_grouped (places_from frame places count)

-- what may stand where the rule is
unfoldable pub permitted_of : List ℕ → Rule → Permitted
permitted_of frame rule = permitted_in frame rule.part

-- whether 07 may stand there, and whether 17
abbrev pub is_grouped : Part → Bool
is_grouped Where = false
is_grouped Plain = false
is_grouped (Grouped places count) = true

abbrev pub is_where : Part → Bool
is_where Where = true
is_where Plain = false
is_where (Grouped places count) = false

-- the rule inside 07: any column, and no other 07
abbrev pub inside_of : Rule → Rule
inside_of rule = record { bound = rule.bound; part = Plain }

-- the rule inside 17: that of a where condition
abbrev pub where_of : Rule → Rule
where_of rule = record { bound = rule.bound; part = Where }

-- ---- ranges

-- the range of a column of a from item, 0 to 0 where there is none
unfoldable pub item_range : List Relation → List ℕ → ℕ → ℕ → Range
item_range relations fs i c = get_or (get_or (items_in relations fs) i []) c (constant_of (pos 0))

-- the range of an expression if 32 bits hold it and every range inside it
unfoldable pub ranged_e : OpenRanges → Expr → Option Range
ranged_e o e = cond (within_e o e) (Some (range o e)) None

-- the same made of the parts' answers
unfoldable pub operated_r : Operation → Option Range → Option Range → Option Range
operated_r op (Some a) (Some b) = ranged (operated_of op a b)
operated_r op (Some a) None = None
operated_r op None b = None

unfoldable pub rounded_r : ℕ → Option Range → Option Range
rounded_r m (Some a) = ranged (rounded_of m a)
rounded_r m None = None

unfoldable pub hull_r : Option Range → Option Range → Option Range
hull_r (Some a) (Some b) = Some (hull_of a b)
hull_r (Some a) None = None
hull_r None b = None

-- `within` is the condition's
unfoldable pub chosen_r : Bool → Option Range → Option Range → Option Range
chosen_r within a b = cond within (hull_r a b) None

unfoldable pub aggregated_r : Aggregate → ℕ → Option Range → Option Range
aggregated_r op R (Some a) = ranged (aggregated_of op R a)
aggregated_r op R None = None

unfoldable pub is_within : Option Range → Bool
is_within (Some a) = true
is_within None = false

-- ---- answers

abbrev pub sized : ℕ → Bool → Option Range → Sized
sized next allowed r = record { next = next; allowed = allowed; range = r }

abbrev pub tested : ℕ → Bool → Bool → Tested
tested next allowed within = record { next = next; allowed = allowed; within = within }

-- of the column that the two bytes at a position name
abbrev pub column_sized : List ℕ → ℕ → List ℕ → List Relation → Rule → Sized
column_sized frame at items relations rule =
    let i = get_or frame at 0 in
    let c = get_or frame (at + 1) 0 in
    sized (at + 2) ((permitted_of frame rule).columns i c) (ranged (item_range relations items i c))

-- ---- the walks: of the tree that is read at a position, n relations being before the view; and where no token of one stands there, that
-- nothing is allowed and nothing fits

pub record SizesE (frame : List ℕ) (at : ℕ) (items : List ℕ) (relations : List Relation) (rule : Rule) (r : Sized) : Type 0 where
  pub further : at ≤ r.next
  pub no-token : (at < length frame → 0x08 ≤ get_or frame at 0) → r ≡ sized at false None
  pub sizes : (n : ℕ) (e : Expr) (rest : List ℕ) → read_e (open_in relations n items) (drop at frame) ≡ Read.ok e rest
      → (drop r.next frame ≡ rest)
      × (r.allowed ≡ allowed_e (permitted_of frame rule) e)
      × (r.range ≡ ranged_e (open_ranges_in relations n items rule.bound) e)

-- two expressions, one after the other
pub record SizesTwo (frame : List ℕ) (at : ℕ) (items : List ℕ) (relations : List Relation) (rule : Rule) (r : TwoSized) : Type 0 where
  pub further : at ≤ r.next
  pub sizes : (n : ℕ) (a b : Expr) (mid rest : List ℕ) → read_e (open_in relations n items) (drop at frame) ≡ Read.ok a mid
      → read_e (open_in relations n items) mid ≡ Read.ok b rest
      → (drop r.next frame ≡ rest)
      × (r.allowed ≡ (allowed_e (permitted_of frame rule) a && allowed_e (permitted_of frame rule) b))
      × (r.first ≡ ranged_e (open_ranges_in relations n items rule.bound) a)
      × (r.second ≡ ranged_e (open_ranges_in relations n items rule.bound) b)

pub record TestsC (frame : List ℕ) (at : ℕ) (items : List ℕ) (relations : List Relation) (rule : Rule) (r : Tested) : Type 0 where
  pub further : at ≤ r.next
  pub no-token : (at < length frame → 0x10 ≤ get_or frame at 0 → get_or frame at 0 < 0x18 → ⊥) → r ≡ tested at false false
  pub tests : (n : ℕ) (c : Cond) (rest : List ℕ) → read_c (open_in relations n items) (drop at frame) ≡ Read.ok c rest
      → (drop r.next frame ≡ rest)
      × (r.allowed ≡ allowed_c (permitted_of frame rule) c)
      × (r.within ≡ within_c (open_ranges_in relations n items rule.bound) c)
