-- What the rules 7, 8 and 9 on the whole frame of a basic or an aggregate view answer, and the view that they give. Assumes nothing:
-- these are definitions.
use Rattle.std.specs.Prelude.{◌≡◌, Result, Ok, Bool, true, ◌&&◌, cond, ℕ, ◌*◌, ◌%◌, ◌≤◌, ltb, leb, length, get_or, drop}
use mathlib.Core.List.{List, [], foldr, map}
use Rattle.text.specs.declared.refusal.Reason.{Reason}
use Rattle.meaning.specs.Lists.{all}
use Rattle.meaning.specs.Syntax.{Expr, View}
use Rattle.language.specs.Reading.{Read, read_e}
use Rattle.meaning.specs.Bounds.{OpenRanges, range, within_e, allowed_e, view_schema}
use Rattle.catalog.specs.Relations.{no_range, bound_at, first_ranges, ranges_of, schema_of}
use Rattle.catalog.specs.Frames.{froms_in, parts_after}
use Rattle.catalog.specs.Items.{relations_in, open_in, open_ranges_in}
use Rattle.bounds.specs.Walk.{permitted_of, TestsC}
use Rattle.bounds.specs.declared.Part.TheVariants.{Where, Plain}
use Rattle.bounds.specs.declared.Rule.{Rule}
use Rattle.bounds.specs.declared.Tested.{Tested}
use Rattle.language.specs.Draft.{Draft, Item, schemas_of}
use Rattle.language.specs.Frames.{repeated, whole_fault}
use Rattle.checker.specs.Catalogued.{Catalogued}
use Rattle.checker.specs.Faults.{fault_told}
use Rattle.checker.specs.ViewFaults.{own_frame}
use Rattle.checker.specs.Entries.{NewView}
use Rattle.checker.specs.declared.view_rules.Selected.{Selected}
use Rattle.checker.specs.declared.view_rules.Opening.{Opening}
use Rattle.catalog.specs.declared.relation.Relation.{Relation}

-- ---- the parts of the answer

-- the row bound of from item i, 1 past the last
unfoldable pub factor_at : List Relation → List ℕ → ℕ → ℕ
factor_at relations items i = cond (ltb i (length items)) (bound_at relations (get_or items i 0)) 1

-- the row bound of a view over the from list
unfoldable pub product_of : List Relation → List ℕ → ℕ
product_of relations items = foldr ◌*◌ 1 (map (bound_at relations) items)

pub record ProductBound (relations : List Relation) (items : List ℕ) (p : ℕ) : Type 0 where
  pub product : length items ≤ 3 → p ≡ product_of relations items

-- the number of the first rule that is broken
unfoldable pub view_fault : Bool → ℕ → Bool → ℕ
view_fault allowed bound within = cond allowed (cond (leb bound 64) (cond within 0 9) 8) 7

-- the rule of a basic view's select, and of the where of any view
abbrev pub plain_rule : ℕ → Bool → Rule
plain_rule bound filter = record { bound = bound; part = cond filter Where Plain }

-- ---- the select expressions: c of them from a position on, r relations being before the view; behind their ranges stands 0 to 0

pub record Selects (frame : List ℕ) (start c : ℕ) (items : List ℕ) (rs : List Relation) (rule : Rule) (s : Selected) : Type 0 where
  pub selects : c ≤ 8 → (r : ℕ) (es : List Expr) (rest : List ℕ)
      → repeated c (read_e (open_in rs r items)) (drop start frame) ≡ Read.ok es rest
      → (s.allowed ≡ all (allowed_e (permitted_of frame rule)) es)
      × (s.within ≡ all (within_e (open_ranges_in rs r items rule.bound)) es)
      × (s.within ≡ true → first_ranges s.ranges c ≡ map (range (open_ranges_in rs r items rule.bound)) es)
  pub rest : (k : ℕ) → c ≤ k → get_or s.ranges k no_range ≡ no_range

-- what is answered for a view with the select expressions es: `allowed` is the rule on 07, `within` that on ranges, I what is open
pub record RuledAs (allowed within : Bool) (es : List Expr) (I : OpenRanges) (a : Result Relation Reason) : Type 0 where
  pub fault : fault_told a ≡ view_fault allowed I.bound within
  pub told : (x : Relation) → a ≡ Ok x → (x.bound ≡ I.bound % 256) × (x.width ≤ 8) × (within ≡ true → ranges_of x ≡ map (range I) es)

pub record Tail (frame : List ℕ) (head : Tested) (count : ℕ) (items : List ℕ) (rs : List Relation) (rule : Rule) (a : Result Relation Reason) : Type 0 where
  pub ruled : count ≤ 8 → (r : ℕ) (es : List Expr) (rest : List ℕ)
      → repeated count (read_e (open_in rs r items)) (drop head.next frame) ≡ Read.ok es rest
      → RuledAs (head.allowed && all (allowed_e (permitted_of frame rule)) es)
      (head.within && all (within_e (open_ranges_in rs r items rule.bound)) es)
      es (open_ranges_in rs r items rule.bound) a
  pub entered : (x : Relation) → a ≡ Ok x → NewView x

-- ---- the whole frame

-- the from list, the counts, the row bound, and what the where tells
pub record OpeningOf (grouped : Bool) (frame : List ℕ) (rs : List Relation) (o : Opening) : Type 0 where
  pub froms : length (froms_in frame) ≤ 6 → relations_in o.items ≡ froms_in frame
  pub parts_are : o.parts ≡ parts_after grouped (get_or frame 1 0) frame
  pub product : ProductBound rs (relations_in o.items) o.bound
  pub tested : TestsC frame o.parts.body (relations_in o.items) rs (plain_rule o.bound true) o.filter

-- for every draft that the relations stand for, and every view that the frame's bytes read as; `entered` on any bytes
pub record Rules (grouped : Bool) (frame : List ℕ) (rs : List Relation) (a : Result Relation Reason) : Type 0 where
  pub fault : (d : Draft) (q : View) → Catalogued d rs → own_frame grouped d (drop 1 frame) ≡ Read.ok (Item.view q) []
      → fault_told a ≡ whole_fault d (Item.view q)
  pub told : (d : Draft) (q : View) (x : Relation) → a ≡ Ok x → Catalogued d rs → own_frame grouped d (drop 1 frame) ≡ Read.ok (Item.view q) []
      → whole_fault d (Item.view q) ≡ 0 → (x.width ≤ 8) × (view_schema (schemas_of d) q ≡ schema_of x)
  pub entered : (x : Relation) → a ≡ Ok x → NewView x

-- for a frame that begins so
pub record RulesFrom (grouped : Bool) (o : Opening) (frame : List ℕ) (rs : List Relation) (a : Result Relation Reason) : Type 0 where
  pub rules : OpeningOf grouped frame rs o → Rules grouped frame rs a
