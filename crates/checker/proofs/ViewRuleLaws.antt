-- The rules on a view's frame: what the loop over the select expressions has found, and from the answers of the walks the answer for the
-- frame that its bytes are read as. Assumes nothing.
use Rattle.std.specs.Prelude.{Option, None, Some}
use Rattle.range.specs.declared.Range.{Range}
use Rattle.language.proofs.Turns.{count-schemas}
use Rattle.meaning.proofs.Listed.{listed_same, map-listed}
use mathlib.Core.Path.{◌≡◌, refl, sym, ap, ap₂, subst, ◌∙◌}
use mathlib.Core.Bool.{Bool, true, false, ◌&&◌, cond, and_assoc}
use mathlib.Core.List.{List, [], ◌∷◌, ◌++◌, foldr, map, map-append}
use Prim.Native.Nat.{ℕ, ◌+◌, ◌*◌, ◌%◌, ◌≤◌, ◌<◌}
use native.Mathlib.Nat.{mul_assoc}
use native.Mathlib.Numerals.{add-one}
use native.Mathlib.Omega.{arith}
use lib.Dec.{leb}
use lib.ListN.{length, get_or, set, drop, length-set}
use lib.Seq.{get_or-set_same, get_or-set_other}
use borrow.Author.Tests.{leb-true}
use Rattle.value.proofs.Decides.{by-test, and_parts}
use Rattle.meaning.specs.Lists.{all, listed}
use Rattle.meaning.specs.Syntax.{Expr, Cond, Place, View}
use Rattle.language.specs.Reading.{open_items, read_e, read_c, Read}
use Rattle.meaning.specs.Bounds.{Schema, schema, view_schema, item_ranges, product_bound, OpenRanges, open_ranges, range, within_e, within_c, allowed_e, allowed_c, in_where, in_basic, in_grouped, no_schema}
use Rattle.meaning.proofs.Elements.{all-given, map_same}
use Rattle.language.proofs.Readers.{then_ok}
use Rattle.catalog.specs.Relations.{no_range, bound_at, first_ranges, ranges_in, schema_of, items_in}
use Rattle.catalog.specs.Frames.{froms_in, parts_after}
use Rattle.catalog.specs.declared.frames.Parts.{Parts}
use Rattle.catalog.specs.Items.{relations_in, widths_in, open_in, open_ranges_in}
use Rattle.bounds.specs.Walk.{places_from, permitted_of, ranged_e, is_within, SizesE, TestsC}
use Rattle.bounds.specs.declared.Part.TheVariants.{Grouped}
use Rattle.bounds.specs.declared.Rule.{Rule}
use Rattle.bounds.specs.declared.Sized.{Sized}
use Rattle.bounds.specs.declared.Tested.{Tested}
use Rattle.bounds.proofs.Parts.{ranged-is}
use Rattle.language.specs.Draft.{Draft, relation_count, schemas_of, Item}
use Rattle.language.specs.Frames.{repeated, field, from_list, place_field, basic_frame, whole_fault}
use Rattle.checker.specs.Catalogued.{Catalogued}
use Rattle.checker.specs.ViewRules.{factor_at, product_of, ProductBound, view_fault, plain_rule, Selects, RuledAs, Tail, OpeningOf, Rules, RulesFrom}
use Rattle.std.proofs.Common.{Result, Ok}
use Rattle.text.specs.declared.refusal.Reason.{Reason}
use Rattle.checker.specs.Faults.{fault_told}
use Rattle.checker.specs.declared.view_rules.Selected.{Selected}
use Rattle.checker.specs.declared.view_rules.Opening.{Opening}
use Rattle.checker.proofs.FixedLaws.{bound-known}
use Rattle.checker.proofs.ViewByteLaws.{opens-are}
use Rattle.meaning.proofs.ListSteps.{all_snoc}
use Rattle.checker.proofs.ViewFields.{parts_of, drop-as, times_snoc, byte-read, from-read, places-read, view-read, GroupedRead, grouped-read}
use Rattle.catalog.specs.declared.relation.Relation.{Relation}

-- ---- the answer for a frame whose from list is `items` and whose other parts are P

record BasicOf (frame : List ℕ) (P : Parts) (items : List ℕ) (rs : List Relation) (a : Result Relation Reason) : Type 0 where
  ruled : length items ≤ 3 → P.width ≤ 8 → (r : ℕ) (w : Cond) (es : List Expr) (mid rest : List ℕ)
      → read_c (open_in rs r items) (drop P.body frame) ≡ Read.ok w mid
      → repeated P.width (read_e (open_in rs r items)) mid ≡ Read.ok es rest
      → let I = open_ranges_in rs r items (product_of rs items) in
      RuledAs (allowed_c in_where w && all (allowed_e in_basic) es) (within_c I w && all (within_e I) es) es I a

record GroupedOf (frame : List ℕ) (P : Parts) (items : List ℕ) (rs : List Relation) (a : Result Relation Reason) : Type 0 where
  ruled : length items ≤ 3 → P.width ≤ 8 → (r : ℕ) (w : Cond) (gs : List Place) (h : Cond) (es : List Expr)
      (mid mid' mid'' rest : List ℕ)
      → read_c (open_in rs r items) (drop P.body frame) ≡ Read.ok w mid
      → repeated P.groups (place_field (widths_in rs items)) mid ≡ Read.ok gs mid'
      → read_c (open_in rs r items) mid' ≡ Read.ok h mid''
      → repeated P.width (read_e (open_in rs r items)) mid'' ≡ Read.ok es rest
      → let I = open_ranges_in rs r items (product_of rs items) in
      RuledAs (allowed_c in_where w && (allowed_c (in_grouped gs) h && all (allowed_e (in_grouped gs)) es))
      (within_c I w && (within_c I h && all (within_e I) es)) es I a

-- ---- the row bound

pub product-three : (relations : List Relation) (items : List ℕ) (p : ℕ) → p ≡ factor_at relations items 0 * factor_at relations items 1 * factor_at relations items 2 → ProductBound relations items p
unfolding factor_at product_of
product-three relations items p e = record { product = λ h. e ∙ go items h }
  where
    go : (items : List ℕ) → length items ≤ 3 → factor_at relations items 0 * factor_at relations items 1 * factor_at relations items 2 ≡ product_of relations items
    go [] h = refl
    go (a ∷ []) h = omega arith
    go (a ∷ b ∷ []) h = mul_assoc (bound_at relations a) (bound_at relations b) 1
    go (a ∷ b ∷ c ∷ []) h =
        let one : bound_at relations c ≡ bound_at relations c * 1 = omega arith in
        mul_assoc (bound_at relations a) (bound_at relations b) (bound_at relations c) ∙ ap (λ k. bound_at relations a * (bound_at relations b * k)) one
    go (a ∷ b ∷ c ∷ x ∷ items) h = absurd (omega arith)

-- ---- the select expressions

-- what becomes of the ranges and of whether all fit with one range more
abbrev pub Stored : Option Range → ℕ → List Range → Bool → List Range → Bool → Type 0
Stored (Some x) c ranges within ranges' within' = (ranges' ≡ set ranges c x) × (within' ≡ within)
Stored None c ranges within ranges' within' = (ranges' ≡ ranges) × (within' ≡ false)

stored-fits : (z : Option Range) (c : ℕ) (ranges ranges' : List Range) (within within' : Bool) → Stored z c ranges within ranges' within'
    → within' ≡ within && is_within z
unfolding is_within
stored-fits (Some x) c ranges ranges' true within' e = e.1
stored-fits (Some x) c ranges ranges' false within' e = e.1
stored-fits None c ranges ranges' true within' e = e.1
stored-fits None c ranges ranges' false within' e = e.1

-- one range more behind the first c
first-more : (ranges : List Range) (c : ℕ) (x : Range) → c < length ranges → first_ranges (set ranges c x) (c + 1) ≡ first_ranges ranges c ++ (x ∷ [])
unfolding listed
first-more ranges c x h = rw (add-one c) (ap₂ (λ l y. l ++ (y ∷ []))
    (listed_same (λ k. get_or (set ranges c x) k no_range) (λ k. get_or ranges k no_range) c (λ k l. get_or-set_other ranges c k x no_range (λ e. omega arith)))
    (get_or-set_same ranges c x no_range h))

ranged-fits : (I : OpenRanges) (e : Expr) → within_e I e ≡ true → ranged_e I e ≡ Some (range I e)
unfolding ranged_e
ranged-fits I e h = rw h

module _ (frame : List ℕ) (start : ℕ) (items : List ℕ) (rs : List Relation) (rule : Rule) where
  -- c expressions have been walked, and the next begins at `at`
  pub record SelectsTo (c : ℕ) (ranges : List Range) (at : ℕ) (allowed within : Bool) : Type 0 where
    pub long : length ranges ≡ 8
    pub so_far : Selects frame start c items rs rule (record { ranges = ranges; allowed = allowed; within = within })
    pub next : (r : ℕ) (es : List Expr) (rest : List ℕ) → repeated c (read_e (open_in rs r items)) (drop start frame) ≡ Read.ok es rest → drop at frame ≡ rest

  -- before the first, whatever the ranges are
  pub selects-none : (ranges : List Range) (r : ℕ) (es : List Expr) (rest : List ℕ) → repeated 0 (read_e (open_in rs r items)) (drop start frame) ≡ Read.ok es rest
      → (true ≡ all (allowed_e (permitted_of frame rule)) es)
      × (true ≡ all (within_e (open_ranges_in rs r items rule.bound)) es)
      × (first_ranges ranges 0 ≡ map (range (open_ranges_in rs r items rule.bound)) es)
      × (drop start frame ≡ rest)
  unfolding listed
  selects-none ranges r es rest h =
      let e : [] ≡ es = cc in (
        ap (all (allowed_e (permitted_of frame rule))) e,
        ap (all (within_e (open_ranges_in rs r items rule.bound))) e,
        ap (map (range (open_ranges_in rs r items rule.bound))) e,
        cc,
      )

  -- and where each is 0 to 0
  pub selects-begun : (ranges : List Range) → length ranges ≡ 8 → ((k : ℕ) → get_or ranges k no_range ≡ no_range) → SelectsTo 0 ranges start true true
  selects-begun ranges long none = record {
    long = long;
    so_far = record {
      selects = λ l r es rest h. let (a, b, c, d) = selects-none ranges r es rest h in (a, b, λ _. c);
      rest = λ k l. none k;
    };
    next = λ r es rest h. (selects-none ranges r es rest h).3;
  }

  pub selects-more : {c : ℕ} {ranges ranges' : List Range} {at : ℕ} {allowed within within' : Bool} {z : Sized} → SelectsTo c ranges at allowed within
      → SizesE frame at items rs rule z → Stored z.range c ranges within ranges' within'
      → SelectsTo (c + 1) ranges' z.next (allowed && z.allowed) within'
  selects-more {c} {ranges} {ranges'} {at} {allowed} {within} {within'} {z} s y q = record {
    long = length-of z.range q ∙ s.long;
    so_far = record {
      selects = λ l r es rest h.
          let reader = read_e (open_in rs r items) in
          let I = open_ranges_in rs r items rule.bound in
          let (es₀, x, mid, u, v, w) = times_snoc reader c (drop start frame) es rest (rw (add-one c) at h) in
          let (a, b, had) = s.so_far.selects (omega arith) r es₀ mid u in
          let (_, al, rg) = y.sizes r x rest (ap reader (s.next r es₀ mid u) ∙ v) in
          let fit : is_within z.range ≡ within_e I x = ap is_within rg ∙ ranged-is I x in
          let both : within' ≡ within && is_within z.range = stored-fits z.range c ranges ranges' within within' q in
          let P = allowed_e (permitted_of frame rule) in (
            ap₂ ◌&&◌ a al ∙ sym (all_snoc P es₀ x) ∙ ap (all P) (sym w),
            both ∙ ap₂ ◌&&◌ b fit ∙ sym (all_snoc (within_e I) es₀ x) ∙ ap (all (within_e I)) (sym w),
            λ t.
                let (t₀, t₁) = and_parts within (is_within z.range) (sym both ∙ t) in
                let put : ranges' ≡ set ranges c (range I x) = (subst (λ o. Stored o c ranges within ranges' within') (rg ∙ ranged-fits I x (sym fit ∙ t₁)) q).0 in
                ap (λ m. first_ranges m (c + 1)) put ∙ first-more ranges c (range I x) (omega (arith, s.long))
                ∙ ap (λ xs. xs ++ (range I x ∷ [])) (had t₀) ∙ sym (map-append (range I) es₀ (x ∷ [])) ∙ ap (map (range I)) (sym w),
          );
      rest = λ k l. rest-of z.range q k l ∙ s.so_far.rest k (omega arith);
    };
    next = λ r es rest h.
        let reader = read_e (open_in rs r items) in
        let (es₀, x, mid, u, v, w) = times_snoc reader c (drop start frame) es rest (rw (add-one c) at h) in
        (y.sizes r x rest (ap reader (s.next r es₀ mid u) ∙ v)).0;
  }
    where
      length-of : (o : Option Range) → Stored o c ranges within ranges' within' → length ranges' ≡ length ranges
      length-of (Some x) e = ap length e.0 ∙ length-set ranges c x
      length-of None e = ap length e.0

      rest-of : (o : Option Range) → Stored o c ranges within ranges' within' → (k : ℕ) → c + 1 ≤ k → get_or ranges' k no_range ≡ get_or ranges k no_range
      rest-of (Some x) e k l = ap (λ xs. get_or xs k no_range) e.0 ∙ get_or-set_other ranges c k x no_range (λ p. omega arith)
      rest-of None e k l = ap (λ xs. get_or xs k no_range) e.0

  pub selects-all : {c count : ℕ} {ranges : List Range} {at : ℕ} {allowed within : Bool} → SelectsTo c ranges at allowed within → c ≡ count
      → Selects frame start count items rs rule (record { ranges = ranges; allowed = allowed; within = within })
  selects-all {ranges = ranges} {allowed = allowed} {within} s e =
      subst (λ n. Selects frame start n items rs rule (record { ranges = ranges; allowed = allowed; within = within })) e s.so_far

-- ---- the answer

pub tail-ruled : (frame : List ℕ) (head : Tested) (count : ℕ) (items : List ℕ) (rs : List Relation) (rule : Rule) (a : Result Relation Reason)
    (s : Selected) → Selects frame head.next count items rs rule s
    → fault_told a ≡ view_fault (head.allowed && s.allowed) rule.bound (head.within && s.within)
    → ((x : Relation) → a ≡ Ok x → x ≡ record { width = count; bound = rule.bound % 256; mask = 0; start = 0; ranges = s.ranges })
    → Tail frame head count items rs rule a
tail-ruled frame head count items rs rule a s S f w = record {
  ruled = λ l r es rest h.
      let (p, q, g) = S.selects l r es rest h in
      record {
        fault = f ∙ ap₂ (λ u v. view_fault (head.allowed && u) rule.bound (head.within && v)) p q;
        told = λ x e. rw (w x e) (refl, l, λ t. g (q ∙ (and_parts head.within _ t).1));
      };
  entered = λ x e. rw (w x e) (record { mask = refl; start = refl; rest = S.rest });
}

ruled-as : {A A' W W' : Bool} {es : List Expr} {I : OpenRanges} {a : Result Relation Reason} → A ≡ A' → W ≡ W' → RuledAs A W es I a → RuledAs A' W' es I a
ruled-as {es = es} {I = I} {a = a} p q x = rw (← p, ← q) x

abbrev pub grouped_rule : ℕ → ℕ → ℕ → Rule
grouped_rule bound places g = record { bound = bound; part = Grouped places g }

module _ (frame : List ℕ) (P : Parts) (items : List ℕ) (rs : List Relation) (a : Result Relation Reason) (bound : ℕ) (w' : Tested)
    (product : ProductBound rs items bound) (t : TestsC frame P.body items rs (plain_rule bound true) w') where
  abbrev I : ℕ → ℕ → OpenRanges
  I r = open_ranges_in rs r items

  basic-ruled : (rule : Rule) → rule ≡ plain_rule bound false → Tail frame w' P.width items rs rule a → BasicOf frame P items rs a
  unfolding permitted_of
  basic-ruled rule re s = record {
    ruled = λ few narrow r w es mid rest read_w read_s.
        let s' = subst (λ k. Tail frame w' P.width items rs k a) re s in
        let (next, al, wi) = t.tests r w mid read_w in
        let x = s'.ruled narrow r es rest (ap (repeated P.width (read_e (open_in rs r items))) next ∙ read_s) in
        subst (λ R. RuledAs (allowed_c in_where w && all (allowed_e in_basic) es) (within_c (I r R) w && all (within_e (I r R)) es) es (I r R) a)
        (product.product few)
        (ruled-as (ap (λ b. b && all (allowed_e in_basic) es) al) (ap (λ b. b && all (within_e (I r bound)) es) wi) x);
  }

  grouped-ruled : (places : ℕ) (h' head : Tested)
      → head ≡ record { next = h'.next; allowed = w'.allowed && h'.allowed; within = w'.within && h'.within } → drop places frame ≡ drop w'.next frame
      → TestsC frame (places + 2 * P.groups) items rs (grouped_rule bound places P.groups) h'
      → Tail frame head P.width items rs (grouped_rule bound places P.groups) a → GroupedOf frame P items rs a
  unfolding permitted_of
  grouped-ruled places h' head he at u s = record {
    ruled = λ few narrow r w gs h es mid mid' mid'' rest read_w read_g read_h read_s.
        let cols = widths_in rs items in
        let s' = subst (λ k. Tail frame k P.width items rs (grouped_rule bound places P.groups) a) he s in
        let (next, al, wi) = t.tests r w mid read_w in
        let (gp, gr) = places-read cols frame P.groups places gs mid' (ap (repeated P.groups (place_field cols)) (at ∙ next) ∙ read_g) in
        let (next', al', wi') = u.tests r h mid'' (ap (read_c (open_in rs r items)) (sym gr) ∙ read_h) in
        let x = s'.ruled narrow r es rest (ap (repeated P.width (read_e (open_in rs r items))) next' ∙ read_s) in
        let G = in_grouped (places_from frame places P.groups) in
        let fit : ((w'.allowed && h'.allowed) && all (allowed_e G) es)
        ≡ (allowed_c in_where w && (allowed_c (in_grouped gs) h && all (allowed_e (in_grouped gs)) es)) =
        and_assoc w'.allowed h'.allowed (all (allowed_e G) es)
        ∙ ap₂ (λ b c. b && (c && all (allowed_e G) es)) al al'
        ∙ ap (λ k. allowed_c in_where w && (allowed_c (in_grouped k) h && all (allowed_e (in_grouped k)) es)) (sym gp) in
        let within : ((w'.within && h'.within) && all (within_e (I r bound)) es) ≡ (within_c (I r bound) w && (within_c (I r bound) h && all (within_e (I r bound)) es)) =
        and_assoc w'.within h'.within (all (within_e (I r bound)) es)
        ∙ ap₂ (λ b c. b && (c && all (within_e (I r bound)) es)) wi wi' in
        subst (λ R. RuledAs (allowed_c in_where w && (allowed_c (in_grouped gs) h && all (allowed_e (in_grouped gs)) es))
        (within_c (I r R) w && (within_c (I r R) h && all (within_e (I r R)) es)) es (I r R) a)
        (product.product few) (ruled-as fit within x);
  }

-- ---- from the relations to the draft

no-fault : (A : Bool) (R : ℕ) (W : Bool) → view_fault A R W ≡ 0 → (R ≤ 64) × (W ≡ true)
unfolding view_fault
no-fault true R W h = by-test (leb R 64)
    (λ t. (leb-true R 64 t, within W (rw t at h)))
    (λ t. let z : ◌≡◌ {A = ℕ} 8 0 = rw t at h in absurd (omega arith))
  where
    within : (W : Bool) → ◌≡◌ {A = ℕ} (cond W 0 9) 0 → W ≡ true
    within true h = refl
    within false h = absurd (omega arith)
no-fault false R W h = absurd (omega arith)

six : {fs l : List ℕ} → fs ≡ l → length fs ≤ 3 → length l ≤ 6
six e h = omega (arith, ap length e)

-- what `Rules` says of one draft and one view
record Ruling (d : Draft) (a : Result Relation Reason) (q : View) : Type 0 where
  fault : fault_told a ≡ whole_fault d (Item.view q)
  told : (x : Relation) → a ≡ Ok x → whole_fault d (Item.view q) ≡ 0 → (x.width ≤ 8) × (view_schema (schemas_of d) q ≡ schema_of x)

module _ (d : Draft) {rs : List Relation} (c : Catalogued d rs) where
  ranges-are : (fs : List ℕ) → item_ranges (schemas_of d) fs ≡ items_in rs fs
  ranges-are fs = map_same (λ i. (schema (schemas_of d) i).ranges) (ranges_in rs) (all-given (λ i. ap (λ (s : Schema). s.ranges) (sym (c.schemas i))) fs)

  product_is : (fs : List ℕ) → product_bound (schemas_of d) fs ≡ product_of rs fs
  unfolding product_of
  product_is fs =
      ap (foldr ◌*◌ 1) (map_same (λ i. (schema (schemas_of d) i).bound) (bound_at rs) (all-given (bound-known c) fs))

  open-are : (r : ℕ) → r ≡ relation_count d → (fs : List ℕ) → open_ranges (schemas_of d) fs ≡ open_ranges_in rs r fs (product_of rs fs)
  open-are r e fs =
      rw (
        product_is fs,
        ranges-are fs,
        map-listed (λ (s : Schema). s.ranges) (schemas_of d) no_schema (ranges_in rs) r (count-schemas d ∙ sym e)
            (λ i h. ap (λ (s : Schema). s.ranges) (sym (c.schemas i))),
      )

  module _ (r : ℕ) (e : r ≡ relation_count d) where
    ruling-of : (a : Result Relation Reason) (q : View) (A W : Bool) (es : List Expr) (I : OpenRanges)
        → whole_fault d (Item.view q) ≡ view_fault A I.bound W → view_schema (schemas_of d) q ≡ record { bound = I.bound; ranges = map (range I) es }
        → RuledAs A W es I a → Ruling d a q
    ruling-of a q A W es I f v x = record {
      fault = x.fault ∙ sym f;
      told = λ y w z.
          let (small, t) = no-fault A I.bound W (sym f ∙ z) in
          let (bound, narrow, ranges) = x.told y w in
          let b : I.bound ≡ y.bound = omega (arith, bound) in
          (narrow, v ∙ ap₂ (λ k xs. record { bound = k; ranges = xs }) b (sym (ranges t)));
    }

    module _ (a : Result Relation Reason) (q : View) (frame : List ℕ) (P : Parts) (items : List ℕ) (list : length (froms_in frame) ≤ 6 → items ≡ froms_in frame) where
      basic-ruling : P ≡ parts_of false frame → BasicOf frame P items rs a → basic_frame d (drop 1 frame) ≡ Read.ok (Item.view q) []
          → Ruling d a q
      unfolding view_fault parts_after
      basic-ruling pe B h =
          let (fs, m₁, p₁, q₁) = then_ok (from_list d (drop 1 frame)) _ h in
          let F = from-read d frame fs m₁ p₁ in
          let n₀ = get_or frame 1 0 in
          let (n, m₂, p₂, q₂) = then_ok (field 1 8 m₁) _ q₁ in
          let (i, j, t, _) = byte-read 5 (λ b. leb 1 b && leb b 8) frame (n₀ + 2) n m₂ (ap (field 1 8) (sym F.behind) ∙ p₂) in
          let (w, m₃, p₃, q₃) = then_ok (read_c (open_items (schemas_of d) fs) m₂) _ q₂ in
          let (es, m₄, p₄, q₄) = then_ok (repeated n (read_e (open_items (schemas_of d) fs)) m₃) _ q₃ in
          let same : View.basic fs w es ≡ q = view-read (View.basic fs w es) q m₄ [] q₄ in
          let B' = subst (λ k. BasicOf frame (parts_of false frame) k rs a) (list (six F.list F.few) ∙ sym F.list)
          (subst (λ (p : Parts). BasicOf frame p items rs a) pe B) in
          let start : m₂ ≡ drop (n₀ + 3) frame = j ∙ drop-as frame (n₀ + 2 + 1) (n₀ + 3) (omega arith) in
          let O = sym (opens-are c (sym e) fs) in
          let read_w : read_c (open_in rs r fs) (drop (n₀ + 3) frame) ≡ Read.ok w m₃ = ap₂ (λ o. read_c o) O (sym start) ∙ p₃ in
          let read_s : repeated (get_or frame (n₀ + 2) 0) (read_e (open_in rs r fs)) m₃ ≡ Read.ok es m₄ =
          ap₂ (λ k o. repeated k (read_e o) m₃) (sym i) O ∙ p₄ in
          let few : get_or frame (n₀ + 2) 0 ≤ 8 = rw (← i) (leb-true n 8 (and_parts (leb 1 n) (leb n 8) t).1) in
          let A = allowed_c in_where w && all (allowed_e in_basic) es in
          subst (Ruling d a) same
          (ruling-of a (View.basic fs w es) _ _ es (open_ranges_in rs r fs (product_of rs fs))
          (ap (λ I. cond A (cond (leb I.bound 64) (cond (within_c I w && all (within_e I) es) 0 9) 8) 7) (open-are r e fs))
          (ap (λ I. record { bound = I.bound; ranges = map (range I) es }) (open-are r e fs))
          (B'.ruled F.few few r w es m₃ m₄ read_w read_s))

      grouped-ruling : P ≡ parts_of true frame → GroupedOf frame P items rs a → GroupedRead d frame q → Ruling d a q
      unfolding view_fault
      grouped-ruling pe B G =
          let fs = G.fs in
          let T = G.trees in
          let p = parts_of true frame in
          let A = allowed_c in_where T.w && (allowed_c (in_grouped T.gs) T.h && all (allowed_e (in_grouped T.gs)) T.es) in
          let B' = subst (λ k. GroupedOf frame p k rs a) (list (six G.from.list G.from.few) ∙ sym G.from.list)
          (subst (λ (p : Parts). GroupedOf frame p items rs a) pe B) in
          let O = sym (opens-are c (sym e) fs) in
          subst (Ruling d a) T.same
          (ruling-of a (View.grouped fs T.w T.gs T.h T.es) _ _ T.es (open_ranges_in rs r fs (product_of rs fs))
          (ap (λ I. cond A (cond (leb I.bound 64) (cond (within_c I T.w && (within_c I T.h && all (within_e I) T.es)) 0 9) 8) 7) (open-are r e fs))
          (ap (λ I. record { bound = I.bound; ranges = map (range I) T.es }) (open-are r e fs))
          (B'.ruled G.from.few G.narrow r T.w T.gs T.h T.es T.mid T.mid' T.mid'' T.rest
          (ap (λ o. read_c o (drop p.body frame)) O ∙ T.read_w)
          (ap (λ o. repeated p.groups (place_field o.widths) T.mid) O ∙ T.read_g)
          (ap (λ o. read_c o T.mid') O ∙ T.read_h)
          (ap (λ o. repeated p.width (read_e o) T.mid'') O ∙ T.read_s)))

-- ---- the whole frame

-- from what the frame begins with and the answer for the rest
module _ (frame : List ℕ) (rs : List Relation) (a : Result Relation Reason) (o : Opening) where
  abbrev froms : List ℕ
  froms = relations_in o.items

  pub basic-rules : (rule : Rule) → rule ≡ plain_rule o.bound false
      → Tail frame o.filter o.parts.width froms rs rule a → RulesFrom false o frame rs a
  basic-rules rule re s = record {
    rules = λ O.
        let B = basic-ruled frame o.parts froms rs a o.bound o.filter O.product O.tested rule re s in
        record {
          fault = λ d q c h. (basic-ruling d c (relation_count d) refl a q frame o.parts froms O.froms O.parts_are B h).fault;
          told = λ d q x w c h. (basic-ruling d c (relation_count d) refl a q frame o.parts froms O.froms O.parts_are B h).told x w;
          entered = s.entered;
        };
  }

  pub grouped-rules : (places : ℕ) (h' head : Tested)
      → head ≡ record { next = h'.next; allowed = o.filter.allowed && h'.allowed; within = o.filter.within && h'.within } → drop places frame ≡ drop o.filter.next frame
      → TestsC frame (places + 2 * o.parts.groups) froms rs (grouped_rule o.bound places o.parts.groups) h'
      → Tail frame head o.parts.width froms rs (grouped_rule o.bound places o.parts.groups) a → RulesFrom true o frame rs a
  grouped-rules places h' head he at u s = record {
    rules = λ O.
        let B = grouped-ruled frame o.parts froms rs a o.bound o.filter O.product O.tested places h' head he at u s in
        record {
          fault = λ d q c h. (grouped-ruling d c (relation_count d) refl a q frame o.parts froms O.froms O.parts_are B (grouped-read d frame q h)).fault;
          told = λ d q x w c h. (grouped-ruling d c (relation_count d) refl a q frame o.parts froms O.froms O.parts_are B (grouped-read d frame q h)).told x w;
          entered = s.entered;
        };
  }

pub rules-of : {frame : List ℕ} {rs : List Relation} {a : Result Relation Reason} {o : Opening} {grouped b : Bool} → grouped ≡ b → OpeningOf grouped frame rs o
    → RulesFrom b o frame rs a → Rules grouped frame rs a
rules-of {frame} {rs} {a} {o} e O R =
    subst (λ (g : Bool). Rules g frame rs a) (sym e) (R.rules (subst (λ (g : Bool). OpeningOf g frame rs o) e O))
