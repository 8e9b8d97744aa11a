-- The relations stand for a draft with one relation more. Assumes nothing.
use mathlib.Core.Path.{◌≡◌, sym, ap, subst, ◌∙◌}
use mathlib.Core.List.{List, [], ◌∷◌, ◌++◌, map, map-append}
use Prim.Native.Nat.{ℕ, ◌≤◌, ◌<◌}
use native.Mathlib.Omega.{arith}
use lib.ListN.{length, get_or, set, length-append, length-set, get_or-append, get_or-eq_default}
use lib.Seq.{get_or-append_seam, ext_get_or}
use lib.Dec.{eqb}
use borrow.Author.Tests.{eqb-true, eqb-false}
use Rattle.value.proofs.Decides.{by-test}
use Rattle.range.specs.declared.Range.{Range}
use Rattle.meaning.specs.Syntax.{Table, View, ForeignKey, Goal}
use Rattle.meaning.specs.Lists.{listed}
use Rattle.meaning.specs.Bounds.{Schema, no_schema, schema, table_schema, view_schema}
use Rattle.meaning.proofs.Stacks.{by-lt, stack-append}
use Rattle.catalog.specs.Relations.{no_range, no_relation, relation_at, width_at, mask_at, schema_in, schema_of, ranges_of}
use Rattle.catalog.specs.declared.relation.Relation.{Relation}
use Rattle.language.specs.Draft.{Draft, Item, empty, added, relation_count, schemas_of}
use Rattle.language.specs.Frames.{no_table}
use Rattle.language.specs.Written.{mask_of}
use Rattle.checker.specs.Catalogued.{Catalogued}
use Rattle.checker.specs.Entries.{RangesBy}
use Rattle.catalog.proofs.RelationLaws.{length-ranges, range-there, put-there, put-other}
use Rattle.language.proofs.Turns.{count-schemas}

-- equal or not
by-eq {ℓ} : (m n : ℕ) {P : Type ℓ} → (m ≡ n → P) → ((m ≡ n → ⊥) → P) → P
by-eq m n y f = by-test (eqb m n) (λ e. y (eqb-true m n e)) (λ e. f (eqb-false m n e))

-- ---- the schemas of a draft with one more

pub view-schemas : (d : Draft) (q : View) → schemas_of (added d (Item.view q)) ≡ schemas_of d ++ (view_schema (schemas_of d) q ∷ [])
view-schemas d q = stack-append view_schema d.views (q ∷ []) (map table_schema d.tables)

pub table-schemas : (d : Draft) (t : Table) → d.views ≡ [] → schemas_of (added d (Item.table t)) ≡ schemas_of d ++ (table_schema t ∷ [])
table-schemas d t e = rw e (map-append table_schema d.tables (t ∷ []))

-- ---- the ranges of a relation

-- they are those of a list, if each column is
pub ranges-told : (x : Relation) (f : ℕ → Range) → RangesBy (λ c r. r ≡ f c) x.width x.ranges → x.width ≤ 8
    → (xs : List Range) → length xs ≡ x.width → ((c : ℕ) → c < x.width → f c ≡ get_or xs c no_range) → ranges_of x ≡ xs
ranges-told x f h w xs e same = ext_get_or no_range (ranges_of x) xs (length-ranges x ∙ sym e)
    (λ c l. let k : c < x.width = omega (arith, length-ranges x) in sym (range-there x c k) ∙ h.column c k (omega arith) ∙ same c k)

-- ---- one relation more

module _ (rs : List Relation) (r : ℕ) (x : Relation) where
  pub schema-here : r < length rs → schema_in (set rs r x) r ≡ schema_of x
  schema-here h = ap schema_of (put-there rs r x h)

  pub schema-other : (i : ℕ) → (i ≡ r → ⊥) → schema_in (set rs r x) i ≡ schema_in rs i
  schema-other i n = ap schema_of (put-other rs r i x n)

  pub mask-here : r < length rs → mask_at (set rs r x) r ≡ x.mask
  mask-here h = ap (λ (y : Relation). y.mask) (put-there rs r x h)

  pub mask-other : (i : ℕ) → (i ≡ r → ⊥) → mask_at (set rs r x) i ≡ mask_at rs i
  mask-other i n = ap (λ (y : Relation). y.mask) (put-other rs r i x n)

  pub widths-kept : r < length rs → x.width ≤ 8 → ((i : ℕ) → width_at rs i ≤ 8) → (i : ℕ) → width_at (set rs r x) i ≤ 8
  widths-kept l w old i = by-eq i r
      (λ e. rw e (subst (λ (y : Relation). y.width ≤ 8) (sym (put-there rs r x l)) w))
      (λ n. subst (λ (y : Relation). y.width ≤ 8) (sym (put-other rs r i x n)) (old i))

  -- the relations have the schemas with one more
  pub schemas-more : (ss : List Schema) (new : Schema) → r < length rs → ((i : ℕ) → schema_in rs i ≡ schema ss i)
      → r ≡ length ss → new ≡ schema_of x → (i : ℕ) → schema_in (set rs r x) i ≡ schema (ss ++ (new ∷ [])) i
  schemas-more ss new room old e n i = by-lt i (length ss)
      (λ _ l. schema-other i (λ q. omega arith) ∙ old i ∙ sym (get_or-append ss (new ∷ []) no_schema i l))
      (λ _ l. by-lt (length ss) i
      (λ _ m. schema-other i (λ q. omega arith) ∙ old i ∙ get_or-eq_default ss no_schema l
      ∙ sym (get_or-eq_default (ss ++ (new ∷ [])) no_schema (rw (length-append ss (new ∷ [])) (omega arith))))
      (λ _ m. let q : i ≡ length ss = omega arith in
      let a : schema_in (set rs r x) i ≡ new = rw (q ∙ sym e) (schema-here room ∙ sym n) in
      let b : schema (ss ++ (new ∷ [])) i ≡ new = rw q (get_or-append_seam ss new [] no_schema) in
      a ∙ sym b))

-- ---- a view

pub view-entered : (d : Draft) (q : View) (r : ℕ) (x : Relation) (rs : List Relation) → Catalogued d rs → r ≡ relation_count d → r < 16 → x.width ≤ 8
    → view_schema (schemas_of d) q ≡ schema_of x → Catalogued (added d (Item.view q)) (set rs r x)
view-entered d q r x rs c e l w v =
    let room : r < length rs = omega (arith, c.size) in
    record {
      size = length-set rs r x ∙ c.size;
      schemas = λ i. rw (view-schemas d q)
          (schemas-more rs r x (schemas_of d) (view_schema (schemas_of d) q) room c.schemas (e ∙ sym (count-schemas d)) v i);
      widths = widths-kept rs r x room w c.widths;
      masks = λ i h. mask-other rs r x i (λ n. omega arith) ∙ c.masks i h;
    }

-- ---- a table

pub table-entered : (d : Draft) (t : Table) (r : ℕ) (x : Relation) (rs : List Relation) → Catalogued d rs → r ≡ length d.tables → r < 16 → d.views ≡ []
    → x.width ≤ 8 → table_schema t ≡ schema_of x → mask_of t.key ≡ x.mask → Catalogued (added d (Item.table t)) (set rs r x)
table-entered d t r x rs c e l first w v m =
    let room : r < length rs = omega (arith, c.size) in
    let n : r ≡ length (schemas_of d) = omega (arith, count-schemas d, ap length first) in
    record {
      size = length-set rs r x ∙ c.size;
      schemas = λ i. rw (table-schemas d t first) (schemas-more rs r x (schemas_of d) (table_schema t) room c.schemas n v i);
      widths = widths-kept rs r x room w c.widths;
      masks = λ i h. by-lt i r
          (λ _ k. mask-other rs r x i (λ q. omega arith) ∙ c.masks i (omega arith)
          ∙ sym (ap (λ u. mask_of u.key) (get_or-append d.tables (t ∷ []) no_table i (omega arith))))
          (λ _ k. let q : i ≡ length d.tables = omega (arith, length-append d.tables (t ∷ [])) in
          let a : mask_at (set rs r x) i ≡ x.mask = rw (q ∙ sym e) (mask-here rs r x room) in
          let b : get_or (d.tables ++ (t ∷ [])) i no_table ≡ t = rw q (get_or-append_seam d.tables t [] no_table) in
          a ∙ sym m ∙ sym (ap (λ u. mask_of u.key) b));
    }

-- ---- what adds no relation

pub none-entered : (rs : List Relation) → length rs ≡ 16 → ((i : ℕ) → relation_at rs i ≡ no_relation) → Catalogued empty rs
unfolding listed
none-entered rs s z = record {
  size = s;
  schemas = λ i. ap schema_of (z i);
  widths = λ i. subst (λ (y : Relation). y.width ≤ 8) (sym (z i)) (omega arith);
  masks = λ i h. absurd (omega arith);
}

module _ {d : Draft} {rs : List Relation} (c : Catalogued d rs) where
  pub key-entered : (k : ForeignKey) → Catalogued (added d (Item.key k)) rs
  key-entered k = record { size = c.size; schemas = c.schemas; widths = c.widths; masks = c.masks }

  pub goal-entered : (g : Goal) → Catalogued (added d (Item.goal g)) rs
  goal-entered g = record { size = c.size; schemas = c.schemas; widths = c.widths; masks = c.masks }
