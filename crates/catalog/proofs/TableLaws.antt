-- The tables of a file in memory: whether some table has a row, and the numbers of rows. Assumes nothing.
use mathlib.Core.Path.{◌≡◌, refl, sym, ap, ◌∙◌}
use mathlib.Core.Bool.{true, false, or-true, true≢false}
use mathlib.Core.List.{List, [], ◌∷◌, map}
use Prim.Native.Nat.{ℕ, zero, suc, ◌+◌, ◌≤◌, ◌<◌}
use native.Mathlib.Omega.{arith}
use lib.ListN.{length, set, length-set, length-map}
use lib.Seq.{get_or-set_same, get_or-set_other}
use Rattle.meaning.specs.Lists.{is_pos, any}
use Rattle.meaning.specs.Syntax.{Table, File}
use Rattle.meaning.specs.Bounds.{Schema, no_schema, schema, schemas, table_schema, view_schema}
use Rattle.meaning.proofs.ListSteps.{map_at}
use Rattle.meaning.proofs.Stacks.{by-lt, stack-keeps}
use Rattle.language.specs.Legal.{table_at}
use Rattle.catalog.specs.Relations.{bound_at}
use Rattle.catalog.specs.declared.relation.Relation.{Relation}
use Rattle.catalog.specs.FileIn.{SomeRow, TablesCounted}

-- ---- tables with rows

pub bound-is : (F : File) (i : ℕ) → i < length F.tables → (schema (schemas F) i).bound ≡ (table_at F.tables i).rows
bound-is F i h =
    let l : i < length (map table_schema F.tables) = omega (arith, h, length-map F.tables table_schema) in
    ap (λ (s : Schema). s.bound) (stack-keeps view_schema no_schema F.views (map table_schema F.tables) i l
    ∙ map_at table_schema F.tables i (record { rows = 0; columns = []; key = [] }) no_schema h)

some_at : (ts : List Table) (i : ℕ) → i < length ts → 0 < (table_at ts i).rows → any (λ t. is_pos t.rows) ts ≡ true
some_at [] i h k = absurd (omega arith)
some_at (t ∷ ts) zero h k = rw (pos t.rows k)
  where
    pos : (n : ℕ) → 0 < n → is_pos n ≡ true
    pos zero k = absurd (omega arith)
    pos (suc n) k = refl
some_at (t ∷ ts) (suc i) h k = rw (some_at ts i (omega arith) k, or-true)

none-at : (ts : List Table) → ((i : ℕ) → i < length ts → (table_at ts i).rows ≡ 0) → any (λ t. is_pos t.rows) ts ≡ false
none-at [] h = refl
none-at (t ∷ ts) h = rw (h 0 (omega arith), none-at ts (λ i k. h (suc i) (omega arith)))

-- no table before table n has a row
pub record Bare (rs : List Relation) (n : ℕ) : Type 0 where
  pub bare : (i : ℕ) → i < n → bound_at rs i ≡ 0

pub bare-none : (rs : List Relation) → Bare rs 0
bare-none rs = record { bare = λ i h. absurd (omega arith) }

pub bare-more : (rs : List Relation) (n b : ℕ) → Bare rs n → b ≡ bound_at rs n → b ≤ 0 → Bare rs (n + 1)
bare-more rs n b h e z = record {
  bare = λ i k. by-lt i n (λ t l. h.bare i l) (λ t l. let q : i ≡ n = omega arith in rw q (omega (arith, e, z)));
}

pub filled-some : (rs : List Relation) (tables n b : ℕ) → n < tables → b ≡ bound_at rs n → 0 < b → SomeRow rs tables true
filled-some rs tables n b h e k = record {
  has = λ _. (n, h, omega arith);
  has-none = λ q. absurd (true≢false q);
  some-row = λ F l s. sym (some_at F.tables n (omega (arith, h, l)) (omega (arith, k, e, s n, bound-is F n (omega (arith, h, l)))));
}

pub filled_none : (rs : List Relation) (tables n : ℕ) → tables ≤ n → Bare rs n → SomeRow rs tables false
filled_none rs tables n h b = record {
  has = λ q. absurd (true≢false (sym q));
  has-none = λ _ t k. b.bare t (omega arith);
  some-row = λ F l s. sym (none-at F.tables (λ i k. sym (bound-is F i k) ∙ sym (s i) ∙ b.bare i (omega (arith, h, l, k))));
}

-- ---- numbers of rows

pub counted_none : (rs : List Relation) (counts : List ℕ) → TablesCounted rs 0 counts counts
counted_none rs counts = record { size = refl; counted = λ t h l. absurd (omega arith); others = λ t h. refl }

pub counted-more : {rs : List Relation} {counts before after : List ℕ} {n b : ℕ} → TablesCounted rs n counts before → b ≡ bound_at rs n → after ≡ set before n b
    → TablesCounted rs (n + 1) counts after
counted-more {rs} {counts} {before} {after} {n} {b} c e q = record {
  size = rw q (length-set before n b ∙ c.size);
  counted = λ t h l. rw q (by-lt t n
      (λ _ k. get_or-set_other before n t b 0 (λ z. omega arith) ∙ c.counted t k l)
      (λ _ k. let z : t ≡ n = omega arith in rw z (get_or-set_same before n b 0 (omega (arith, c.size)) ∙ e)));
  others = λ t h. rw q (get_or-set_other before n t b 0 (λ z. omega arith) ∙ c.others t (omega arith));
}

pub counted-all : {rs : List Relation} {counts after : List ℕ} {tables n : ℕ} → TablesCounted rs n counts after → n ≡ tables → TablesCounted rs tables counts after
counted-all c e = rw e at c
