-- What is known of relations: their ranges by number, and a relation stored. Assumes nothing.
use mathlib.Core.Path.{◌≡◌, refl, sym, ap, ◌∙◌}
use mathlib.Core.List.{List}
use Prim.Native.Nat.{ℕ, ◌≤◌, ◌<◌}
use native.Mathlib.Omega.{arith}
use lib.ListN.{length, get_or, set, length-set, get_or-eq_default}
use lib.Seq.{get_or-set_same, get_or-set_other, set_out}
use Rattle.meaning.proofs.Listed.{get_d-listed, length-listed}
use Rattle.meaning.proofs.Stacks.{by-lt}
use Rattle.catalog.specs.Relations.{no_range, no_relation, relation_at, width_at, start_at, ranges_of, ranges_in, schema_in, range_of, column_at, with_start, put_start, Known}
use Rattle.catalog.specs.declared.relation.Relation.{Relation}

-- ---- the ranges of a relation

pub length-ranges : (x : Relation) → length (ranges_of x) ≡ x.width
length-ranges x = length-listed (λ c. get_or x.ranges c no_range) x.width

pub range-there : (x : Relation) (c : ℕ) → c < x.width → get_or x.ranges c no_range ≡ range_of x c
range-there x c h = sym (get_d-listed (λ k. get_or x.ranges k no_range) x.width c no_range h)

pub range-past : (x : Relation) (c : ℕ) → x.width ≤ c → no_range ≡ range_of x c
range-past x c h = sym (get_or-eq_default (ranges_of x) no_range (rw (length-ranges x) h))

-- a relation that is not there
pub relation-past : (rs : List Relation) (r : ℕ) → length rs ≤ r → relation_at rs r ≡ no_relation
relation-past rs r h = get_or-eq_default rs no_relation h

-- ---- a relation stored

pub put-there : (rs : List Relation) (r : ℕ) (x : Relation) → r < length rs → relation_at (set rs r x) r ≡ x
put-there rs r x h = get_or-set_same rs r x no_relation h

pub put-other : (rs : List Relation) (r i : ℕ) (x : Relation) → (i ≡ r → ⊥) → relation_at (set rs r x) i ≡ relation_at rs i
put-other rs r i x n = get_or-set_other rs r i x no_relation n

-- ---- the place of a frame

module _ (rs : List Relation) (r at : ℕ) where
  pub start-there : r < length rs → start_at (put_start rs r at) r ≡ at
  unfolding put_start
  start-there h = ap (λ (x : Relation). x.start) (put-there rs r (with_start (relation_at rs r) at) h)

  pub start-other : (i : ℕ) → (i ≡ r → ⊥) → start_at (put_start rs r at) i ≡ start_at rs i
  unfolding put_start
  start-other i n = ap (λ (x : Relation). x.start) (put-other rs r i (with_start (relation_at rs r) at) n)

  pub start-past : length rs ≤ r → put_start rs r at ≡ rs
  unfolding put_start
  start-past h = set_out rs r (with_start (relation_at rs r) at) h

  pub start-known : Known rs (put_start rs r at)
  unfolding put_start
  start-known = record {
    size = length-set rs r (with_start (relation_at rs r) at);
    same = λ i. by-lt r (length rs) (λ _ h. at-place i h) (λ _ h. ap (λ l. with_start (relation_at l i) 0) (set_out rs r (with_start (relation_at rs r) at) h));
  }
    where
      at-place : (i : ℕ) → r < length rs → with_start (relation_at (set rs r (with_start (relation_at rs r) at)) i) 0 ≡ with_start (relation_at rs i) 0
      at-place i h = by-lt i r
          (λ _ l. ap (λ x. with_start x 0) (put-other rs r i (with_start (relation_at rs r) at) (λ e. omega arith)))
          (λ _ l. by-lt r i
          (λ _ l. ap (λ x. with_start x 0) (put-other rs r i (with_start (relation_at rs r) at) (λ e. omega arith)))
          (λ _ k. let e : r ≡ i = omega arith in rw (← e) (ap (λ x. with_start x 0) (put-there rs r (with_start (relation_at rs r) at) h))))

-- ---- what is known of relations, kept

pub known-same : (rs : List Relation) → Known rs rs
known-same rs = record { size = refl; same = λ r. refl }

pub known-more : {a b c : List Relation} → Known a b → Known b c → Known a c
known-more p q = record { size = q.size ∙ p.size; same = λ r. q.same r ∙ p.same r }

module _ {a b : List Relation} (k : Known a b) (i : ℕ) where
  pub width-kept : width_at b i ≡ width_at a i
  width-kept = ap (λ (x : Relation). x.width) (k.same i)

  pub bound-kept : (relation_at b i).bound ≡ (relation_at a i).bound
  bound-kept = ap (λ (x : Relation). x.bound) (k.same i)

  pub mask-kept : (relation_at b i).mask ≡ (relation_at a i).mask
  mask-kept = ap (λ (x : Relation). x.mask) (k.same i)

  pub ranges-kept : ranges_in b i ≡ ranges_in a i
  ranges-kept = ap ranges_of (k.same i)

  pub schema-kept : schema_in b i ≡ schema_in a i
  schema-kept = ap (λ (x : Relation). record { bound = x.bound; ranges = ranges_of x }) (k.same i)

  pub column-kept : (c : ℕ) → column_at b i c ≡ column_at a i c
  unfolding column_at
  column-kept c = rw (ap (λ (x : Relation). range_of x c) (k.same i))
