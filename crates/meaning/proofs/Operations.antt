-- The ordered meaning is the algebra's, and the algebra's is one bag: demand 2 on views. Assumes nothing.
use mathlib.Core.Path.{◌≡◌, refl, sym, ap, ap₂, ◌∙◌}
use mathlib.Core.Bool.{Bool, true, false, true≢false}
use mathlib.Core.List.{List, [], ◌∷◌, map}
use Prim.Native.Nat.{ℕ, zero, suc, ◌+◌, ◌*◌, ◌<◌, min}
use native.Mathlib.Nat.{suc-mul, zero-mul}
use native.Mathlib.Omega.{arith}
use lib.ListN.{get_or}
use Rattle.value.specs.Bag.{Same, Test, count, tick}
use Rattle.value.proofs.Decides.{and_parts, by-test}
use Rattle.meaning.specs.Algebra.{Bag, Groups, IsGroup, IsGrouping, IsProduct, IsProjection, IsSelection, IsSet, Means, group_count, multiplicity, over, cross_count}
use Rattle.meaning.specs.Bounds.{aggregates_fit, allowed_c, allowed_e, grouping_column, in_basic, in_grouped, in_where}
use Rattle.meaning.specs.Evaluation.{cell, combination_test, key_of, row_test, satisfies}
use Rattle.meaning.specs.Lists.{all, combinations, gate, keep, pairs}
use Rattle.meaning.specs.Rows.{kept, group_keys, members, rows_of, set_rows, spread, together}
use Rattle.meaning.specs.Syntax.{Combination, Place, Row, SetOperation, View}
use Rattle.meaning.proofs.Alike.{Alike, alone-alike, satisfies-alike, selected-alike}
use Rattle.meaning.proofs.ListBags.{all-count, count-append, count-common, count-first, count-firsts, count-keep, count_map, count_if-bag, count_if-where, gate-none, gate-some, same_refl}
use Rattle.meaning.proofs.Spread.{group-member, key-members, spread-cell}
use Rattle.meaning.proofs.WellFormed.{group-fits}

-- ---- the product

count-cons : (r x : Row) (m : Combination) (C : List Combination) → count combination_test (r ∷ m) (map (◌∷◌ x) C) ≡ gate (row_test.same r x) (count combination_test m C)
count-cons r x m [] = by-test (row_test.same r x) (λ e. rw e) (λ e. rw e)
count-cons r x m (c ∷ C) = rw (count-cons r x m C) (by-test (row_test.same r x) (λ e. rw e) (λ e. rw e))

gate-tick : (b : Bool) (n k : ℕ) → gate b k + n * k ≡ tick b n * k
gate-tick true n k = rw (suc-mul n k) (omega arith)
gate-tick false n k = omega arith

count-pairs : (r : Row) (m : Combination) (R : List Row) (C : List Combination) → count combination_test (r ∷ m) (pairs R C) ≡ count row_test r R * count combination_test m C
count-pairs r m [] C = sym (zero-mul _)
count-pairs r m (x ∷ R) C = rw (count-append (combination_test.same (r ∷ m)) (map (◌∷◌ x) C) (pairs R C), count-cons r x m C, count-pairs r m R C) (gate-tick (row_test.same r x) _ _)

no-nil : (x : Row) (C : List Combination) → count combination_test [] (map (◌∷◌ x) C) ≡ 0
no-nil x [] = refl
no-nil x (c ∷ C) = no-nil x C

count-nil : (R : List Row) (C : List Combination) → count combination_test [] (pairs R C) ≡ 0
count-nil [] C = refl
count-nil (x ∷ R) C = rw (count-append (combination_test.same []) (map (◌∷◌ x) C) (pairs R C), no-nil x C, count-nil R C)

product-count : (Rs : List Bag) (m : Combination) → count combination_test m (combinations Rs) ≡ cross_count Rs m
product-count [] [] = refl
product-count [] (r ∷ m) = refl
product-count (R ∷ Rs) [] = count-nil R (combinations Rs)
product-count (R ∷ Rs) (r ∷ m) = rw (count-pairs r m R (combinations Rs), product-count Rs m)

-- ---- each operation gives one bag, whichever lists stand for its operands

gate-where : {b c : Bool} (n : ℕ) → (0 < n → b ≡ c) → gate b n ≡ gate c n
gate-where {b} {c} zero h = gate-none b ∙ sym (gate-none c)
gate-where (suc n) h = ap (λ b. gate b (suc n)) (h (omega arith))

module _ {A : Type 0} {E : Test A} where
  -- what is asked of rows that do not occur does not count
  selection-where : {p p' : A → Bool} {R T : List A} → ((a : A) → 0 < count E a R → p a ≡ p' a) → IsSelection E p R T → IsSelection E p' R T
  selection-where {R} e t = record { at = λ a. t.at a ∙ gate-where (count E a R) (e a) }

  selection-one : {p : A → Bool} {R R' T T' : List A} → Same E R R' → IsSelection E p R T → IsSelection E p R' T' → Same E T T'
  selection-one {p} h t t' = record { at = λ a. t.at a ∙ ap (gate (p a)) (h.at a) ∙ sym (t'.at a) }

  projection-one : {f : A → Row} {R R' : List A} {T T' : Bag} → Same E R R' → IsProjection f R T → IsProjection f R' T' → Same row_test T T'
  projection-one {f} h t t' = record { at = λ μ. t.at μ ∙ count_if-bag (λ x. row_test.same μ (f x)) h ∙ sym (t'.at μ) }

  -- what is selected occurs
  selection-of : {p : A → Bool} {R T : List A} → IsSelection E p R T → (a : A) → 0 < count E a T → 0 < count E a R
  selection-of {p} t a h = (gate-some (p a) (rw (t.at a) at h)).1

-- the same of a projection
projection-where : {A : Type 0} (E : Test A) {f f' : A → Row} {R : List A} {T : Bag} → ((a : A) → 0 < count E a R → f a ≡ f' a)
    → IsProjection f R T → IsProjection f' R T
projection-where E {R = R} e t = record { at = λ μ. t.at μ ∙ count_if-where E R (λ a h. ap (row_test.same μ) (e a h)) }

group-count-one : (gs : List Place) {R R' : List Combination} → Same combination_test R R' → (k : Row) → group_count gs R k ≡ group_count gs R' k
group-count-one gs h k = ap (min 1) (count_if-bag (λ m. row_test.same k (key_of gs m)) h)

grouping-one : {gs : List Place} {R R' : List Combination} {T T' : Bag} → Same combination_test R R' → IsGrouping gs R T → IsGrouping gs R' T' → Same row_test T T'
grouping-one {gs} h t t' = record { at = λ k. t.at k ∙ group-count-one gs h k ∙ sym (t'.at k) }

group-one : {gs : List Place} {R R' : List Combination} {k : Row} {G G' : List Combination} → Same combination_test R R'
    → IsGroup gs R k G → IsGroup gs R' k G' → Same combination_test G G'
group-one {gs} {k = k} h g g' = record { at = λ m. g.at m ∙ ap (gate (row_test.same k (key_of gs m))) (h.at m) ∙ sym (g'.at m) }

-- a grouping column has in each member of the group of k its value in k
member-cell : {gs : List Place} {R : List Combination} {k : Row} {G : List Combination} → IsGroup gs R k G → (m : Combination) → 0 < count combination_test m G
    → (i c : ℕ) → grouping_column gs i c ≡ true → cell m i c ≡ cell (spread gs k) i c
member-cell {gs} {k = k} g m h i c t =
    let e : row_test.same k (key_of gs m) ≡ true = (gate-some (row_test.same k (key_of gs m)) (rw (g.at m) at h)).0 in
    sym (rw (row_test.sound k (key_of gs m) e) (spread-cell gs m i c t))

-- over the same bags
module _ {M M' : ℕ → Bag} (h : (i : ℕ) → Same row_test (M i) (M' i)) where
  -- the scopes of one group, whichever lists and members stand for it
  group-alike : {gs : List Place} {S S' : List Combination} {k : Row} {G G' : List Combination} {m m' : Combination} → Same combination_test S S'
      → IsGroup gs S k G → 0 < count combination_test m G → IsGroup gs S' k G' → 0 < count combination_test m' G'
      → Alike (in_grouped gs) (over M G m) (over M' G' m')
  group-alike {m = m} {m' = m'} e g l g' l' = record { relations = h; items = λ i c t. member-cell g m l i c t ∙ sym (member-cell g' m' l' i c t); one = λ t. absurd (true≢false (sym t)); group = group-one e g g' }

  times-one : (fs : List ℕ) (m : Combination) → cross_count (map M fs) m ≡ cross_count (map M' fs) m
  times-one [] m = refl
  times-one (i ∷ fs) [] = refl
  times-one (i ∷ fs) (r ∷ m) = ap₂ ◌*◌ ((h i).at r) (times-one fs m)

  product-one : (fs : List ℕ) {P P' : List Combination} → IsProduct (map M fs) P → IsProduct (map M' fs) P' → Same combination_test P P'
  product-one fs p p' = record { at = λ m. p.at m ∙ times-one fs m ∙ sym (p'.at m) }

  -- two answers of a view over the same bags are the same bag
  pub answer-one : (q : View) → aggregates_fit [] q ≡ true → {B B' : Bag} → Means M q B → Means M' q B' → Same row_test B B'
  unfolding Means
  answer-one (View.basic fs w ss) t (P, S, p, s, b) (P', S', p', s', b') =
      let (tw, ts) = and_parts (allowed_c in_where w) (all (allowed_e in_basic) ss) t in
      let h_s = selection-one (product-one fs p p') (selection-where (λ m l. satisfies-alike in_where (alone-alike h m) w tw) s) s' in
      projection-one h_s (projection-where combination_test (λ m l. selected-alike in_basic (alone-alike h m) ss ts) b) b'
  answer-one (View.grouped fs w gs c ss) t (P, S, G, H, group, member, p, s, g, r, k, b) (P', S', G', H', group', member', p', s', g', r', k', b') =
      let f = group-fits w gs c ss t in
      let h_s = selection-one (product-one fs p p') (selection-where (λ m l. satisfies-alike in_where (alone-alike h m) w f.condition) s) s' in
      let h_g = grouping-one h_s g g' in
      let same : (x : Row) → 0 < count row_test x G → Alike (in_grouped gs) (over M (group x) (member x)) (over M' (group' x) (member' x)) =
      λ x l. let l' = rw (h_g.at x) at l in group-alike h_s (r.group_of x l) (r.member_of x l) (r'.group_of x l') (r'.member_of x l') in
      let h_h = selection-one h_g (selection-where (λ x l. satisfies-alike (in_grouped gs) (same x l) c f.having) k) k' in
      projection-one h_h (projection-where row_test (λ x l. selected-alike (in_grouped gs) (same x (selection-of k x l)) ss f.select) b) b'
  answer-one (View.set op i j) t b b' = record { at = λ μ. b.at μ ∙ ap₂ (multiplicity op) ((h i).at μ) ((h j).at μ) ∙ sym (b'.at μ) }

-- ---- the ordered operations are the algebra's

product-sound : (Rs : List Bag) → IsProduct Rs (combinations Rs)
product-sound Rs = record { at = product-count Rs }

selection-sound : {A : Type 0} (E : Test A) (p : A → Bool) (R : List A) → IsSelection E p R (keep p R)
selection-sound E p R = record { at = λ μ. count-keep E p μ R }

projection-sound : {A : Type 0} (f : A → Row) (R : List A) → IsProjection f R (map f R)
projection-sound f R = record { at = λ μ. count_map (row_test.same μ) f R }

grouping-sound : (gs : List Place) (R : List Combination) → IsGrouping gs R (group_keys gs R)
grouping-sound gs R = let g = key_of gs in record { at = λ k. count-firsts row_test k (map g R) ∙ ap (min 1) (count_map (row_test.same k) g R) }

group-sound : (gs : List Place) (R : List Combination) (k : Row) → IsGroup gs R k (members gs R k)
group-sound gs R k = record { at = λ m. count-keep combination_test (λ x. row_test.same k (key_of gs x)) m R }

set-sound : (op : SetOperation) (R S : Bag) → IsSet op R S (set_rows op R S)
set-sound SetOperation.union R S = record { at = λ μ. count-append (row_test.same μ) R S }
set-sound SetOperation.intersection R S = record { at = λ μ. count-common row_test μ R S }

-- each group with its first member
abbrev leader : List Place → List Combination → Row → Combination
leader gs R k = get_or (members gs R k) 0 []

groups-sound : (gs : List Place) (R : List Combination) → Groups gs R (group_keys gs R) (members gs R) (leader gs R)
groups-sound gs R = record {
  group_of = λ k l. group-sound gs R k;
  member_of = λ k l. count-first combination_test [] (members gs R k) (group-member gs R k (all-count row_test (key-members gs R) k l));
}

-- the scope of a group, by its grouping values and by its first member
together-alike : (M : ℕ → Bag) (gs : List Place) (R : List Combination) (k : Row) → 0 < count row_test k (group_keys gs R)
    → Alike (in_grouped gs) (together M gs R k) (over M (members gs R k) (leader gs R k))
together-alike M gs R k l = record {
  relations = λ i. same_refl;
  items = λ i c t. sym (member-cell (group-sound gs R k) (leader gs R k) ((groups-sound gs R).member_of k l) i c t);
  one = λ t. absurd (true≢false (sym t));
  group = same_refl;
}

-- the rows of a view are an answer
pub answer-rows : (M : ℕ → Bag) (q : View) → aggregates_fit [] q ≡ true → Means M q (rows_of M q)
unfolding Means
answer-rows M (View.basic fs w ss) t = (
  combinations (map M fs),
  kept M fs w,
  product-sound (map M fs),
  selection-sound combination_test _ _,
  projection-sound _ _,
)
answer-rows M (View.grouped fs w gs c ss) t =
    let S = kept M fs w in
    let f = group-fits w gs c ss t in
    let k = selection-sound row_test (λ k. satisfies c (together M gs S k)) (group_keys gs S) in (
      combinations (map M fs),
      S,
      group_keys gs S,
      keep (λ k. satisfies c (together M gs S k)) (group_keys gs S),
      members gs S,
      leader gs S,
      product-sound (map M fs),
      selection-sound combination_test _ _,
      grouping-sound gs S,
      groups-sound gs S,
      selection-where (λ x l. satisfies-alike (in_grouped gs) (together-alike M gs S x l) c f.having) k,
      projection-where row_test (λ x l. selected-alike (in_grouped gs) (together-alike M gs S x (selection-of k x l)) ss f.select) (projection-sound _ _),
    )
answer-rows M (View.set op i j) t = set-sound op (M i) (M j)

-- so they give one bag over the same bags
pub rows-one : {M M' : ℕ → Bag} → ((i : ℕ) → Same row_test (M i) (M' i)) → (q : View) → aggregates_fit [] q ≡ true → Same row_test (rows_of M q) (rows_of M' q)
rows-one {M} {M'} h q t = answer-one h q t (answer-rows M q t) (answer-rows M' q t)
