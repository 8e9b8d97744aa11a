-- "Every expression has a range": its value lies in it, and where every range inside it lies within 32 bits, so does every result on the
-- way. Assumes nothing.
use mathlib.Core.Path.{◌≡◌, refl, sym, ◌∙◌}
use mathlib.Core.Bool.{Bool, true, false, ◌&&◌, cond, true≢false}
use mathlib.Core.List.{List, [], ◌∷◌, ◌++◌, map}
use Prim.Native.Nat.{ℕ, ◌≤◌, ◌<◌}
use native.Mathlib.Omega.{arith}
use lib.IntN.{pos}
use lib.ListN.{length, get_or, length-map, length-take}
use mir.Syntax.{w32}
use mir.Val.{SFits}
use Rattle.value.specs.Bag.{All}
use Rattle.value.specs.Integer.{in32}
use Rattle.value.specs.Value.{Value, Aggregate, Tally, TallyBetween, TallyHeld, Held, holds, total}
use Rattle.value.proofs.Decides.{by-test, and_parts}
use Rattle.value.proofs.Linear.{ints}
use Rattle.value.proofs.Fits.{in32-fits}
use Rattle.value.proofs.Values.{all_map, tally-wider}
use Rattle.range.specs.Ranges.{Inside, within32, constant_of, hull_of, aggregated_of}
use Rattle.range.specs.declared.Range.{Range}
use Rattle.range.proofs.Soundness.{constant-inside, hull-left, hull-right, rounded-inside, operated-inside, aggregated-tally, aggregated-inside}
use Rattle.range.proofs.Bits32.{inside-held}
use Rattle.meaning.specs.Lists.{Each, all}
use Rattle.meaning.specs.Syntax.{Expr, Cond, Row, Combination}
use Rattle.meaning.specs.Evaluation.{Scope, alone, opened, missing, cell, value, truth, selected}
use Rattle.meaning.specs.Bounds.{OpenRanges, opened_ranges, range, within_e, within_c, Permitted, in_where, inside_aggregate, allowed_e, allowed_c}
use Rattle.meaning.specs.Clear.{ClearE, ClearC}
use Rattle.meaning.proofs.Elements.{all-test, all_both, all-image, all_take, each_append, each_at, each-images}

-- ---- the parts of a range that are used here

cond-inside : (t : Bool) {a b : Range} {v w : Value} → Inside a v → Inside b w → Inside (hull_of a b) (cond t v w)
cond-inside true {a} {b} i j = hull-left {a = a} i b
cond-inside false {a} {b} i j = hull-right {a = b} j a

total_inside : (op : Aggregate) (R : ℕ) (a : Range) {vs : List Value} → 0 < length vs → length vs ≤ R → All (Inside a) vs → Inside (aggregated_of op R a) (total op vs)
total_inside op R a {vs = []} l h is = absurd (omega arith)
total_inside op R a {vs = v ∷ vs} l h is = aggregated-inside op R a h is

tally-held : (r : Range) {t : Tally} → within32 r ≡ true → TallyBetween r.lo r.hi t → TallyHeld t
tally-held r e i =
    let p = and_parts (in32 r.lo) (in32 r.hi) e in
    let l : SFits w32 r.lo = in32-fits r.lo p.0 in
    let h : SFits w32 r.hi = in32-fits r.hi p.1 in
    tally-wider (omega ints) (omega ints) i

-- ---- what a scope must give

module _ (o : OpenRanges) where
  -- a row for each open item, each column in its range
  abbrev pub Covered : Combination → Type 0
  Covered m = Each (Each Inside) o.ranges m

  -- the rows of the relations before the view
  pub record RelationsCovered (M : ℕ → List Row) : Type 0 where
    pub at : (i : ℕ) → All (Each Inside (get_or o.relations i [])) (M i)

  -- a group with a member, of no more members than the row bound
  pub record GroupCovered (g : List Combination) : Type 0 where
    pub member : 0 < length g
    pub size : length g ≤ o.bound
    pub columns : All Covered g

  -- the columns that may stand outside aggregates lie in their ranges; where aggregates may stand there is a group, and where exists may,
  -- every open item and every relation lies in its ranges
  pub record ScopeCovered (P : Permitted) (s : Scope) : Type 0 where
    pub items : (i c : ℕ) → P.columns i c ≡ true → Inside (get_or (get_or o.ranges i []) c (constant_of (pos 0))) (cell s.items i c)
    pub group : P.aggregates ≡ true → GroupCovered s.group
    pub every-item : P.exists ≡ true → Covered s.items
    pub relations : P.exists ≡ true → RelationsCovered s.relations

module _ (o : OpenRanges) where
  -- one that is not there too
  pub covered-at : {m : Combination} → Covered o m → (i c : ℕ) → Inside (get_or (get_or o.ranges i []) c (constant_of (pos 0))) (cell m i c)
  covered-at h i c = each_at {P = Inside} (constant_of (pos 0)) missing (constant-inside (pos 0)) (each_at {P = Each Inside} [] [] Each.nil h i) c

  -- one combination, outside aggregates
  pub alone-covered : (P : Permitted) → P.aggregates ≡ false → (M : ℕ → List Row) → (P.exists ≡ true → RelationsCovered o M)
      → (m : Combination) → Covered o m → ScopeCovered o P (alone M m)
  alone-covered P n M k m h = record {
    items = λ i c e. covered-at h i c;
    group = λ e. absurd (true≢false (sym e ∙ n));
    every-item = λ e. h;
    relations = k;
  }

  -- inside 07, where no exists may stand
  inside-covered : (M : ℕ → List Row) (m : Combination) → Covered o m → ScopeCovered o inside_aggregate (alone M m)
  inside-covered M m h = alone-covered inside_aggregate refl M (λ e. absurd (true≢false (sym e))) m h

  -- ---- the value lies in the range

  pub value-inside : (P : Permitted) (s : Scope) → ScopeCovered o P s
      → (e : Expr) → allowed_e P e ≡ true → Inside (range o e) (value s e)
  value-inside P s h (Expr.constant z) a = constant-inside z
  value-inside P s h (Expr.column i c) a = h.items i c a
  value-inside P s h (Expr.operation op x y) a =
      let (p, q) = and_parts (allowed_e P x) (allowed_e P y) a in
      operated-inside op {a = range o x} {b = range o y} (value-inside P s h x p) (value-inside P s h y q)
  value-inside P s h (Expr.rounding m x) a = rounded-inside {a = range o x} (value-inside P s h x a) m
  value-inside P s h (Expr.choice c x y) a =
      let (p, q) = and_parts (allowed_c P c) (allowed_e P x && allowed_e P y) a in
      let (t, u) = and_parts (allowed_e P x) (allowed_e P y) q in
      cond-inside (holds (truth s c)) {a = range o x} {b = range o y} (value-inside P s h x t) (value-inside P s h y u)
  value-inside P s h (Expr.aggregate op x) a =
      let (p, q) = and_parts P.aggregates (allowed_e inside_aggregate x) a in
      let g = h.group p in
      let f : Combination → Value = λ m. value (alone s.relations m) x in
      total_inside op o.bound (range o x) (rw (length-map s.group f) g.member) (rw (length-map s.group f) g.size)
      (all-image f (λ m k. value-inside inside_aggregate (alone s.relations m) (inside-covered s.relations m k) x q) g.columns)

  -- ---- 32 bits hold every result on the way

  -- the value itself is held
  pub value-held : (P : Permitted) (s : Scope) → ScopeCovered o P s
      → (e : Expr) → allowed_e P e ≡ true → within_e o e ≡ true → Held (value s e)
  value-held P s h (Expr.constant z) a w = inside-held {r = constant_of z} w (constant-inside z)
  value-held P s h (Expr.column i c) a w = inside-held {r = range o (Expr.column i c)} w (value-inside P s h (Expr.column i c) a)
  value-held P s h (Expr.operation op x y) a w =
      let e = Expr.operation op x y in
      inside-held {r = range o e} (and_parts (within32 (range o e)) (within_e o x && within_e o y) w).0 (value-inside P s h e a)
  value-held P s h (Expr.rounding m x) a w =
      let e = Expr.rounding m x in
      inside-held {r = range o e} (and_parts (within32 (range o e)) (within_e o x) w).0 (value-inside P s h e a)
  value-held P s h (Expr.choice c x y) a w =
      let (p, q) = and_parts (allowed_c P c) (allowed_e P x && allowed_e P y) a in
      let (t, u) = and_parts (allowed_e P x) (allowed_e P y) q in
      let (b, d) = and_parts (within_c o c) (within_e o x && within_e o y) w in
      let (j, k) = and_parts (within_e o x) (within_e o y) d in
      by-test (holds (truth s c)) (λ z. rw z (value-held P s h x t j)) (λ z. rw z (value-held P s h y u k))
  value-held P s h (Expr.aggregate op x) a w =
      let e = Expr.aggregate op x in
      inside-held {r = range o e} (and_parts (within32 (range o e)) (within_e o x) w).0 (value-inside P s h e a)

mutual
  pub clear-expression : (o : OpenRanges) (P : Permitted) (s : Scope) → ScopeCovered o P s
      → (e : Expr) → allowed_e P e ≡ true → within_e o e ≡ true → ClearE s e
  clear-expression o P s h (Expr.constant z) a w = tt
  clear-expression o P s h (Expr.column i c) a w = tt
  clear-expression o P s h (Expr.operation op x y) a w =
      let (p, q) = and_parts (allowed_e P x) (allowed_e P y) a in
      let (r, d) = and_parts (within32 (range o (Expr.operation op x y))) (within_e o x && within_e o y) w in
      let (j, k) = and_parts (within_e o x) (within_e o y) d in
      (clear-expression o P s h x p j, clear-expression o P s h y q k, value-held o P s h (Expr.operation op x y) a w)
  clear-expression o P s h (Expr.rounding m x) a w =
      let (r, j) = and_parts (within32 (range o (Expr.rounding m x))) (within_e o x) w in
      (clear-expression o P s h x a j, value-held o P s h (Expr.rounding m x) a w)
  clear-expression o P s h (Expr.choice c x y) a w =
      let (p, q) = and_parts (allowed_c P c) (allowed_e P x && allowed_e P y) a in
      let (t, u) = and_parts (allowed_e P x) (allowed_e P y) q in
      let (b, d) = and_parts (within_c o c) (within_e o x && within_e o y) w in
      let (j, k) = and_parts (within_e o x) (within_e o y) d in
      (clear-condition o P s h c p b, clear-expression o P s h x t j, clear-expression o P s h y u k)
  clear-expression o P s h (Expr.aggregate op x) a w =
      let (p, q) = and_parts P.aggregates (allowed_e inside_aggregate x) a in
      let (r, j) = and_parts (within32 (range o (Expr.aggregate op x))) (within_e o x) w in
      let g = h.group p in
      let f : Combination → Value = λ m. value (alone s.relations m) x in
      let is : All (Inside (range o x)) (map f s.group) =
      all-image f (λ m k. value-inside o inside_aggregate (alone s.relations m) (inside-covered o s.relations m k) x q) g.columns in (
        all_map (λ m k. clear-expression o inside_aggregate (alone s.relations m) (inside-covered o s.relations m k) x q j) g.columns,
        λ n. tally-held (range o (Expr.aggregate op x)) r
            (aggregated-tally op o.bound (range o x) (rw (length-take n (map f s.group), length-map s.group f) (omega (arith, g.size))) (all_take n is)),
      )

  pub clear-condition : (o : OpenRanges) (P : Permitted) (s : Scope) → ScopeCovered o P s
      → (c : Cond) → allowed_c P c ≡ true → within_c o c ≡ true → ClearC s c
  clear-condition o P s h Cond.always a w = tt
  clear-condition o P s h (Cond.comparison op x y) a w =
      let (p, q) = and_parts (allowed_e P x) (allowed_e P y) a in
      let (j, k) = and_parts (within_e o x) (within_e o y) w in
      (clear-expression o P s h x p j, clear-expression o P s h y q k)
  clear-condition o P s h (Cond.negated c) a w = clear-condition o P s h c a w
  clear-condition o P s h (Cond.connection op c d) a w =
      let (p, q) = and_parts (allowed_c P c) (allowed_c P d) a in
      let (j, k) = and_parts (within_c o c) (within_c o d) w in
      (clear-condition o P s h c p j, clear-condition o P s h d q k)
  clear-condition o P s h (Cond.exists i c) a w =
      let (p, q) = and_parts P.exists (allowed_c in_where c) a in
      let x = opened_ranges o i in
      let k : RelationsCovered x s.relations = record { at = (h.relations p).at } in
      all_map (λ r e.
      clear-condition x in_where (opened s r)
      (alone-covered x in_where refl s.relations (λ _. k) (s.items ++ (r ∷ [])) (each_append (h.every-item p) (Each.cons e Each.nil))) c q w)
      ((h.relations p).at i)

-- ---- a select list

module _ (o : OpenRanges) (P : Permitted) (s : Scope) (h : ScopeCovered o P s)
    (es : List Expr) (a : all (allowed_e P) es ≡ true) where
  pub selected-inside : Each Inside (map (range o) es) (selected es s)
  selected-inside = each-images (range o) (value s) (all_map (value-inside o P s h) (all-test (allowed_e P) es a))

  pub selected-clear : all (within_e o) es ≡ true → All (ClearE s) es
  selected-clear w = all_map (λ e p. clear-expression o P s h e p.0 p.1)
      (all_both (all-test (allowed_e P) es a) (all-test (within_e o) es w))
