-- What skipping a form comes to, by its token.
-- Assumes nothing.
use mathlib.Core.Path.{◌≡◌, refl, sym, ap, ◌∙◌}
use mathlib.Core.Bool.{Bool, true, ◌&&◌}
use mathlib.Core.List.{List, [], ◌∷◌}
use Prim.Native.Nat.{ℕ, ◌+◌, ◌≤◌, ◌<◌}
use native.Mathlib.Omega.{arith}
use lib.Dec.{ltb, leb, eqb}
use lib.ListN.{length, get_or}
use borrow.Author.Tests.{ne_eqb, eqb-true, eqb-false, le-leb, ltb-true, lt-ltb, le-ltb}
use Rattle.value.proofs.Decides.{by-test}
use Rattle.value.proofs.Places.{from_byte}
use Rattle.value.specs.Value.{aggregate_at, Operation, Comparison, Connective}
use Rattle.meaning.specs.Syntax.{Expr, Cond}
use Rattle.language.specs.Reading.{Reader, Open, opened_item, done, ◌>>=◌, byte, byte_if, two_bytes, step, place, choose, existing, expressions, conditions, read_e, read_c}
use Rattle.language.proofs.PrefixForms.{read_e-step, read_c-step}
use Rattle.prefix.specs.Skipped.{FormEnd, skip_of, skipped, twice, open_of, opened_setting, behind_e, behind_c}
use Rattle.prefix.specs.declared.Setting.{Setting}
use Rattle.meaning.proofs.Listed.{length-listed}
use Rattle.catalog.specs.Relations.{width_at}
use Rattle.catalog.specs.Items.{relations_in, open_in}
use Rattle.catalog.proofs.ItemLaws.{widths-number, opened-more, opened-open}
use Rattle.prefix.proofs.Fields.{if-next, if-passed}
use Rattle.prefix.proofs.Ends.{field-if}
use Rattle.prefix.proofs.Skips.{Level, level-refl, level-done, level-bind, level-at, next-is, then-further, then-stop}
use Rattle.catalog.specs.declared.relation.Relation.{Relation}

-- a token that is not the least of those left
pub past : {k t : ℕ} → k ≤ t → (t ≡ k → ⊥) → k + 1 ≤ t
past h n = omega arith

module _ (o : Open) where
  abbrev E : Reader Expr
  E = read_e o

  abbrev C : Reader Cond
  C = read_c o

  -- two trees that one node holds
  two-trees : {A : Type 0} (f : Expr → Expr → A) → Level (E >>= λ a. E >>= λ b. done (f a b)) (twice E)
  unfolding twice
  two-trees f = level-bind E (λ a. level-done E (f a))

  connected : (f : Cond → Cond → Cond) → Level (C >>= λ s. C >>= λ t. done (f s t)) (twice C)
  unfolding twice
  connected f = level-bind C (λ s. level-done C (f s))

  -- ---- behind each token
  module _ (frame : List ℕ) (at t : ℕ) where
    abbrev OnE : {A : Type 0} → ℕ → Reader A → Type 0
    OnE k m = t ≡ k → skipped frame at (behind_e o t) ≡ skipped frame at m

    abbrev OnC : {A : Type 0} → ℕ → Reader A → Type 0
    OnC k m = t ≡ k → skipped frame at (behind_c o t) ≡ skipped frame at m

    on_e : {A : Type 0} (k : ℕ) {m : Reader A} → Level (choose (expressions o E C) k) m → OnE k m
    unfolding behind_e
    on_e k l e = rw e (level-at frame at l)

    on_c : {A : Type 0} (k : ℕ) {m : Reader A} → Level (choose (conditions o E read_c) k) m → OnC k m
    unfolding behind_c
    on_c k l e = rw e (level-at frame at l)

    pub on-constant : OnE 0x00 two_bytes
    on-constant = on_e 0x00 (level-bind byte (λ h. level-bind byte (λ l. record { same = λ _ _. refl })))

    pub on-place : OnE 0x01 (place o.widths)
    on-place = on_e 0x01 level-refl

    on-sum : OnE 0x02 (twice E)
    on-sum = on_e 0x02 (two-trees (Expr.operation Operation.sum))

    on-difference : OnE 0x03 (twice E)
    on-difference = on_e 0x03 (two-trees (Expr.operation Operation.difference))

    on-product : OnE 0x04 (twice E)
    on-product = on_e 0x04 (two-trees (Expr.operation Operation.product))

    pub on-operation : (t ≡ 0x00 → ⊥) → (t ≡ 0x01 → ⊥) → t ≤ 0x04 → skipped frame at (behind_e o t) ≡ skipped frame at (twice E)
    on-operation a b h =
        by-test (eqb t 0x02)
        (λ e. on-sum (eqb-true t 0x02 e))
        (λ n. by-test (eqb t 0x03)
        (λ e. on-difference (eqb-true t 0x03 e))
        (λ m. let p = eqb-false t 0x02 n in let q = eqb-false t 0x03 m in on-product (omega arith)))

    pub on-rounding : OnE 0x05 (step >>= λ _. E)
    on-rounding = on_e 0x05 (level-bind step (λ m. level-done E (Expr.rounding m)))

    pub on-choice : OnE 0x06 (C >>= λ _. twice E)
    on-choice = on_e 0x06 (level-bind C (λ c. two-trees (Expr.choice c)))

    pub on-aggregate : OnE 0x07 (byte_if 5 (λ b. leb 0 b && leb b 3) >>= λ _. E)
    on-aggregate = on_e 0x07 (record { same = go })
      where
        node : ℕ → Reader Expr
        node n = E >>= λ a. done (Expr.aggregate (aggregate_at n) a)

        go : (frame bs : List ℕ) → skip_of frame ((byte_if 5 (λ n. leb n 3) >>= node) bs) ≡ skip_of frame ((byte_if 5 (λ b. leb 0 b && leb b 3) >>= λ _. E) bs)
        go frame [] = refl
        go frame (b ∷ bs) =
            let z : leb 0 b ≡ true = le-leb 0 b (omega arith) in
            rw z ((level-bind (byte_if 5 (λ n. leb n 3)) (λ n. level-done E (Expr.aggregate (aggregate_at n)))).same frame (b ∷ bs))

    pub unknown_e : 8 ≤ t → skipped frame at (behind_e o t) ≡ FormEnd.refused 4
    unfolding skipped behind_e
    unknown_e h =
        rw (
          ne_eqb t 0x00 (λ e. omega arith),
          ne_eqb t 0x01 (λ e. omega arith),
          ne_eqb t 0x02 (λ e. omega arith),
          ne_eqb t 0x03 (λ e. omega arith),
          ne_eqb t 0x04 (λ e. omega arith),
          ne_eqb t 0x05 (λ e. omega arith),
          ne_eqb t 0x06 (λ e. omega arith),
          ne_eqb t 0x07 (λ e. omega arith),
        )

    pub on-always : at ≤ length frame → t ≡ 0x10 → skipped frame at (behind_c o t) ≡ FormEnd.next at
    on-always h e = on_c 0x10 {m = done Cond.always} level-refl e ∙ next-is frame (done Cond.always) at at h refl

    on-equal : OnC 0x11 (twice E)
    on-equal = on_c 0x11 (two-trees (Cond.comparison Comparison.equal))

    on-less : OnC 0x12 (twice E)
    on-less = on_c 0x12 (two-trees (Cond.comparison Comparison.less))

    on-less-equal : OnC 0x13 (twice E)
    on-less-equal = on_c 0x13 (two-trees (Cond.comparison Comparison.less_equal))

    pub on-comparison : 0x11 ≤ t → t ≤ 0x13 → skipped frame at (behind_c o t) ≡ skipped frame at (twice E)
    on-comparison l h =
        by-test (eqb t 0x11)
        (λ e. on-equal (eqb-true t 0x11 e))
        (λ n. by-test (eqb t 0x12)
        (λ e. on-less (eqb-true t 0x12 e))
        (λ m. let p = eqb-false t 0x11 n in let q = eqb-false t 0x12 m in on-less-equal (omega arith)))

    pub on-negated : OnC 0x14 C
    on-negated = on_c 0x14 (level-done C Cond.negated)

    on-conjunction : OnC 0x15 (twice C)
    on-conjunction = on_c 0x15 (connected (Cond.connection Connective.conjunction))

    on-disjunction : OnC 0x16 (twice C)
    on-disjunction = on_c 0x16 (connected (Cond.connection Connective.disjunction))

    pub on-connection : 0x15 ≤ t → t ≤ 0x16 → skipped frame at (behind_c o t) ≡ skipped frame at (twice C)
    on-connection l h =
        by-test (eqb t 0x15)
        (λ e. on-conjunction (eqb-true t 0x15 e))
        (λ n. let p = eqb-false t 0x15 n in on-disjunction (omega arith))

    pub on-exists : OnC 0x17 (existing o read_c)
    on-exists = on_c 0x17 level-refl

    pub unknown_c : (0x10 ≤ t → 0x18 ≤ t) → skipped frame at (behind_c o t) ≡ FormEnd.refused 4
    unfolding skipped behind_c
    unknown_c h =
        rw (
          ne_eqb t 0x10 (λ e. no-token (omega arith) (omega arith)),
          ne_eqb t 0x11 (λ e. no-token (omega arith) (omega arith)),
          ne_eqb t 0x12 (λ e. no-token (omega arith) (omega arith)),
          ne_eqb t 0x13 (λ e. no-token (omega arith) (omega arith)),
          ne_eqb t 0x14 (λ e. no-token (omega arith) (omega arith)),
          ne_eqb t 0x15 (λ e. no-token (omega arith) (omega arith)),
          ne_eqb t 0x16 (λ e. no-token (omega arith) (omega arith)),
          ne_eqb t 0x17 (λ e. no-token (omega arith) (omega arith)),
        )
      where
        no-token : 0x10 ≤ t → t ≤ 0x17 → ⊥
        no-token p q = omega (arith, h p)

  -- ---- a form
  module _ (frame : List ℕ) (at : ℕ) where
    module _ (lt : at < length frame) where
      pub form_e : skipped frame at E ≡ skipped frame (at + 1) (behind_e o (get_or frame at 0))
      unfolding skipped behind_e
      form_e = ap (λ bs. skip_of frame (E bs)) (from_byte frame at lt) ∙ ap (skip_of frame) (read_e-step o _ _)

      pub form_c : skipped frame at C ≡ skipped frame (at + 1) (behind_c o (get_or frame at 0))
      unfolding skipped behind_c
      form_c = ap (λ bs. skip_of frame (C bs)) (from_byte frame at lt) ∙ ap (skip_of frame) (read_c-step o _ _)

-- ---- exists

module _ (frame : List ℕ) (at : ℕ) (o : Open) where
  -- a seventh item, whatever stands behind the token
  pub exists-full : 6 ≤ length o.widths → skipped frame at (existing o read_c) ≡ FormEnd.refused 5
  unfolding skipped
  exists-full h = rw (le-ltb (length o.widths) 6 h)

  module _ (h : length o.widths < 6) {n : ℕ} {r : FormEnd} (e : r ≡ skipped frame at (byte_if 6 (λ i. ltb i (length o.relations)))) where
    pub exists-next : r ≡ FormEnd.next n → skipped frame at (existing o read_c) ≡ skipped frame n (read_c (opened_item o (get_or frame at 0)))
    exists-next k =
        rw (lt-ltb (length o.widths) 6 h)
        (if-next frame at 6 (λ i. ltb i (length o.relations)) e k (λ i. read_c (opened_item o i) >>= λ t. done (Cond.exists i t))
        ∙ level-at frame n (level-done (read_c (opened_item o (get_or frame at 0))) (Cond.exists (get_or frame at 0))))

    pub exists-stop : r ≡ FormEnd.refused n → skipped frame at (existing o read_c) ≡ FormEnd.refused n
    exists-stop k = rw (lt-ltb (length o.widths) 6 h) (then-stop frame (byte_if 6 (λ i. ltb i (length o.relations))) _ at n e k)

-- in relations
module _ (frame : List ℕ) (at : ℕ) (relations : List Relation) (s : Setting) where
  abbrev X : Open
  X = open_of relations s

  pub open-number : length X.widths ≡ s.items.number
  open-number = sym (widths-number s.items relations)

  relation-test : {r : FormEnd} → r ≡ skipped frame at (byte_if 6 (λ b. ltb b s.earlier)) → r ≡ skipped frame at (byte_if 6 (λ b. ltb b (length X.relations)))
  relation-test e = e ∙ ap (λ k. skipped frame at (byte_if 6 (λ b. ltb b k))) (sym (length-listed (width_at relations) s.earlier))

  few : s.items.number < 6 → length X.widths < 6
  few h = omega (arith, open-number)

  pub refused-seventh : 6 ≤ s.items.number → skipped frame at (existing X read_c) ≡ FormEnd.refused 5
  refused-seventh h = exists-full frame at X (omega (arith, open-number))

  module _ (h : s.items.number < 6) {n : ℕ} {r : FormEnd} (e : r ≡ skipped frame at (byte_if 6 (λ b. ltb b s.earlier))) where
    pub looked-next : r ≡ FormEnd.next n → {i : ℕ} → i ≡ get_or frame at 0 → skipped frame at (existing X read_c) ≡ skipped frame n (read_c (open_of relations (opened_setting s i)))
    looked-next k {i} q =
        let b : get_or frame at 0 < s.earlier = ltb-true (get_or frame at 0) s.earlier (if-passed frame at 6 (λ b. ltb b s.earlier) e k).0 in
        exists-next frame at X (few h) (relation-test e) k
        ∙ ap (λ x. skipped frame n (read_c x))
        (opened-open relations s.earlier (relations_in s.items) b
        ∙ ap (open_in relations s.earlier) (sym (opened-more s.items (get_or frame at 0) h)) ∙ ap (λ j. open_of relations (opened_setting s j)) (sym q))

    pub looked-further : r ≡ FormEnd.next n → (at < n) × (n ≤ length frame)
    looked-further k =
        let p : ℕ → Bool = λ b. ltb b s.earlier in
        let q = (if-passed frame at 6 p e k).1 in
        (omega arith, (then-further frame (field-if 6 p) at e k).1)

    pub looked-stop : r ≡ FormEnd.refused n → skipped frame at (existing X read_c) ≡ FormEnd.refused n
    looked-stop k = exists-stop frame at X (few h) (relation-test e) k
