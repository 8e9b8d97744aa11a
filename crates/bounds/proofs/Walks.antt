-- What a walk answers at each token, from what it answers of the parts: one law for each kind of token. Assumes nothing.
use Rattle.std.specs.Prelude.{Option, None}
use mathlib.Core.Path.{◌≡◌, refl, sym, ap, ap₂, subst, ◌∙◌}
use mathlib.Core.Bool.{Bool, true, false, ◌&&◌}
use mathlib.Core.List.{List, [], ◌∷◌, ◌++◌}
use Prim.Native.Nat.{ℕ, zero, suc, ◌+◌, ◌*◌, ◌-◌, ◌≤◌, ◌<◌}
use native.Mathlib.Numerals.{add-one}
use native.Mathlib.Omega.{arith}
use lib.Dec.{eqb, leb}
use lib.ListN.{length, get_or, drop, drop_of_length-le}
use lib.Seq.{drop-cons}
use borrow.Author.Tests.{ne_eqb}
use Rattle.value.specs.Integer.{bytes_z}
use Rattle.value.specs.Value.{operation_at, comparison_at, connective_at, aggregate_at}
use Rattle.range.specs.Ranges.{ranged, constant_of}
use Rattle.range.specs.declared.Range.{Range}
use Rattle.meaning.specs.Syntax.{Expr, Cond}
use Rattle.language.specs.Prefix.{operation_token, comparison_token, connective_token}
use Rattle.language.specs.Reading.{Read, Open, byte, byte_if, step, choose, expressions, conditions, read_e, read_c}
use Rattle.meaning.specs.Bounds.{OpenRanges, within_c, allowed_e, allowed_c}
use Rattle.language.proofs.Readers.{then_ok}
use Rattle.language.proofs.PrefixForms.{read_e-nil, read_c-nil, read_e-step, read_c-step, read_e-operation, read_c-comparison, read_c-connection}
use Rattle.catalog.specs.Items.{open_in, open_ranges_in}
use Rattle.bounds.specs.Walk.{permitted_of, is_grouped, is_where, inside_of, where_of, ranged_e, operated_r, rounded_r, chosen_r, aggregated_r, is_within, sized, tested, column_sized, SizesE, SizesTwo, TestsC}
use Rattle.bounds.specs.declared.Rule.{Rule}
use Rattle.bounds.specs.declared.Sized.{Sized}
use Rattle.bounds.specs.declared.TwoSized.{TwoSized}
use Rattle.bounds.specs.declared.Tested.{Tested}
use Rattle.bounds.proofs.Columns.{aggregates-are, exists-are}
use Rattle.bounds.proofs.Fields.{settle, never, byte-ok, two-read, step-at, column-at, kind_at, exists-at}
use Rattle.catalog.proofs.ItemLaws.{few-items, relation-before, opened-open, opened-ranges}
use Rattle.bounds.proofs.Parts.{ranged-constant, ranged-column, ranged-operation, ranged-rounding, ranged-choice, ranged-aggregate, ranged-is}
use Rattle.catalog.specs.declared.relation.Relation.{Relation}

-- ---- a token's kind

operation-token : (k : ℕ) → k < 3 → 0x02 + k ≡ operation_token (operation_at k)
operation-token zero h = refl
operation-token (suc zero) h = refl
operation-token (suc (suc k)) h = let z : k ≡ 0 = omega arith in rw z

comparison-token : (k : ℕ) → k < 3 → 0x11 + k ≡ comparison_token (comparison_at k)
comparison-token zero h = refl
comparison-token (suc zero) h = refl
comparison-token (suc (suc k)) h = let z : k ≡ 0 = omega arith in rw z

connective-token : (k : ℕ) → k < 2 → 0x15 + k ≡ connective_token (connective_at k)
connective-token zero h = refl
connective-token (suc k) h = let z : k ≡ 0 = omega arith in rw z

module _ (frame items : List ℕ) (relations : List Relation) (rule : Rule) where
  -- n relations being before the view
  abbrev W : ℕ → Open
  W n = open_in relations n items

  abbrev I : ℕ → OpenRanges
  I n = open_ranges_in relations n items rule.bound

  -- what is known of an expression that was read, and of a condition
  abbrev FactsE : ℕ → Sized → Expr → List ℕ → Type 0
  FactsE n r e rest =
      (drop r.next frame ≡ rest) × (r.allowed ≡ allowed_e (permitted_of frame rule) e) × (r.range ≡ ranged_e (I n) e)

  abbrev FactsC : ℕ → Tested → Cond → List ℕ → Type 0
  FactsC n r c rest =
      (drop r.next frame ≡ rest) × (r.allowed ≡ allowed_c (permitted_of frame rule) c) × (r.within ≡ within_c (I n) c)

  module _ (at : ℕ) where
    pub two-in-turn : {a b : Sized} → SizesE frame at items relations rule a → SizesE frame a.next items relations rule b
        → SizesTwo frame at items relations rule (record { next = b.next; allowed = a.allowed && b.allowed; first = a.range; second = b.range })
    two-in-turn p q = record {
      further = omega (arith, p.further, q.further);
      sizes = λ n x y mid rest h k.
          let l = p.sizes n x mid h in
          let m = q.sizes n y rest (ap (read_e (W n)) l.0 ∙ k) in
          (m.0, ap₂ ◌&&◌ l.1 m.1, l.2, m.2);
    }

    pub end_e : length frame ≤ at → {r : Sized} → r ≡ sized at false None → SizesE frame at items relations rule r
    end_e p s = rw s (record {
      further = omega arith;
      no-token = λ _. refl;
      sizes = λ n e rest q. never (sym (ap (read_e (W n)) (drop_of_length-le frame p) ∙ read_e-nil (W n)) ∙ q);
    })

    pub end_c : length frame ≤ at → {r : Tested} → r ≡ tested at false false → TestsC frame at items relations rule r
    end_c p s = rw s (record {
      further = omega arith;
      no-token = λ _. refl;
      tests = λ n c rest q. never (sym (ap (read_c (W n)) (drop_of_length-le frame p) ∙ read_c-nil (W n)) ∙ q);
    })

    module _ (lt : at < length frame) where
      abbrev body : List ℕ
      body = drop (at + 1) frame

      token : (t : ℕ) → get_or frame at 0 ≡ t → drop at frame ≡ t ∷ body
      token t e = drop-cons frame at 0 lt ∙ rw (e, add-one)

      on_e : {x : ℕ → Read Expr} {r : Sized} → ((n : ℕ) → read_e (W n) (drop at frame) ≡ x n) → at ≤ r.next → get_or frame at 0 < 0x08
          → ((n : ℕ) (e : Expr) (rest : List ℕ) → x n ≡ Read.ok e rest → FactsE n r e rest) → SizesE frame at items relations rule r
      on_e h le known f = record { further = le; no-token = λ n. absurd (omega (arith, n lt)); sizes = λ n e rest q. f n e rest (sym (h n) ∙ q) }

      on_c : {x : ℕ → Read Cond} {r : Tested} → ((n : ℕ) → read_c (W n) (drop at frame) ≡ x n) → at ≤ r.next
          → 0x10 ≤ get_or frame at 0 → get_or frame at 0 < 0x18
          → ((n : ℕ) (c : Cond) (rest : List ℕ) → x n ≡ Read.ok c rest → FactsC n r c rest) → TestsC frame at items relations rule r
      on_c h le low high f = record { further = le; no-token = λ n. absurd (n lt low high); tests = λ n c rest q. f n c rest (sym (h n) ∙ q) }

      at_e : (t : ℕ) → get_or frame at 0 ≡ t → (n : ℕ) → read_e (W n) (drop at frame) ≡ choose (expressions (W n) (read_e (W n)) (read_c (W n))) t body
      at_e t k n = ap (read_e (W n)) (token t k) ∙ read_e-step (W n) t body

      at_c : (t : ℕ) → get_or frame at 0 ≡ t → (n : ℕ) → read_c (W n) (drop at frame) ≡ choose (conditions (W n) (read_e (W n)) read_c) t body
      at_c t k n = ap (read_c (W n)) (token t k) ∙ read_c-step (W n) t body

      -- ---- expressions
      pub on-constant : get_or frame at 0 ≡ 0x00
          → {r : Sized} → r ≡ sized (at + 1 + 2) true (ranged (constant_of (bytes_z (get_or frame (at + 1) 0) (get_or frame (at + 1 + 1) 0))))
          → SizesE frame at items relations rule r
      on-constant k s = rw s (on_e (at_e 0x00 k) (omega arith) (omega arith) (λ n e rest q.
          let (h, l, p, j) = then_ok (byte body) _ q in
          let (g, m, u, z) = then_ok (byte l) _ j in
          let t = two-read frame (at + 1) (byte-ok body p) (byte-ok l u) in
          settle (FactsE n (sized (at + 1 + 2) true (ranged (constant_of (bytes_z (get_or frame (at + 1) 0) (get_or frame (at + 1 + 1) 0)))))) z
          (t.behind, refl, ap₂ (λ i j. ranged (constant_of (bytes_z i j))) t.first t.second ∙ ranged-constant (I n) (bytes_z h g))))

      pub on-column : get_or frame at 0 ≡ 0x01 → {r : Sized} → r ≡ column_sized frame (at + 1) items relations rule → SizesE frame at items relations rule r
      on-column k s = rw s (on_e (at_e 0x01 k) (omega arith) (omega arith) (λ n e rest q.
          let t = column-at frame (W n).widths (at + 1) q in
          rw t.0 (t.1, refl, ranged-column relations n items rule.bound (get_or frame (at + 1) 0) (get_or frame (at + 1 + 1) 0))))

      pub on-operation : 0x02 ≤ get_or frame at 0 → get_or frame at 0 < 0x05 → {p : TwoSized} → SizesTwo frame (at + 1) items relations rule p
          → {v : Option Range} → v ≡ operated_r (operation_at (get_or frame at 0 - 0x02)) p.first p.second
          → {r : Sized} → r ≡ sized p.next p.allowed v → SizesE frame at items relations rule r
      on-operation lo hi {p} m {v} x s =
          let op = operation_at (get_or frame at 0 - 0x02) in
          let k : get_or frame at 0 ≡ 0x02 + (get_or frame at 0 - 0x02) = omega arith in
          let i : get_or frame at 0 ≡ operation_token op = k ∙ operation-token (get_or frame at 0 - 0x02) (omega arith) in
          rw s (on_e (λ n. ap (read_e (W n)) (token (operation_token op) i) ∙ read_e-operation (W n) op body)
          (omega (arith, m.further)) (omega arith) (λ n e rest q.
          let (a, l, y, j) = then_ok (read_e (W n) body) _ q in
          let (b, l', u, z) = then_ok (read_e (W n) l) _ j in
          let f = m.sizes n a b l l' y u in
          settle (FactsE n (sized p.next p.allowed v)) z
          (f.0, f.1, x ∙ ap₂ (operated_r op) f.2 f.3 ∙ ranged-operation (I n) op a b)))

      pub on-rounding : get_or frame at 0 ≡ 0x05 → {a : Sized} → SizesE frame (at + 1 + 2) items relations rule a
          → {m : ℕ} → m ≡ get_or frame (at + 1) 0 * 256 + get_or frame (at + 1 + 1) 0
          → {r : Sized} → r ≡ sized a.next a.allowed (rounded_r m a.range) → SizesE frame at items relations rule r
      on-rounding k {a} d {m} e s = rw s (on_e (at_e 0x05 k) (omega (arith, d.further)) (omega arith) (λ n y rest q.
          let (g, l, h, j) = then_ok (step body) _ q in
          let (b, o, u, z) = then_ok (read_e (W n) l) _ j in
          let t = step-at frame (at + 1) h in
          let f = d.sizes n b o (ap (read_e (W n)) t.behind ∙ u) in
          settle (FactsE n (sized a.next a.allowed (rounded_r m a.range))) z
          (f.0, f.1, ap₂ rounded_r (e ∙ sym t.number) f.2 ∙ ranged-rounding (I n) g b)))

      pub on-choice : get_or frame at 0 ≡ 0x06 → {c : Tested} → TestsC frame (at + 1) items relations rule c
          → {p : TwoSized} → SizesTwo frame c.next items relations rule p
          → {r : Sized} → r ≡ sized p.next (c.allowed && p.allowed) (chosen_r c.within p.first p.second) → SizesE frame at items relations rule r
      on-choice k {c} d {p} m s = rw s (on_e (at_e 0x06 k) (omega (arith, d.further, m.further)) (omega arith) (λ n y rest q.
          let (t, l, h, j) = then_ok (read_c (W n) body) _ q in
          let (a, l', u, i) = then_ok (read_e (W n) l) _ j in
          let (b, o, w, z) = then_ok (read_e (W n) l') _ i in
          let g = d.tests n t l h in
          let f = m.sizes n a b l' o (ap (read_e (W n)) g.0 ∙ u) w in
          let v : chosen_r c.within p.first p.second ≡ chosen_r (within_c (I n) t) (ranged_e (I n) a) (ranged_e (I n) b) =
          rw (g.2, f.2, f.3) in
          settle (FactsE n (sized p.next (c.allowed && p.allowed) (chosen_r c.within p.first p.second))) z
          (f.0, ap₂ ◌&&◌ g.1 f.1, v ∙ ranged-choice (I n) t a b)))

      pub on-aggregate : get_or frame at 0 ≡ 0x07 → {kind : ℕ} → kind ≡ get_or frame (at + 1) 0 → {inner : Rule} → inner ≡ inside_of rule
          → {a : Sized} → SizesE frame (at + 1 + 1) items relations inner a
          → {r : Sized} → r ≡ sized a.next (is_grouped rule.part && a.allowed) (aggregated_r (aggregate_at kind) rule.bound a.range) → SizesE frame at items relations rule r
      unfolding permitted_of
      on-aggregate k {kind} e {inner} i {a} d' s =
          let d : SizesE frame (at + 1 + 1) items relations (inside_of rule) a = rw i at d' in
          rw s (on_e (at_e 0x07 k) (omega (arith, d.further)) (omega arith) (λ n y rest q.
          let here : ℕ → Bool = λ b. leb b 3 in
          let (o, l, h, j) = then_ok (byte_if 5 here body) _ q in
          let (b, w, u, z) = then_ok (read_e (W n) l) _ j in
          let t = kind_at frame (at + 1) here h in
          let f = d.sizes n b w (ap (read_e (W n)) t.1 ∙ u) in
          settle (FactsE n (sized a.next (is_grouped rule.part && a.allowed) (aggregated_r (aggregate_at kind) rule.bound a.range))) z
          (f.0, ap₂ ◌&&◌ (sym (aggregates-are frame rule)) f.1, ap₂ (λ c g. aggregated_r (aggregate_at c) rule.bound g) (e ∙ t.0) f.2 ∙ ranged-aggregate (I n) (aggregate_at o) b)))

      -- a token past the last
      other : (t k : ℕ) → 0x08 ≤ t → k < 0x08 → eqb t k ≡ false
      other t k h l = ne_eqb t k (λ e. omega arith)

      pub unknown_e : 0x08 ≤ get_or frame at 0 → {r : Sized} → r ≡ sized at false None → SizesE frame at items relations rule r
      unknown_e h s = rw s (record {
        further = omega arith;
        no-token = λ _. refl;
        sizes = λ n e rest q. never (sym (at_e (get_or frame at 0) refl n ∙ none_of n (get_or frame at 0) h) ∙ q);
      })
        where
          none_of : (n t : ℕ) → 0x08 ≤ t → choose (expressions (W n) (read_e (W n)) (read_c (W n))) t body ≡ Read.refused 4
          none_of n t l =
              rw (
                other t 0x00 l (omega arith),
                other t 0x01 l (omega arith),
                other t 0x02 l (omega arith),
                other t 0x03 l (omega arith),
                other t 0x04 l (omega arith),
                other t 0x05 l (omega arith),
                other t 0x06 l (omega arith),
                other t 0x07 l (omega arith),
              )

      -- ---- conditions
      pub on-always : get_or frame at 0 ≡ 0x10 → {r : Tested} → r ≡ tested (at + 1) true true → TestsC frame at items relations rule r
      on-always k s = rw s (on_c (at_c 0x10 k) (omega arith) (omega arith) (omega arith) (λ n c rest q.
          settle (FactsC n (tested (at + 1) true true)) q (refl, refl, refl)))

      pub on-comparison : 0x11 ≤ get_or frame at 0 → get_or frame at 0 < 0x14 → {p : TwoSized} → SizesTwo frame (at + 1) items relations rule p
          → {u w : Bool} → u ≡ is_within p.first → w ≡ is_within p.second
          → {r : Tested} → r ≡ tested p.next p.allowed (u && w) → TestsC frame at items relations rule r
      on-comparison lo hi {p} m {u} {w} x y s =
          let op = comparison_at (get_or frame at 0 - 0x11) in
          let k : get_or frame at 0 ≡ 0x11 + (get_or frame at 0 - 0x11) = omega arith in
          let i : get_or frame at 0 ≡ comparison_token op = k ∙ comparison-token (get_or frame at 0 - 0x11) (omega arith) in
          rw s (on_c (λ n. ap (read_c (W n)) (token (comparison_token op) i) ∙ read_c-comparison (W n) op body)
          (omega (arith, m.further)) (omega arith) (omega arith) (λ n c rest q.
          let (a, l, g, j) = then_ok (read_e (W n) body) _ q in
          let (b, l', h, z) = then_ok (read_e (W n) l) _ j in
          let f = m.sizes n a b l l' g h in
          settle (FactsC n (tested p.next p.allowed (u && w))) z
          (f.0, f.1, ap₂ ◌&&◌ (x ∙ ap is_within f.2 ∙ ranged-is (I n) a) (y ∙ ap is_within f.3 ∙ ranged-is (I n) b))))

      pub on-negated : get_or frame at 0 ≡ 0x14 → {r : Tested} → TestsC frame (at + 1) items relations rule r → TestsC frame at items relations rule r
      on-negated k {r} d = on_c (at_c 0x14 k) (omega (arith, d.further)) (omega arith) (omega arith) (λ n c rest q.
          let (t, l, h, z) = then_ok (read_c (W n) body) _ q in
          settle (FactsC n r) z (d.tests n t l h))

      pub on-connection : 0x15 ≤ get_or frame at 0 → get_or frame at 0 < 0x17 → {a : Tested} → TestsC frame (at + 1) items relations rule a
          → {b : Tested} → TestsC frame a.next items relations rule b
          → {r : Tested} → r ≡ tested b.next (a.allowed && b.allowed) (a.within && b.within) → TestsC frame at items relations rule r
      on-connection lo hi {a} d {b} m s =
          let op = connective_at (get_or frame at 0 - 0x15) in
          let k : get_or frame at 0 ≡ 0x15 + (get_or frame at 0 - 0x15) = omega arith in
          let i : get_or frame at 0 ≡ connective_token op = k ∙ connective-token (get_or frame at 0 - 0x15) (omega arith) in
          rw s (on_c (λ n. ap (read_c (W n)) (token (connective_token op) i) ∙ read_c-connection (W n) op body)
          (omega (arith, d.further, m.further)) (omega arith) (omega arith) (λ n c rest q.
          let (t, l, g, j) = then_ok (read_c (W n) body) _ q in
          let (u, l', h, z) = then_ok (read_c (W n) l) _ j in
          let f = d.tests n t l g in
          let e = m.tests n u l' (ap (read_c (W n)) f.0 ∙ h) in
          settle (FactsC n (tested b.next (a.allowed && b.allowed) (a.within && b.within))) z
          (e.0, ap₂ ◌&&◌ f.1 e.1, ap₂ ◌&&◌ f.2 e.2)))

      pub on-exists : get_or frame at 0 ≡ 0x17 → {more : List ℕ} → (length items < 6 → more ≡ items ++ (get_or frame (at + 1) 0 ∷ []))
          → {inner : Rule} → inner ≡ where_of rule → {a : Tested} → TestsC frame (at + 1 + 1) more relations inner a
          → {r : Tested} → r ≡ tested a.next (is_where rule.part && a.allowed) a.within
          → TestsC frame at items relations rule r
      unfolding permitted_of
      on-exists k {more} o {inner} i {a} d s =
          rw s (on_c (at_c 0x17 k) (omega (arith, d.further)) (omega arith) (omega arith) (λ n c rest q.
          let x = exists-at frame (W n) (at + 1) q in
          let before = relation-before relations n items x.before in
          let d' : TestsC frame (at + 1 + 1) (items ++ (get_or frame (at + 1) 0 ∷ [])) relations (where_of rule) a =
          rw (o (few-items relations n items x.few), i) at d in
          let f = d'.tests n x.inner rest (ap (λ w. read_c w (drop (at + 1 + 1) frame)) (sym (opened-open relations n items before)) ∙ x.reads) in
          subst (λ t. FactsC n (tested a.next (is_where rule.part && a.allowed) a.within) t rest) x.is (
            f.0,
            ap₂ ◌&&◌ (sym (exists-are frame rule)) f.1,
            f.2 ∙ ap (λ w. within_c w x.inner) (sym (opened-ranges relations n items before rule.bound)),
          )))

      pub unknown_c : (0x10 ≤ get_or frame at 0 → get_or frame at 0 < 0x18 → ⊥) → {r : Tested} → r ≡ tested at false false → TestsC frame at items relations rule r
      unknown_c h s = rw s (record {
        further = omega arith;
        no-token = λ _. refl;
        tests = λ n c rest q. never (sym (at_c (get_or frame at 0) refl n ∙ none_of n (get_or frame at 0) h) ∙ q);
      })
        where
          not_in : (t k : ℕ) → (0x10 ≤ t → t < 0x18 → ⊥) → 0x10 ≤ k → k < 0x18 → eqb t k ≡ false
          not_in t k out l u = ne_eqb t k (λ e. out (omega arith) (omega arith))

          none_of : (n t : ℕ) → (0x10 ≤ t → t < 0x18 → ⊥) → choose (conditions (W n) (read_e (W n)) read_c) t body ≡ Read.refused 4
          none_of n t out =
              rw (
                not_in t 0x10 out (omega arith) (omega arith),
                not_in t 0x11 out (omega arith) (omega arith),
                not_in t 0x12 out (omega arith) (omega arith),
                not_in t 0x13 out (omega arith) (omega arith),
                not_in t 0x14 out (omega arith) (omega arith),
                not_in t 0x15 out (omega arith) (omega arith),
                not_in t 0x16 out (omega arith) (omega arith),
                not_in t 0x17 out (omega arith) (omega arith),
              )
