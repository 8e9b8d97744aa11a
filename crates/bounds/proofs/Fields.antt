-- The fields behind a token, from what was read. Assumes nothing.
use mathlib.Core.Path.{◌≡◌, refl, ap, ap₂, subst, ◌∙◌}
use mathlib.Core.Bool.{Bool, true, false, ◌&&◌}
use mathlib.Core.List.{List, [], ◌∷◌}
use Prim.Native.Nat.{ℕ, ◌+◌, ◌*◌, ◌<◌}
use native.Mathlib.Omega.{arith}
use lib.Dec.{ltb, leb}
use lib.ListN.{length, get_or, drop}
use borrow.Author.Tests.{ltb-true}
use Rattle.value.proofs.Places.{byte-here, two_here}
use Rattle.meaning.specs.Syntax.{Expr, Cond}
use Rattle.language.specs.Reading.{Read, Reader, Open, opened_item, done, refuse, byte, byte_if, either, two_bytes, step, place, existing, read_c}
use Rattle.language.proofs.Readers.{then_ok}

-- what is known of what was read is known of what it is equal to
pub settle : {A : Type 0} (P : A → List ℕ → Type 0) {a b : A} {l m : List ℕ} → Read.ok a l ≡ Read.ok b m → P a l → P b m
settle P {a} {b} {l} {m} q p = let x : a ≡ b = cc in let y : l ≡ m = cc in subst (λ z. P z m) x (subst (P a) y p)

pub never : {A B : Type 0} {n : ℕ} {a : A} {l : List ℕ} → Read.refused n ≡ Read.ok a l → B
never q = let z : ◌≡◌ {A = ℕ} 0 1 = cc in absurd (omega arith)

pub byte-ok : (bs : List ℕ) {b : ℕ} {l : List ℕ} → byte bs ≡ Read.ok b l → bs ≡ b ∷ l
byte-ok [] q = never q
byte-ok (x ∷ xs) q = settle (λ b l. x ∷ xs ≡ b ∷ l) q refl

either-ok : {A : Type 0} (t : Bool) (m : Reader A) (n : ℕ) (bs : List ℕ) {a : A} {l : List ℕ} → either t m (refuse n) bs ≡ Read.ok a l
    → (t ≡ true) × (m bs ≡ Read.ok a l)
either-ok true m n bs q = (refl, q)
either-ok false m n bs q = never q

byte_if-ok : (n : ℕ) (p : ℕ → Bool) (bs : List ℕ) {b : ℕ} {l : List ℕ} → byte_if n p bs ≡ Read.ok b l → (p b ≡ true) × (bs ≡ b ∷ l)
byte_if-ok n p bs q =
    let (x, m, h, k) = then_ok (byte bs) (λ b. either (p b) (done b) (refuse n)) q in
    let (t, e) = either-ok (p x) (done x) n m k in
    settle (λ b l. (p b ≡ true) × (bs ≡ b ∷ l)) e (t, byte-ok bs h)

-- two bytes stand at i
pub record TwoAt (frame : List ℕ) (i a b : ℕ) (rest : List ℕ) : Type 0 where
  pub first : get_or frame i 0 ≡ a
  pub second : get_or frame (i + 1) 0 ≡ b
  pub behind : drop (i + 2) frame ≡ rest

module _ (frame : List ℕ) where
  -- two bytes that were read one after the other
  pub two-read : (i : ℕ) {a b : ℕ} {l m : List ℕ} → drop i frame ≡ a ∷ l → l ≡ b ∷ m → TwoAt frame i a b m
  two-read i {a} e f =
      let t = two_here frame i (e ∙ ap (λ (l : List ℕ). a ∷ l) f) in
      record { first = t.0; second = t.1; behind = t.2 }

  -- the two bytes of a step
  pub record StepAt (i m : ℕ) (rest : List ℕ) : Type 0 where
    pub number : m ≡ get_or frame i 0 * 256 + get_or frame (i + 1) 0
    pub behind : drop (i + 2) frame ≡ rest

  pub step-at : (i : ℕ) {m : ℕ} {rest : List ℕ} → step (drop i frame) ≡ Read.ok m rest → StepAt i m rest
  step-at i q =
      let (n, mid, h, k) = then_ok (two_bytes (drop i frame)) _ q in
      let (a, l, p, j) = then_ok (byte (drop i frame)) _ h in
      let (b, r, s, e) = then_ok (byte l) _ j in
      let t = two-read i (byte-ok (drop i frame) p) (byte-ok l s) in
      let w : StepAt i (a * 256 + b) r = record { number = rw (t.first, t.second); behind = t.behind } in
      settle (λ x y. StepAt i x y) (e ∙ (either-ok (leb 1 n && leb n 1000) (done n) 5 mid k).1) w

  -- the two bytes of a column
  pub column-at : (cols : List ℕ) (i : ℕ) {e : Expr} {rest : List ℕ} → place cols (drop i frame) ≡ Read.ok e rest
      → (e ≡ Expr.column (get_or frame i 0) (get_or frame (i + 1) 0)) × (drop (i + 2) frame ≡ rest)
  column-at cols i q =
      let there : ℕ → Bool = λ x. ltb x (length cols) in
      let (a, l, p, j) = then_ok (byte_if 6 there (drop i frame)) _ q in
      let has : ℕ → Bool = λ x. ltb x (get_or cols a 0) in
      let (b, r, s, k) = then_ok (byte_if 6 has l) _ j in
      let t = two-read i (byte_if-ok 6 there (drop i frame) p).1 (byte_if-ok 6 has l s).1 in
      let w : (Expr.column a b ≡ Expr.column (get_or frame i 0) (get_or frame (i + 1) 0)) × (drop (i + 2) frame ≡ r) = (rw (t.first, t.second), t.behind) in
      settle (λ x y. (x ≡ Expr.column (get_or frame i 0) (get_or frame (i + 1) 0)) × (drop (i + 2) frame ≡ y)) k w

  -- the kind of an aggregate
  pub kind_at : (i : ℕ) (p : ℕ → Bool) {n : ℕ} {rest : List ℕ} → byte_if 5 p (drop i frame) ≡ Read.ok n rest
      → (get_or frame i 0 ≡ n) × (drop (i + 1) frame ≡ rest)
  kind_at i p q = byte-here frame i (byte_if-ok 5 p (drop i frame) q).1

  -- the relation and the condition behind 17
  pub record ExistsAt (o : Open) (i : ℕ) (c : Cond) (rest : List ℕ) : Type 0 where
    pub few : length o.widths < 6
    pub before : get_or frame i 0 < length o.relations
    pub inner : Cond
    pub reads : read_c (opened_item o (get_or frame i 0)) (drop (i + 1) frame) ≡ Read.ok inner rest
    pub is : Cond.exists (get_or frame i 0) inner ≡ c

  pub exists-at : (o : Open) (i : ℕ) {c : Cond} {rest : List ℕ} → existing o read_c (drop i frame) ≡ Read.ok c rest → ExistsAt o i c rest
  exists-at o i q =
      let here : ℕ → Bool = λ x. ltb x (length o.relations) in
      let (t, j) = either-ok (ltb (length o.widths) 6) _ 5 (drop i frame) q in
      let (x, l, h, k) = then_ok (byte_if 6 here (drop i frame)) _ j in
      let (u, p) = byte_if-ok 6 here (drop i frame) h in
      let (e, b) = byte-here frame i p in
      let (a, m, v, z) = then_ok (read_c (opened_item o x) l) _ k in
      let w : ExistsAt o i (Cond.exists x a) m = record {
        few = ltb-true (length o.widths) 6 t;
        before = rw e (ltb-true x (length o.relations) u);
        inner = a;
        reads = ap₂ (λ y. read_c (opened_item o y)) e b ∙ v;
        is = ap (λ y. Cond.exists y a) e;
      } in
      settle (ExistsAt o i) z w
