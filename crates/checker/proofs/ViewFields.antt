-- The fields of a view's frame, from what was read. Assumes nothing.
use mathlib.Core.Path.{◌≡◌, refl, sym, ap, ap₂, subst, ◌∙◌}
use mathlib.Core.Bool.{Bool, true, ◌&&◌}
use mathlib.Core.List.{List, [], ◌∷◌, ◌++◌}
use Prim.Native.Nat.{ℕ, zero, suc, ◌+◌, ◌*◌, ◌≤◌, ◌<◌}
use native.Mathlib.Omega.{arith}
use lib.Dec.{ltb, leb}
use lib.ListN.{length, get_or, take, drop, drop_of_length-le}
use lib.Seq.{drop-drop, drop-length, length-take-le}
use borrow.Author.Tests.{ltb-true, ltb-false, leb-true}
use Rattle.value.specs.Bag.{All}
use Rattle.value.proofs.Decides.{by-test, and_parts}
use Rattle.value.proofs.Places.{from_byte}
use Rattle.value.proofs.Values.{all_map}
use Rattle.meaning.specs.Syntax.{Expr, Cond, Place, View}
use Rattle.language.specs.Reading.{Read, Reader, done, and_then, ◌>>=◌, byte_if, open_items, read_e, read_c}
use Rattle.language.proofs.Readers.{then_ok}
use Rattle.catalog.specs.Frames.{froms_in, parts_after}
use Rattle.catalog.specs.declared.frames.Parts.{Parts}
use Rattle.bounds.specs.Walk.{places_from}
use Rattle.language.specs.Draft.{Draft, Item, relation_count, schemas_of}
use Rattle.language.specs.Frames.{repeated, field, ending, from_list, place_field, grouped_frame}
use Rattle.checker.proofs.FieldLaws.{at-end}

-- ---- lists

pub drop-as : (frame : List ℕ) (m n : ℕ) → m ≡ n → drop m frame ≡ drop n frame
drop-as frame m n e = ap (λ k. drop k frame) e

pub then_is : {A B : Type 0} {m : Read A} (f : A → Reader B) {a : A} {mid : List ℕ} {x : Read B} → m ≡ Read.ok a mid → f a mid ≡ x → and_then m f ≡ x
then_is f p q = ap (λ z. and_then z f) p ∙ q

pub drop_past : (frame : List ℕ) (at : ℕ) → length frame ≤ at → drop (length frame) frame ≡ drop at frame
drop_past frame at h = drop-length frame ∙ sym (drop_of_length-le frame h)

-- the last of several
pub times_snoc : {A : Type 0} (r : Reader A) (c : ℕ) (bs : List ℕ) (es : List A) (rest : List ℕ) → repeated (suc c) r bs ≡ Read.ok es rest
    → (es₀ : List A) × (e : A) × (mid : List ℕ) × (repeated c r bs ≡ Read.ok es₀ mid) × (r mid ≡ Read.ok e rest) × (es ≡ es₀ ++ (e ∷ []))
times_snoc r zero bs es rest h =
    let (x, mid, p, q) = then_ok (r bs) _ h in
    let s : mid ≡ rest = cc in
    let t : x ∷ [] ≡ es = cc in
    ([], x, bs, refl, p ∙ ap (Read.ok x) s, sym t)
times_snoc r (suc c) bs es rest h =
    let (x, mid, p, q) = then_ok (r bs) _ h in
    let (xs, end, s, t) = then_ok (repeated (suc c) r mid) _ q in
    let a : x ∷ xs ≡ es = cc in
    let b : end ≡ rest = cc in
    let (es₀, e, m, u, v, w) = times_snoc r c mid xs end s in
    (x ∷ es₀, e, m, then_is (λ y. repeated c r >>= λ ys. done (y ∷ ys)) p (then_is (λ ys. done (x ∷ ys)) u refl), v ∙ ap (Read.ok e) b, sym a ∙ ap (◌∷◌ x) w)

-- ---- the fields of a frame

-- the counts behind the from list, and where the where condition begins
abbrev pub parts_of : Bool → List ℕ → Parts
parts_of grouped frame = parts_after grouped (get_or frame 1 0) frame

pub byte-read : (n : ℕ) (p : ℕ → Bool) (frame : List ℕ) (at b : ℕ) (rest : List ℕ) → byte_if n p (drop at frame) ≡ Read.ok b rest
    → (b ≡ get_or frame at 0) × (rest ≡ drop (at + 1) frame) × (p b ≡ true) × (at < length frame)
byte-read n p frame at b rest e = by-test (ltb at (length frame))
    (λ l. let h = ltb-true at (length frame) l in by-test (p (get_or frame at 0))
    (λ t. let z : Read.ok (get_or frame at 0) (drop (at + 1) frame) ≡ Read.ok b rest = rw (from_byte frame at h, t) at e in
    let i : get_or frame at 0 ≡ b = cc in
    let j : drop (at + 1) frame ≡ rest = cc in
    (sym i, sym j, ap p (sym i) ∙ t, h))
    (λ t. let z : Read.refused n ≡ Read.ok b rest = rw (from_byte frame at h, t) at e in
    let y : ◌≡◌ {A = ℕ} 0 1 = cc in absurd (omega arith)))
    (λ l. let z : Read.refused 4 ≡ Read.ok b rest = rw (at-end frame at (ltb-false at (length frame) l)) at e in
    let y : ◌≡◌ {A = ℕ} 0 1 = cc in absurd (omega arith))

pub bytes_read : (k : ℕ) (p : ℕ → Bool) (n : ℕ) (bs fs rest : List ℕ) → repeated n (byte_if k p) bs ≡ Read.ok fs rest
    → (fs ≡ take n bs) × (rest ≡ drop n bs) × (n ≤ length bs) × All (λ i. p i ≡ true) fs
bytes_read k p zero bs fs rest e =
    let a : [] ≡ fs = cc in
    let b : bs ≡ rest = cc in
    (sym a, sym b, omega arith, subst (All (λ i. p i ≡ true)) a All.nil)
bytes_read k p (suc n) [] fs rest e = let y : ◌≡◌ {A = ℕ} 0 1 = cc in absurd (omega arith)
bytes_read k p (suc n) (x ∷ bs) fs rest e =
    let (b, mid, s, q) = then_ok (byte_if k p (x ∷ bs)) _ e in
    let (gs, end, t, u) = then_ok (repeated n (byte_if k p) mid) _ q in
    let a : b ∷ gs ≡ fs = cc in
    let z : end ≡ rest = cc in
    let (i, j, g, _) = byte-read k p (x ∷ bs) 0 b mid s in
    let (v, w, l, al) = bytes_read k p n mid gs end t in
    let m : mid ≡ bs = j in
    (sym a ∙ ap₂ ◌∷◌ i (v ∙ ap (take n) m), sym z ∙ w ∙ ap (drop n) m, omega (arith, ap length m), subst (All (λ i. p i ≡ true)) a (All.cons g al))

-- the from list
pub record From (d : Draft) (frame fs rest : List ℕ) : Type 0 where
  pub few : length fs ≤ 3
  pub list : fs ≡ froms_in frame
  pub behind : rest ≡ drop (get_or frame 1 0 + 2) frame
  pub earlier : All (λ i. i < relation_count d) fs

pub from-read : (d : Draft) (frame fs rest : List ℕ) → from_list d (drop 1 frame) ≡ Read.ok fs rest → From d frame fs rest
unfolding froms_in
from-read d frame fs rest e =
    let (n, mid, p, q) = then_ok (field 1 3 (drop 1 frame)) _ e in
    let (i, j, t, l) = byte-read 5 (λ b. leb 1 b && leb b 3) frame 1 n mid p in
    let (a, b, h, al) = bytes_read 6 (λ i. ltb i (relation_count d)) n mid fs rest q in
    let three : n ≤ 3 = leb-true n 3 (and_parts (leb 1 n) (leb n 3) t).1 in
    let m : mid ≡ drop 2 frame = j in
    record {
      few = omega (arith, ap length a ∙ length-take-le n mid h);
      list = a ∙ ap₂ take i m;
      behind = b ∙ ap (drop n) m ∙ drop-drop n 2 frame ∙ drop-as frame (2 + n) (get_or frame 1 0 + 2) (omega arith);
      earlier = all_map (λ x t. ltb-true x (relation_count d) t) al;
    }

-- the grouping columns
pub place_read : (cols frame : List ℕ) (at : ℕ) (x : Place) (rest : List ℕ) → place_field cols (drop at frame) ≡ Read.ok x rest
    → (x ≡ record { item = get_or frame at 0; column = get_or frame (at + 1) 0 }) × (rest ≡ drop (at + 2) frame)
place_read cols frame at x rest e =
    let (i, mid, p, q) = then_ok (byte_if 6 (λ i. ltb i (length cols)) (drop at frame)) _ e in
    let (a, b, _, _) = byte-read 6 (λ i. ltb i (length cols)) frame at i mid p in
    let (c, end, s, t) = then_ok (byte_if 6 (λ c. ltb c (get_or cols i 0)) mid) _ q in
    let (u, v, _, _) = byte-read 6 (λ c. ltb c (get_or cols i 0)) frame (at + 1) c end (ap (byte_if 6 (λ c. ltb c (get_or cols i 0))) (sym b) ∙ s) in
    let y : record { item = i; column = c } ≡ x = cc in
    let z : end ≡ rest = cc in
    (sym y ∙ ap₂ (λ k l. record { item = k; column = l }) a u, sym z ∙ v ∙ drop-as frame (at + 1 + 1) (at + 2) (omega arith))

pub places-read : (cols frame : List ℕ) (g at : ℕ) (gs : List Place) (rest : List ℕ) → repeated g (place_field cols) (drop at frame) ≡ Read.ok gs rest
    → (gs ≡ places_from frame at g) × (rest ≡ drop (at + 2 * g) frame)
unfolding places_from
places-read cols frame zero at gs rest e =
    let a : [] ≡ gs = cc in
    let b : drop at frame ≡ rest = cc in
    (sym a, sym b ∙ drop-as frame at (at + 2 * 0) (omega arith))
places-read cols frame (suc g) at gs rest e =
    let (x, mid, p, q) = then_ok (place_field cols (drop at frame)) _ e in
    let (xs, end, s, t) = then_ok (repeated g (place_field cols) mid) _ q in
    let a : x ∷ xs ≡ gs = cc in
    let b : end ≡ rest = cc in
    let (i, j) = place_read cols frame at x mid p in
    let (u, v) = places-read cols frame g (at + 2) xs end (ap (repeated g (place_field cols)) (sym j) ∙ s) in
    (sym a ∙ ap₂ ◌∷◌ i u, sym b ∙ v ∙ drop-as frame (at + 2 + 2 * g) (at + 2 * suc g) (omega arith))

pub view-read : (p q : View) (bs rest : List ℕ) → ending (Item.view p) bs ≡ Read.ok (Item.view q) rest → p ≡ q
view-read p q [] rest e = cc
view-read p q (b ∷ bs) rest e = let z : ◌≡◌ {A = ℕ} 0 1 = cc in absurd (omega arith)

-- an aggregate view's frame, part by part
abbrev pub grouped_trees : Draft → List ℕ → ℕ → ℕ → Reader Item
grouped_trees d fs g n =
    let o = open_items (schemas_of d) fs in
    read_c o >>= λ w. repeated g (place_field o.widths) >>= λ gs. read_c o >>= λ h. repeated n (read_e o) >>= λ es.
    ending (Item.view (View.grouped fs w gs h es))

pub record GroupedTrees (d : Draft) (fs : List ℕ) (g n : ℕ) (bs : List ℕ) (q : View) : Type 0 where
  pub w : Cond
  pub gs : List Place
  pub h : Cond
  pub es : List Expr
  pub mid : List ℕ
  pub mid' : List ℕ
  pub mid'' : List ℕ
  pub rest : List ℕ
  pub read_w : read_c (open_items (schemas_of d) fs) bs ≡ Read.ok w mid
  pub read_g : repeated g (place_field (open_items (schemas_of d) fs).widths) mid ≡ Read.ok gs mid'
  pub read_h : read_c (open_items (schemas_of d) fs) mid' ≡ Read.ok h mid''
  pub read_s : repeated n (read_e (open_items (schemas_of d) fs)) mid'' ≡ Read.ok es rest
  pub same : View.grouped fs w gs h es ≡ q

pub trees-read : (d : Draft) (fs : List ℕ) (g n : ℕ) (bs : List ℕ) (q : View) → grouped_trees d fs g n bs ≡ Read.ok (Item.view q) [] → GroupedTrees d fs g n bs q
trees-read d fs g n bs q e =
    let o = open_items (schemas_of d) fs in
    let (w, m₁, p₁, q₁) = then_ok (read_c o bs) _ e in
    let (gs, m₂, p₂, q₂) = then_ok (repeated g (place_field o.widths) m₁) _ q₁ in
    let (h, m₃, p₃, q₃) = then_ok (read_c o m₂) _ q₂ in
    let (es, m₄, p₄, q₄) = then_ok (repeated n (read_e o) m₃) _ q₃ in
    record {
      w = w;
      gs = gs;
      h = h;
      es = es;
      mid = m₁;
      mid' = m₂;
      mid'' = m₃;
      rest = m₄;
      read_w = p₁;
      read_g = p₂;
      read_h = p₃;
      read_s = p₄;
      same = view-read (View.grouped fs w gs h es) q m₄ [] q₄;
    }

pub record GroupedRead (d : Draft) (frame : List ℕ) (q : View) : Type 0 where
  pub fs : List ℕ
  pub behind : List ℕ
  pub from : From d frame fs behind
  pub narrow : (parts_of true frame).width ≤ 8
  pub trees : GroupedTrees d fs (parts_of true frame).groups (parts_of true frame).width (drop (parts_of true frame).body frame) q

pub fields_read : (d : Draft) (frame : List ℕ) (q : View) (fs behind : List ℕ) → From d frame fs behind
    → (field 0 4 >>= λ g. field 1 8 >>= λ n. grouped_trees d fs g n) behind ≡ Read.ok (Item.view q) [] → GroupedRead d frame q
unfolding parts_after
fields_read d frame q fs behind F e =
    let n₀ = get_or frame 1 0 in
    let (g, m₁, p₁, q₁) = then_ok (field 0 4 behind) _ e in
    let (i, j, _, _) = byte-read 5 (λ b. leb 0 b && leb b 4) frame (n₀ + 2) g m₁ (ap (field 0 4) (sym F.behind) ∙ p₁) in
    let (n, m₂, p₂, q₂) = then_ok (field 1 8 m₁) _ q₁ in
    let start : m₁ ≡ drop (n₀ + 3) frame = j ∙ drop-as frame (n₀ + 2 + 1) (n₀ + 3) (omega arith) in
    let (u, v, t, _) = byte-read 5 (λ b. leb 1 b && leb b 8) frame (n₀ + 3) n m₂ (ap (field 1 8) (sym start) ∙ p₂) in
    let start' : m₂ ≡ drop (n₀ + 4) frame = v ∙ drop-as frame (n₀ + 3 + 1) (n₀ + 4) (omega arith) in
    record {
      fs = fs;
      behind = behind;
      from = F;
      narrow = subst (λ k. k ≤ 8) u (leb-true n 8 (and_parts (leb 1 n) (leb n 8) t).1);
      trees = subst (λ k. GroupedTrees d fs k (get_or frame (n₀ + 3) 0) (drop (n₀ + 4) frame) q) i
          (subst (λ k. GroupedTrees d fs g k (drop (n₀ + 4) frame) q) u
          (subst (λ bs. GroupedTrees d fs g n bs q) start' (trees-read d fs g n m₂ q q₂)));
    }

pub grouped-read : (d : Draft) (frame : List ℕ) (q : View) → grouped_frame d (drop 1 frame) ≡ Read.ok (Item.view q) [] → GroupedRead d frame q
grouped-read d frame q e =
    let (fs, m, p, q₁) = then_ok (from_list d (drop 1 frame)) _ e in
    fields_read d frame q fs m (from-read d frame fs m p) q₁
