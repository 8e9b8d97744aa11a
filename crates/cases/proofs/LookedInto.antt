-- Each relation into which a view looks stands behind a byte 17 of the view's frame. Assumes nothing.
use mathlib.Core.Path.{◌≡◌, refl, sym, ap, subst, ◌∙◌}
use mathlib.Core.Bool.{◌&&◌}
use mathlib.Core.List.{List, [], ◌∷◌, ◌++◌, map, append_assoc}
use mathlib.Core.Logic.{⊎_elim}
use Prim.Native.Nat.{ℕ, zero, suc, ◌+◌, ◌<◌}
use native.Mathlib.Nat.{eq-or-lt_of_le, le_of_suc-le-suc}
use native.Mathlib.Omega.{arith}
use lib.Dec.{eqb, ltb}
use lib.ListN.{length, get_or, length-append}
use lib.Seq.{get_or_at}
use borrow.Author.Tests.{lt-ltb, ltb-true}
use Rattle.value.specs.Bag.{All}
use Rattle.value.proofs.Decides.{by-test, and_parts}
use Rattle.value.proofs.Values.{all_map}
use Rattle.meaning.specs.Lists.{joined}
use Rattle.meaning.specs.Syntax.{Expr, Cond, View}
use Rattle.meaning.specs.Bounds.{inner_e, inner_c, names}
use Rattle.meaning.proofs.Elements.{all_append, all-before, all-behind, all_both}
use Rattle.language.specs.Prefix.{encode_e, encode_c}
use Rattle.language.specs.Written.{places_bytes, view_bytes}
use Rattle.catalog.specs.Frames.{front_names, names_in}
use Rattle.catalog.proofs.ViewParts.{view-parts}
use Rattle.cases.specs.Needs.{behind_at, behind_to, named_in}

-- ---- behind a byte 17

record Behind (bs : List ℕ) (j : ℕ) : Type 0 where
  before : List ℕ
  after : List ℕ
  split : bs ≡ before ++ (0x17 ∷ j ∷ after)

-- with bytes behind, and with bytes before
in-front : {xs : List ℕ} (ys : List ℕ) {j : ℕ} → Behind xs j → Behind (xs ++ ys) j
in-front ys {j} b = record {
  before = b.before;
  after = b.after ++ ys;
  split = ap (λ (l : List ℕ). l ++ ys) b.split ∙ append_assoc b.before (0x17 ∷ j ∷ b.after) ys;
}

in-back : (xs : List ℕ) {ys : List ℕ} {j : ℕ} → Behind ys j → Behind (xs ++ ys) j
in-back xs {j = j} b = record {
  before = xs ++ b.before;
  after = b.after;
  split = ap (λ (l : List ℕ). xs ++ l) b.split ∙ sym (append_assoc xs b.before (0x17 ∷ j ∷ b.after));
}

all-front : {xs : List ℕ} (ys : List ℕ) {js : List ℕ} → All (Behind xs) js → All (Behind (xs ++ ys)) js
all-front ys h = all_map (λ j b. in-front ys b) h

all_back : (xs : List ℕ) {ys js : List ℕ} → All (Behind ys) js → All (Behind (xs ++ ys)) js
all_back xs h = all_map (λ j b. in-back xs b) h

-- of two encodings, one behind the other
both : {xs ys is js : List ℕ} → All (Behind xs) is → All (Behind ys) js → All (Behind (xs ++ ys)) (is ++ js)
both {xs} {ys} a b = all_append (all-front ys a) (all_back xs b)

mutual
  unfolding encode_e

  behind_e : (e : Expr) → All (Behind (encode_e e)) (inner_e e)
  behind_e (Expr.constant z) = All.nil
  behind_e (Expr.column i c) = All.nil
  behind_e (Expr.operation op a b) = all_back (_ ∷ []) (both (behind_e a) (behind_e b))
  behind_e (Expr.rounding m a) = all_back (_ ∷ _ ∷ _ ∷ []) (behind_e a)
  behind_e (Expr.choice c a b) =
      all_back (0x06 ∷ []) (all_append (all-front (encode_e b) (all-front (encode_e a) (behind_c c)))
      (all_append (all-front (encode_e b) (all_back (encode_c c) (behind_e a))) (all_back (encode_c c ++ encode_e a) (behind_e b))))
  behind_e (Expr.aggregate op a) = all_back (_ ∷ _ ∷ []) (behind_e a)

  behind_c : (c : Cond) → All (Behind (encode_c c)) (inner_c c)
  behind_c Cond.always = All.nil
  behind_c (Cond.comparison op a b) = all_back (_ ∷ []) (both (behind_e a) (behind_e b))
  behind_c (Cond.negated c) = all_back (0x14 ∷ []) (behind_c c)
  behind_c (Cond.connection op c d) = all_back (_ ∷ []) (both (behind_c c) (behind_c d))
  behind_c (Cond.exists i c) = All.cons (record { before = []; after = encode_c c; split = refl }) (all_back (0x17 ∷ i ∷ []) (behind_c c))

behind-select : (es : List Expr) → All (Behind (joined (map encode_e es))) (joined (map inner_e es))
behind-select [] = All.nil
behind-select (e ∷ es) = both (behind_e e) (behind-select es)

-- the relations of a view that do not stand at the front of its frame
abbrev inner_names : View → List ℕ
inner_names (View.basic fs w es) = inner_c w ++ joined (map inner_e es)
inner_names (View.grouped fs w gs h es) = inner_c w ++ (inner_c h ++ joined (map inner_e es))
inner_names (View.set op i j) = []

behind-view : (q : View) → All (Behind (view_bytes q)) (inner_names q)
unfolding view_bytes
behind-view (View.basic fs w es) =
    all_back (0x03 ∷ length fs ∷ fs) (all_back (length es ∷ []) (both (behind_c w) (behind-select es)))
behind-view (View.grouped fs w gs h es) =
    let S = joined (map encode_e es) in
    all_back (0x04 ∷ length fs ∷ fs) (all_back (length gs ∷ length es ∷ [])
    (all_append (all-front S (all-front (encode_c h) (all-front (places_bytes gs) (behind_c w))))
    (all_append (all-front S (all_back (encode_c w ++ places_bytes gs) (behind_c h))) (all_back (encode_c w ++ places_bytes gs ++ encode_c h) (behind-select es)))))
behind-view (View.set op i j) = All.nil

-- ---- by place

module _ (v : ℕ) (frame : List ℕ) {P : ℕ → Type 0} where
  -- the relation at a place below n
  at_place : (n i j : ℕ) → i < n → behind_at v frame i ≡ j ∷ [] → All P (behind_to v frame n) → P j
  unfolding behind_to
  at_place zero i j h e a = absurd (omega arith)
  at_place (suc n) i j h e a = ⊎_elim
      (λ (q : i ≡ n). one (ap (λ k. behind_at v frame k) (sym q) ∙ e) (all-behind (behind_to v frame n) a))
      (λ l. at_place n i j l e (all-before (behind_to v frame n) (behind_at v frame n) a))
      (eq-or-lt_of_le (le_of_suc-le-suc h))
    where
      one : {is : List ℕ} → is ≡ j ∷ [] → All P is → P j
      one e (All.cons {x = x} p ps) = let z : x ≡ j = cc in subst P z p
      one e All.nil = let z : ◌≡◌ {A = ℕ} 0 1 = cc in absurd (omega arith)

  found : {j : ℕ} → Behind frame j → j < v → All P (behind_to v frame (length frame)) → P j
  found {j} b h a =
      let i = length b.before in
      let token : get_or frame i 0 ≡ 0x17 = ap (λ (l : List ℕ). get_or l i 0) b.split ∙ get_or_at b.before 0x17 (j ∷ b.after) 0 i refl in
      let again : b.before ++ (0x17 ∷ j ∷ b.after) ≡ (b.before ++ (0x17 ∷ [])) ++ (j ∷ b.after) = sym (append_assoc b.before (0x17 ∷ []) (j ∷ b.after)) in
      let next : get_or frame (i + 1) 0 ≡ j = ap (λ (l : List ℕ). get_or l (i + 1) 0) (b.split ∙ again) ∙ get_or_at (b.before ++ (0x17 ∷ [])) j b.after 0 (i + 1) (length-append b.before (0x17 ∷ [])) in
      let inside : i < length frame = omega (arith, ap length b.split ∙ length-append b.before (0x17 ∷ j ∷ b.after)) in
      at_place (length frame) i j inside (rw (token, next, lt-ltb j v h)) a

-- what holds of the relations that the bytes of a view name holds of those that it names
module _ {P : ℕ → Type 0} (v : ℕ) (frame : List ℕ) (a : All P (named_in v frame)) where
  front : (q : View) → frame ≡ view_bytes q → All P (front_names q)
  front q e = subst (All P) (view-parts q frame e).1 (all-before (names_in frame) (behind_to v frame (length frame)) a)

  inner : {is : List ℕ} → All (Behind frame) is → All (λ i. i < v) is → All P is
  inner b l = all_map (λ j h. found v frame h.0 h.1 (all-behind (names_in frame) a)) (all_both b l)

  pub named-all : (q : View) → frame ≡ view_bytes q → All (λ i. i < v) (names q) → All P (names q)
  named-all (View.basic fs w es) e l =
      let q = View.basic fs w es in all_append (front q e) (inner (rw e (behind-view q)) (all-behind fs l))
  named-all (View.grouped fs w gs h es) e l =
      let q = View.grouped fs w gs h es in all_append (front q e) (inner (rw e (behind-view q)) (all-behind fs l))
  named-all (View.set op i j) e l = front (View.set op i j) e

-- and these are before the view
behind-below : (v : ℕ) (frame : List ℕ) (n : ℕ) → All (λ i. i < v) (behind_to v frame n)
unfolding behind_to
behind-below v frame zero = All.nil
behind-below v frame (suc n) = all_append (behind-below v frame n) (by-test (eqb (get_or frame n 0) 0x17 && ltb (get_or frame (n + 1) 0) v)
    (λ t. let p = and_parts (eqb (get_or frame n 0) 0x17) (ltb (get_or frame (n + 1) 0) v) t in rw t (All.cons (ltb-true (get_or frame (n + 1) 0) v p.1) All.nil))
    (λ t. rw t All.nil))

pub front_below : {v : ℕ} (q : View) → All (λ i. i < v) (names q) → All (λ i. i < v) (front_names q)
front_below (View.basic fs w es) l = all-before fs _ l
front_below (View.grouped fs w gs h es) l = all-before fs _ l
front_below (View.set op i j) l = l

pub named-below : (v : ℕ) (q : View) (frame : List ℕ) → frame ≡ view_bytes q → All (λ i. i < v) (names q) → All (λ i. i < v) (named_in v frame)
named-below v q frame e l = all_append (subst (All (λ i. i < v)) (sym (view-parts q frame e).1) (front_below q l)) (behind-below v frame (length frame))
