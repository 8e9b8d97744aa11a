-- Forms that are passed over: each by its own bytes, and then the forms inside it. Assumes nothing.
use mathlib.Core.Path.{◌≡◌, refl, sym, ap, ap₂, ◌∙◌}
use mathlib.Core.List.{List, [], ◌∷◌, ◌++◌, map, append-nil, append_assoc}
use Prim.Native.Nat.{ℕ, ◌+◌, ◌-◌, ◌*◌, ◌/◌, ◌%◌, ◌≤◌, ◌<◌}
use native.Mathlib.Nat.{le_refl}
use native.Mathlib.Omega.{arith}
use lib.ListN.{length, get_or, drop, length-append, drop_of_length-le, get_or-append, get_or-eq_default}
use lib.Seq.{drop-drop, drop-append_seam, get_or-drop}
use Rattle.value.specs.Integer.{high_byte, low_byte}
use Rattle.value.specs.Value.{Operation, Comparison, Connective}
use Rattle.meaning.specs.Lists.{joined}
use Rattle.meaning.specs.Syntax.{Expr, Cond}
use Rattle.language.specs.Prefix.{operation_token, comparison_token, connective_token, aggregate_byte, encode_e, encode_c}
use Rattle.meaning.proofs.Elements.{all-at, all-test}
use Rattle.value.proofs.Decides.{by-test}
use borrow.Author.Tests.{ltb-true, ltb-false, leb-true}
use lib.Dec.{ltb, leb}
use mathlib.Core.Bool.{true}
use Rattle.views.specs.Ends.{forms_table, own_bytes, own_forms, EndsCondition}

pub data Form : Type 0 where
  expression : Expr → Form
  condition : Cond → Form

abbrev pub encoded : Form → List ℕ
encoded (Form.expression e) = encode_e e
encoded (Form.condition c) = encode_c c

-- the encodings of forms, one behind the other
abbrev pub all-encoded : List Form → List ℕ
all-encoded fs = joined (map encoded fs)

-- a form's token with its own fields
abbrev own : Form → List ℕ
own (Form.expression (Expr.constant z)) = 0x00 ∷ high_byte z ∷ low_byte z ∷ []
own (Form.expression (Expr.column i c)) = 0x01 ∷ i ∷ c ∷ []
own (Form.expression (Expr.operation op a b)) = operation_token op ∷ []
own (Form.expression (Expr.rounding m a)) = 0x05 ∷ m / 256 ∷ m % 256 ∷ []
own (Form.expression (Expr.choice c a b)) = 0x06 ∷ []
own (Form.expression (Expr.aggregate op a)) = 0x07 ∷ aggregate_byte op ∷ []
own (Form.condition Cond.always) = 0x10 ∷ []
own (Form.condition (Cond.comparison op a b)) = comparison_token op ∷ []
own (Form.condition (Cond.negated c)) = 0x14 ∷ []
own (Form.condition (Cond.connection op c d)) = connective_token op ∷ []
own (Form.condition (Cond.exists i c)) = 0x17 ∷ i ∷ []

-- and the forms inside it
abbrev inside : Form → List Form
inside (Form.expression (Expr.constant z)) = []
inside (Form.expression (Expr.column i c)) = []
inside (Form.expression (Expr.operation op a b)) = Form.expression a ∷ Form.expression b ∷ []
inside (Form.expression (Expr.rounding m a)) = Form.expression a ∷ []
inside (Form.expression (Expr.choice c a b)) = Form.condition c ∷ Form.expression a ∷ Form.expression b ∷ []
inside (Form.expression (Expr.aggregate op a)) = Form.expression a ∷ []
inside (Form.condition Cond.always) = []
inside (Form.condition (Cond.comparison op a b)) = Form.expression a ∷ Form.expression b ∷ []
inside (Form.condition (Cond.negated c)) = Form.condition c ∷ []
inside (Form.condition (Cond.connection op c d)) = Form.condition c ∷ Form.condition d ∷ []
inside (Form.condition (Cond.exists i c)) = Form.condition c ∷ []

parted : (x : Form) → encoded x ≡ own x ++ all-encoded (inside x)
unfolding encode_e
parted (Form.expression (Expr.constant z)) = refl
parted (Form.expression (Expr.column i c)) = refl
parted (Form.expression (Expr.operation op a b)) = rw append-nil
parted (Form.expression (Expr.rounding m a)) = rw append-nil
parted (Form.expression (Expr.choice c a b)) = rw (append-nil, append_assoc (encode_c c) (encode_e a) (encode_e b))
parted (Form.expression (Expr.aggregate op a)) = rw append-nil
parted (Form.condition Cond.always) = refl
parted (Form.condition (Cond.comparison op a b)) = rw append-nil
parted (Form.condition (Cond.negated c)) = rw append-nil
parted (Form.condition (Cond.connection op c d)) = rw append-nil
parted (Form.condition (Cond.exists i c)) = rw append-nil

-- the tables tell both numbers by the token
abbrev Told : Form → Type 0
Told x = (own_bytes (get_or (own x) 0 0) ≡ length (own x)) × (own_forms (get_or (own x) 0 0) ≡ length (inside x))

told : (x : Form) → Told x
told (Form.expression (Expr.constant z)) = (refl, refl)
told (Form.expression (Expr.column i c)) = (refl, refl)
told (Form.expression (Expr.operation Operation.sum a b)) = (refl, refl)
told (Form.expression (Expr.operation Operation.difference a b)) = (refl, refl)
told (Form.expression (Expr.operation Operation.product a b)) = (refl, refl)
told (Form.expression (Expr.rounding m a)) = (refl, refl)
told (Form.expression (Expr.choice c a b)) = (refl, refl)
told (Form.expression (Expr.aggregate op a)) = (refl, refl)
told (Form.condition Cond.always) = (refl, refl)
told (Form.condition (Cond.comparison Comparison.equal a b)) = (refl, refl)
told (Form.condition (Cond.comparison Comparison.less a b)) = (refl, refl)
told (Form.condition (Cond.comparison Comparison.less_equal a b)) = (refl, refl)
told (Form.condition (Cond.negated c)) = (refl, refl)
told (Form.condition (Cond.connection Connective.conjunction c d)) = (refl, refl)
told (Form.condition (Cond.connection Connective.disjunction c d)) = (refl, refl)
told (Form.condition (Cond.exists i c)) = (refl, refl)

-- at least the token
own-some : (x : Form) → 0 < length (own x)
own-some (Form.expression (Expr.constant z)) = omega arith
own-some (Form.expression (Expr.column i c)) = omega arith
own-some (Form.expression (Expr.operation op a b)) = omega arith
own-some (Form.expression (Expr.rounding m a)) = omega arith
own-some (Form.expression (Expr.choice c a b)) = omega arith
own-some (Form.expression (Expr.aggregate op a)) = omega arith
own-some (Form.condition Cond.always) = omega arith
own-some (Form.condition (Cond.comparison op a b)) = omega arith
own-some (Form.condition (Cond.negated c)) = omega arith
own-some (Form.condition (Cond.connection op c d)) = omega arith
own-some (Form.condition (Cond.exists i c)) = omega arith

-- no token has more than three forms inside
forms-few : (t : ℕ) → own_forms t ≤ 3
forms-few t = by-test (ltb t 24)
    (λ l. leb-true (own_forms t) 3 (all-at {P = λ n. leb n 3 ≡ true} (all-test (λ n. leb n 3) forms_table refl) 0 t (ltb-true t 24 l)))
    (λ l. rw (get_or-eq_default forms_table 0 (ltb-false t 24 l)) (omega arith))

joined-append : (fs gs : List Form) → all-encoded (fs ++ gs) ≡ all-encoded fs ++ all-encoded gs
joined-append [] gs = refl
joined-append (f ∷ fs) gs = ap (λ (l : List ℕ). encoded f ++ l) (joined-append fs gs) ∙ sym (append_assoc (encoded f) (all-encoded fs) (all-encoded gs))

-- ---- the loop: so many forms are left

pub record Left (frame : List ℕ) (at next left : ℕ) : Type 0 where
  pub further : at ≤ next
  pub few : left ≤ 2 * (next - at) + 1
  pub forms : (c : Cond) (rest : List ℕ) → drop at frame ≡ encode_c c ++ rest → (fs : List Form) × (length fs ≡ left) × (drop next frame ≡ all-encoded fs ++ rest)

pub left_one : (frame : List ℕ) (at : ℕ) → Left frame at at 1
left_one frame at = record {
  further = le_refl at;
  few = omega arith;
  forms = λ c rest q. (Form.condition c ∷ [], refl, rw append-nil q);
}

module _ {frame : List ℕ} {at next left : ℕ} (p : Left frame at next left) where
  pub left-none : left ≡ 0 → EndsCondition frame at next
  left-none e = record { further = p.further; ends = λ c rest q. let (fs, n, d) = p.forms c rest q in ended fs rest (n ∙ e) d }
    where
      ended : (fs : List Form) (rest : List ℕ) → length fs ≡ 0 → drop next frame ≡ all-encoded fs ++ rest → drop next frame ≡ rest
      ended [] rest n d = d
      ended (f ∷ fs) rest n d = absurd (omega arith)

  -- at most two forms more with each byte
  pub left-few : {f : ℕ} → f ≡ own_forms (get_or frame next 0) → left - 1 + f ≤ 2 * (next - at) + 3
  left-few g = omega (arith, p.few, g, forms-few (get_or frame next 0))

  -- the form whose turn it is, and those behind it
  first-left : 0 < left → (fs : List Form) (rest : List ℕ) → length fs ≡ left → drop next frame ≡ all-encoded fs ++ rest
      → (x : Form) × (gs : List Form) × (length gs ≡ left - 1) × (drop next frame ≡ own x ++ (all-encoded (inside x ++ gs) ++ rest))
  first-left h [] rest n d = absurd (omega arith)
  first-left h (x ∷ gs) rest n d = (
    x,
    gs,
    omega arith,
    d ∙ append_assoc (encoded x) (all-encoded gs) rest ∙ ap (λ (l : List ℕ). l ++ (all-encoded gs ++ rest)) (parted x)
        ∙ append_assoc (own x) (all-encoded (inside x)) (all-encoded gs ++ rest)
        ∙ ap (λ (l : List ℕ). own x ++ l) (sym (append_assoc (all-encoded (inside x)) (all-encoded gs) rest) ∙ ap (λ (l : List ℕ). l ++ rest) (sym (joined-append (inside x) gs))),
  )

  -- its token stands there
  token-at : (x : Form) (l : List ℕ) → drop next frame ≡ own x ++ l → get_or frame next 0 ≡ get_or (own x) 0 0
  token-at x l d =
      let here : get_or (drop next frame) 0 0 ≡ get_or frame next 0 = get_or-drop next frame 0 0 ∙ ap (λ k. get_or frame k 0) (omega arith) in
      sym here ∙ ap (λ (b : List ℕ). get_or b 0 0) d ∙ get_or-append (own x) l 0 0 (own-some x)

  module _ (h : 0 < left) where
    -- bytes that no form begins
    left-stop : ((x : Form) (l : List ℕ) → drop next frame ≡ own x ++ l → ⊥) → EndsCondition frame at next
    left-stop none = record {
      further = p.further;
      ends = λ c rest q.
          let (fs, n, d) = p.forms c rest q in
          let (x, gs, m, e) = first-left h fs rest n d in
          absurd (none x (all-encoded (inside x ++ gs) ++ rest) e);
    }

    pub left-past : length frame ≤ next → EndsCondition frame at next
    left-past l = left-stop (λ x k d. let n : 0 ≡ length (own x ++ k) = ap length (sym (drop_of_length-le frame l) ∙ d) in
        omega (arith, n, length-append (own x) k, own-some x))

    pub left_other : own_bytes (get_or frame next 0) ≡ 0 → EndsCondition frame at next
    left_other z = left-stop (λ x k d. omega (arith, sym (ap own_bytes (token-at x k d) ∙ (told x).0) ∙ z, own-some x))

    pub left-more : {b f : ℕ} → b ≡ own_bytes (get_or frame next 0) → (b ≡ 0 → ⊥) → f ≡ own_forms (get_or frame next 0) → Left frame at (next + b) (left - 1 + f)
    left-more {b} {f} e n g = record {
      further = omega (arith, p.further);
      few = omega (arith, p.further, p.few, g, forms-few (get_or frame next 0));
      forms = λ c rest q.
          let (fs, m, d) = p.forms c rest q in
          let (x, gs, k, y) = first-left h fs rest m d in
          let t = token-at x (all-encoded (inside x ++ gs) ++ rest) y in
          let bytes : b ≡ length (own x) = e ∙ ap own_bytes t ∙ (told x).0 in
          let inner : f ≡ length (inside x) = g ∙ ap own_forms t ∙ (told x).1 in (
            inside x ++ gs,
            length-append (inside x) gs ∙ omega (arith, k, inner),
            sym (drop-drop b next frame) ∙ ap₂ (λ (j : ℕ) (l : List ℕ). drop j l) bytes y ∙ drop-append_seam (own x) _,
          );
    }
