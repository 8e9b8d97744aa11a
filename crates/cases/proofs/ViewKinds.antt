-- The kinds of views, and the operands of a set view. Assumes nothing.
use mathlib.Core.Path.{◌≡◌, refl, sym, ap, ◌∙◌}
use mathlib.Core.Bool.{true, false, true≢false}
use mathlib.Core.List.{List, [], ◌∷◌}
use Prim.Native.Nat.{ℕ, zero, suc, ◌≤◌, ◌<◌}
use native.Mathlib.Omega.{arith}
use lib.ListN.{get_or}
use borrow.Author.Tests.{ne_eqb}
use Rattle.std.specs.Prelude.{Some, None}
use Rattle.std.proofs.lemmas.Option.{none-some}
use Rattle.meaning.specs.Syntax.{SetOperation, View}
use Rattle.language.specs.Written.{set_kind, view_bytes}
use Rattle.catalog.specs.Frames.{kind_of, names_in}
use Rattle.catalog.specs.Kinds.{number_of, kind_at}
use Rattle.catalog.specs.declared.kind.ViewKind.{ViewKind}
use Rattle.catalog.specs.declared.kind.SetOperation.{SetOperation as Operation}
use Rattle.catalog.specs.declared.kind.Kind.{Kind}
use Rattle.catalog.proofs.ViewParts.{view-parts}
use Rattle.cases.specs.Needs.{own_conditions}

pub set-large : (op : SetOperation) → 5 ≤ set_kind op
set-large SetOperation.union = omega arith
set-large SetOperation.intersection = omega arith

pub set-few : (op : SetOperation) → set_kind op ≤ 6
set-few SetOperation.union = omega arith
set-few SetOperation.intersection = omega arith

-- 5 is a union's, and 6 an intersection's
pub by-union : {kind : ℕ} (P : SetOperation → Type 0) → kind ≡ 5 → P SetOperation.union → (op : SetOperation) → set_kind op ≡ kind → P op
by-union P z p SetOperation.union e = p
by-union P z p SetOperation.intersection e = absurd (omega arith)

pub by-intersection : {kind : ℕ} (P : SetOperation → Type 0) → kind ≡ 6 → P SetOperation.intersection → (op : SetOperation) → set_kind op ≡ kind → P op
by-intersection P z p SetOperation.union e = absurd (omega arith)
by-intersection P z p SetOperation.intersection e = p

past-kinds : (n : ℕ) → 8 ≤ n → kind_at n ≡ None
past-kinds n h = rw (
  ne_eqb n 1 (λ e. omega arith),
  ne_eqb n 2 (λ e. omega arith),
  ne_eqb n 3 (λ e. omega arith),
  ne_eqb n 4 (λ e. omega arith),
  ne_eqb n 5 (λ e. omega arith),
  ne_eqb n 6 (λ e. omega arith),
  ne_eqb n 7 (λ e. omega arith),
)

-- the number of the kind that a byte says
pub kind-number : (n : ℕ) {k : Kind} → Some k ≡ kind_at n → number_of k ≡ n
kind-number zero e = absurd (none-some _ (sym e))
kind-number (suc zero) {k} e = let h : k ≡ Kind.Table = cc in ap number_of h
kind-number (suc (suc zero)) {k} e = let h : k ≡ Kind.ForeignKey = cc in ap number_of h
kind-number (suc (suc (suc zero))) {k} e = let h : k ≡ Kind.View ViewKind.Basic = cc in ap number_of h
kind-number (suc (suc (suc (suc zero)))) {k} e = let h : k ≡ Kind.View ViewKind.Aggregate = cc in ap number_of h
kind-number (suc (suc (suc (suc (suc zero))))) {k} e = let h : k ≡ Kind.Set Operation.Union = cc in ap number_of h
kind-number (suc (suc (suc (suc (suc (suc zero)))))) {k} e = let h : k ≡ Kind.Set Operation.Intersection = cc in ap number_of h
kind-number (suc (suc (suc (suc (suc (suc (suc zero))))))) {k} e = let h : k ≡ Kind.Goal = cc in ap number_of h
kind-number (suc (suc (suc (suc (suc (suc (suc (suc n)))))))) e = absurd (none-some _ (sym (e ∙ past-kinds (suc (suc (suc (suc (suc (suc (suc (suc n)))))))) (omega arith))))

-- no view's: no kind at all, or another kind
pub none-of-view : (n : ℕ) → None ≡ kind_at n → 3 ≤ n → n ≤ 6 → ⊥
none-of-view zero e l h = omega arith
none-of-view (suc zero) e l h = omega arith
none-of-view (suc (suc zero)) e l h = omega arith
none-of-view (suc (suc (suc zero))) e l h = none-some _ e
none-of-view (suc (suc (suc (suc zero)))) e l h = none-some _ e
none-of-view (suc (suc (suc (suc (suc zero))))) e l h = none-some _ e
none-of-view (suc (suc (suc (suc (suc (suc zero)))))) e l h = none-some _ e
none-of-view (suc (suc (suc (suc (suc (suc (suc n))))))) e l h = omega arith

pub other-of-view : (k : Kind) {n : ℕ} → number_of k ≡ n → ((v : ViewKind) → k ≡ Kind.View v → ⊥) → ((op : Operation) → k ≡ Kind.Set op → ⊥) → 3 ≤ n → n ≤ 6 → ⊥
other-of-view Kind.Table e v s l h = omega arith
other-of-view Kind.ForeignKey e v s l h = omega arith
other-of-view (Kind.View x) e v s l h = v x refl
other-of-view (Kind.Set op) e v s l h = s op refl
other-of-view Kind.Goal e v s l h = omega arith

-- the kinds of set views are above the others
own-small : (q : View) → own_conditions q ≡ true → kind_of q < 5
own-small (View.basic fs w es) o = omega arith
own-small (View.grouped fs w gs h es) o = omega arith
own-small (View.set op i j) o = absurd (true≢false (sym o))

others-large : (q : View) → own_conditions q ≡ false → 5 ≤ kind_of q
others-large (View.basic fs w es) o = absurd (true≢false o)
others-large (View.grouped fs w gs h es) o = absurd (true≢false o)
others-large (View.set op i j) o = set-large op

module _ {frame : List ℕ} (q : View) (e : frame ≡ view_bytes q) where
  pub kind-own : own_conditions q ≡ true → get_or frame 0 0 < 5
  kind-own o = omega (arith, own-small q o, (view-parts q frame e).0)

  pub kind-set : own_conditions q ≡ false → 5 ≤ get_or frame 0 0
  kind-set o = omega (arith, others-large q o, (view-parts q frame e).0)

-- the operands of a set view are what its frame names
pub operands-are : {frame names : List ℕ} → names ≡ names_in frame → (op : SetOperation) (i j : ℕ) → frame ≡ view_bytes (View.set op i j)
    → (get_or names 0 0 ≡ i) × (get_or names 1 0 ≡ j)
operands-are {frame} {names} n op i j e =
    let p : names ≡ i ∷ j ∷ [] = n ∙ (view-parts (View.set op i j) frame e).1 in
    (ap (λ (l : List ℕ). get_or l 0 0) p, ap (λ (l : List ℕ). get_or l 1 0) p)
