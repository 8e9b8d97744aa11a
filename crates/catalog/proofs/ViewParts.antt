-- The parts of a view's frame. The one law is `view-parts`. Assumes nothing.
use mathlib.Core.Path.{◌≡◌, refl, sym, ap, ◌∙◌}
use mathlib.Core.List.{List, ◌∷◌, ◌++◌, map, append_assoc}
use Prim.Native.Nat.{ℕ, ◌+◌}
use native.Mathlib.Omega.{arith}
use lib.ListN.{length, get_or, drop}
use lib.Seq.{drop-drop, drop-append_seam, take-append_seam}
use Rattle.value.proofs.Places.{byte-here, two_here}
use Rattle.meaning.specs.Lists.{joined}
use Rattle.meaning.specs.Syntax.{Expr, Cond, Place, View, SetOperation}
use Rattle.language.specs.Prefix.{encode_e, encode_c}
use Rattle.language.specs.Written.{places_bytes, view_bytes}
use Rattle.catalog.specs.Frames.{kind_of, froms_in, front_names, names_in, parts_in, parts_after, set_parts_in}

-- what the counts are, and what stands behind them; of a set view, its operands
abbrev pub PartsAre : List ℕ → View → Type 0
PartsAre frame (View.basic fs w es) = ((parts_in frame).width ≡ length es) × (drop (parts_in frame).body frame ≡ encode_c w ++ joined (map encode_e es))
PartsAre frame (View.grouped fs w gs h es) =
    ((parts_in frame).groups ≡ length gs) × ((parts_in frame).width ≡ length es)
    × (drop (parts_in frame).body frame ≡ encode_c w ++ (places_bytes gs ++ (encode_c h ++ joined (map encode_e es))))
PartsAre frame (View.set op i j) = ((set_parts_in frame).left ≡ i) × ((set_parts_in frame).right ≡ j)

-- behind the kind, the from count and the from list
behind-from : (k : ℕ) (fs l : List ℕ) → drop (length fs + 2) (k ∷ length fs ∷ fs ++ l) ≡ l
behind-from k fs l =
    let e : length fs + 2 ≡ 2 + length fs = omega arith in
    let frame = k ∷ length fs ∷ fs ++ l in
    ap (λ i. drop i frame) e ∙ sym (drop-drop (length fs) 2 frame) ∙ drop-append_seam fs l

basic-parts : (fs : List ℕ) (w : Cond) (es : List Expr) → PartsAre (view_bytes (View.basic fs w es)) (View.basic fs w es)
unfolding view_bytes parts_in parts_after
basic-parts fs w es =
    let body = encode_c w ++ joined (map encode_e es) in
    let frame = 3 ∷ length fs ∷ fs ++ (length es ∷ body) in
    let b = byte-here frame (length fs + 2) (behind-from 3 fs (length es ∷ body)) in
    let e : length fs + 3 ≡ length fs + 2 + 1 = omega arith in
    (b.0, ap (λ i. drop i frame) e ∙ b.1)

grouped-parts : (fs : List ℕ) (w : Cond) (gs : List Place) (h : Cond) (es : List Expr) → PartsAre (view_bytes (View.grouped fs w gs h es)) (View.grouped fs w gs h es)
unfolding view_bytes parts_in parts_after
grouped-parts fs w gs h es =
    let W = encode_c w in
    let P = places_bytes gs in
    let H = encode_c h in
    let S = joined (map encode_e es) in
    let body = W ++ P ++ H ++ S in
    let frame = 4 ∷ length fs ∷ fs ++ (length gs ∷ length es ∷ body) in
    let b = two_here frame (length fs + 2) (behind-from 4 fs (length gs ∷ length es ∷ body)) in
    let e : length fs + 3 ≡ length fs + 2 + 1 = omega arith in
    let e' : length fs + 4 ≡ length fs + 2 + 2 = omega arith in
    (b.0, ap (λ i. get_or frame i 0) e ∙ b.1, ap (λ i. drop i frame) e' ∙ b.2 ∙ append_assoc (W ++ P) H S ∙ append_assoc W P (H ++ S))

pub view-parts : (q : View) (frame : List ℕ) → frame ≡ view_bytes q → (get_or frame 0 0 ≡ kind_of q) × (names_in frame ≡ front_names q) × PartsAre frame q
unfolding view_bytes froms_in names_in set_parts_in
view-parts q frame e = rw e (kind q, named q, parts q)
  where
    kind : (q : View) → get_or (view_bytes q) 0 0 ≡ kind_of q
    kind (View.basic fs w es) = refl
    kind (View.grouped fs w gs h es) = refl
    kind (View.set op i j) = refl

    named : (q : View) → names_in (view_bytes q) ≡ front_names q
    named (View.basic fs w es) = take-append_seam fs (length es ∷ encode_c w ++ joined (map encode_e es))
    named (View.grouped fs w gs h es) = take-append_seam fs (length gs ∷ length es ∷ encode_c w ++ places_bytes gs ++ encode_c h ++ joined (map encode_e es))
    named (View.set SetOperation.union i j) = refl
    named (View.set SetOperation.intersection i j) = refl

    parts : (q : View) → PartsAre (view_bytes q) q
    parts (View.basic fs w es) = basic-parts fs w es
    parts (View.grouped fs w gs h es) = grouped-parts fs w gs h es
    parts (View.set op i j) = (refl, refl)
