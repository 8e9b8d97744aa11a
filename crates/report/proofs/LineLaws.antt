-- Lines one after the other in a buffer, and the bytes of cells in a frame. Assumes nothing.
use mathlib.Core.Path.{◌≡◌, refl, sym, ap, ap₂, ◌∙◌}
use mathlib.Core.List.{List, [], ◌∷◌, ◌++◌, append_assoc, append-nil}
use Prim.Native.Nat.{ℕ, suc, ◌+◌, ◌*◌, ◌-◌, ◌≤◌, ◌<◌}
use native.Mathlib.Nat.{mul-le-mul}
use native.Mathlib.Omega.{arith}
use lib.IntN.{ℤ, pos}
use lib.ListN.{length, get_or, take, drop, set, length-append, length-take, length-set, take-append-drop}
use lib.Seq.{take-suc, take-suc-set, take-length, drop-drop}
use Rattle.value.specs.Integer.{high_byte, low_byte}
use Rattle.value.proofs.Decides.{by-test}
use Rattle.text.specs.Text.{line, text_of}
use Rattle.text.specs.Answers.{fits, behind, Written}
use Rattle.text.proofs.Laws.{text-one, text-append}
use Rattle.text.proofs.Writing.{length-line, behind-line, take-written, drop-written, length-written}
use Rattle.language.specs.OutputOf.{number_bytes}
use Rattle.report.specs.Lines.{Grown, CellsPut, TableLined}

-- ---- lines

pub grown-line : {f out out' : List ℕ} {at r : ℕ} → Written f at out r out' → at + length (line f) ≤ length out → Grown (f ∷ []) at out r out'
grown-line {f} {out} {out'} {at} {r} w room = record {
  next = w.next ∙ behind-line f out at room ∙ ap (λ (l : List ℕ). at + length l) (sym (text-one f));
  front = rw (w.next, w.left, text-one f) (take-written f out at room);
  back = rw (w.next, w.left) (drop-written f out at room);
  size = ap length w.left ∙ length-written f out at;
}

pub grown-more : {fs gs : List (List ℕ)} {out out' out'' : List ℕ} {at r s : ℕ} → Grown fs at out r out' → Grown gs r out' s out'' → Grown (fs ++ gs) at out s out''
grown-more {fs} {gs} {out} {out'} {out''} {at} {r} {s} a b =
    let n : length (text_of (fs ++ gs)) ≡ length (text_of fs) + length (text_of gs) = ap length (text-append fs gs) ∙ length-append (text_of fs) (text_of gs) in
    let further : s ≡ r + (s - r) = omega (arith, b.next) in
    record {
      next = omega (arith, a.next, b.next, n);
      front = b.front ∙ ap (λ (l : List ℕ). l ++ text_of gs) a.front ∙ append_assoc (take at out) (text_of fs) (text_of gs)
          ∙ ap (λ (l : List ℕ). take at out ++ l) (sym (text-append fs gs));
      back = b.back ∙ ap (λ i. drop i out') further ∙ sym (drop-drop (s - r) r out') ∙ ap (drop (s - r)) a.back ∙ drop-drop (s - r) r out
          ∙ ap (λ i. drop i out) (sym further);
      size = b.size ∙ a.size;
    }

pub grown-none : (at : ℕ) (out : List ℕ) → Grown [] at out at out
unfolding text_of
grown-none at out = record { next = omega arith; front = sym (append-nil (take at out)); back = refl; size = refl }

-- lines at the front of a buffer
pub grown-whole : {fs : List (List ℕ)} {out out' : List ℕ} {r : ℕ} → Grown fs 0 out r out' → (r ≡ length (text_of fs)) × (out' ≡ text_of fs ++ drop (length (text_of fs)) out)
grown-whole {fs} {out} {out'} {r} g =
    let n : r ≡ length (text_of fs) = omega (arith, g.next) in
    (n, sym (take-append-drop r out') ∙ ap₂ ◌++◌ g.front (g.back ∙ ap (λ i. drop i out) n))

-- ---- the bytes of cells

bytes-snoc : (xs : List ℤ) (z : ℤ) → number_bytes (xs ++ (z ∷ [])) ≡ number_bytes xs ++ (high_byte z ∷ low_byte z ∷ [])
unfolding number_bytes
bytes-snoc [] z = refl
bytes-snoc (x ∷ xs) z = ap (λ (l : List ℕ). high_byte x ∷ low_byte x ∷ l) (bytes-snoc xs z)

-- the first i of them are put
pub record CellsSoFar (cells : List ℤ) (i : ℕ) (frame now : List ℕ) : Type 0 where
  pub size : length now ≡ length frame
  pub put : take (3 + 2 * i) now ≡ take 3 frame ++ number_bytes (take i cells)

module _ {cells : List ℤ} {frame : List ℕ} where
  pub cells-none : CellsSoFar cells 0 frame frame
  unfolding number_bytes
  cells-none = record { size = refl; put = sym (append-nil (take 3 frame)) }

  pub cells-more : {i : ℕ} {now : List ℕ} {high low : ℕ} → CellsSoFar cells i frame now → i < length cells → 4 + 2 * i < length frame
      → high ≡ high_byte (get_or cells i (pos 0)) → low ≡ low_byte (get_or cells i (pos 0))
      → CellsSoFar cells (i + 1) frame (set (set now (3 + 2 * i) high) (4 + 2 * i) low)
  cells-more {i} {now} {high} {low} p h k a b =
      let z : ℤ = get_or cells i (pos 0) in
      let one : List ℕ = set now (3 + 2 * i) high in
      let whole : length now ≡ length frame = p.size in
      let e : i + 1 ≡ suc i = omega arith in
      let e₁ : 4 + 2 * i ≡ suc (3 + 2 * i) = omega arith in
      let e₂ : 3 + 2 * (i + 1) ≡ suc (4 + 2 * i) = omega arith in
      let next : take (i + 1) cells ≡ take i cells ++ (z ∷ []) = ap (λ j. take j cells) e ∙ take-suc cells i (pos 0) h in
      let two : take (3 + 2 * (i + 1)) (set one (4 + 2 * i) low) ≡ take (4 + 2 * i) one ++ (low ∷ []) =
      ap (λ j. take j (set one (4 + 2 * i) low)) e₂ ∙ take-suc-set one (4 + 2 * i) low (simp length-set (omega arith)) in
      let before : take (4 + 2 * i) one ≡ take (3 + 2 * i) now ++ (high ∷ []) =
      ap (λ j. take j one) e₁ ∙ take-suc-set now (3 + 2 * i) high (omega arith) in
      record {
        size = length-set one (4 + 2 * i) low ∙ length-set now (3 + 2 * i) high ∙ p.size;
        put = two ∙ ap (λ (l : List ℕ). l ++ (low ∷ [])) (before ∙ ap (λ (l : List ℕ). l ++ (high ∷ [])) p.put)
            ∙ append_assoc (take 3 frame ++ number_bytes (take i cells)) (high ∷ []) (low ∷ [])
            ∙ append_assoc (take 3 frame) (number_bytes (take i cells)) (high ∷ low ∷ [])
            ∙ ap (λ (l : List ℕ). take 3 frame ++ l)
            (ap₂ (λ (x y : ℕ). number_bytes (take i cells) ++ (x ∷ y ∷ [])) a b ∙ sym (bytes-snoc (take i cells) z) ∙ ap number_bytes (sym next));
      }

  pub cells-all : {i : ℕ} {now : List ℕ} → CellsSoFar cells i frame now → i ≡ length cells → CellsPut cells frame now
  cells-all {i} {now} p e = record {
    size = p.size;
    put = ap (λ j. take (3 + 2 * j) now) (sym e) ∙ p.put ∙ ap (λ j. take 3 frame ++ number_bytes (take j cells)) e ∙ ap (λ (l : List ℤ). take 3 frame ++ number_bytes l) (take-length cells);
  }

-- ---- the line of a table

-- how many cells two bytes can make
pub cells-few : {rows columns : ℕ} → rows ≤ 255 → columns ≤ 255 → rows * columns ≤ 65025
cells-few a b = mul-le-mul a b

behind-near : (f out : List ℕ) (at : ℕ) → behind f at out ≤ at + length (line f)
unfolding behind
behind-near f out at = by-test (fits f at out) (λ e. rw e (omega arith)) (λ e. rw e (omega arith))

module _ {t rows : ℕ} {cells : List ℤ} {at : ℕ} {out : List ℕ} where
  -- no table of a file has so many cells
  pub table_none : 32 < length cells → TableLined t rows cells at out at out
  table_none h = record { size = refl; near = omega arith; lined = λ a room. absurd (omega arith) }

  pub table_done : {frame frame' out' : List ℕ} {r : ℕ} → length frame ≡ 67 → length cells ≤ 32 → take 3 frame ≡ 0x81 ∷ t ∷ rows ∷ []
      → CellsPut cells frame frame' → Written (take (3 + 2 * length cells) frame') at out r out' → TableLined t rows cells at out r out'
  table_done {frame} {frame'} {out'} {r} n few front p w =
      let f : List ℕ = take (3 + 2 * length cells) frame' in
      let own : f ≡ 0x81 ∷ t ∷ rows ∷ number_bytes cells = p.put ∙ ap (λ (l : List ℕ). l ++ number_bytes cells) front in
      let size : length f ≤ 67 = simp length-take (omega (arith, p.size, n)) in
      record {
        size = ap length w.left ∙ length-written f out at;
        near = omega (arith, w.next, behind-near f out at, length-line f, size);
        lined = λ a room. rw own at (grown-line w (omega (arith, length-line f, size, room)));
      }
