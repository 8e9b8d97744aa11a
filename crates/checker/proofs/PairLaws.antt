-- The pairs of a foreign key: what is read of them, and the parent's key against its mask. Assumes nothing.
use mathlib.Core.Path.{◌≡◌, refl, sym, ap, ap₂, ◌∙◌}
use mathlib.Core.Bool.{Bool, true, false, cond}
use mathlib.Core.List.{List, [], ◌∷◌}
use Prim.Native.Nat.{ℕ, zero, suc, ◌+◌, ◌*◌, ◌-◌, ◌/◌, ◌≤◌, ◌<◌}
use native.Mathlib.Numerals.{add-one}
use native.Mathlib.Omega.{arith}
use lib.Dec.{eqb}
use lib.ListN.{length, get_or, drop}
use lib.Seq.{get_or-drop, drop-drop}
use Rattle.value.specs.Bag.{tick, count_if}
use Rattle.value.proofs.Decides.{by-test}
use Rattle.meaning.specs.Syntax.{Pair}
use Rattle.language.specs.Reading.{Read, done, refuse, ◌>>=◌, byte_if, either}
use Rattle.language.proofs.Readers.{then_ok}
use Rattle.language.specs.Frames.{repeated, pair_field, exactly_key}
use Rattle.language.specs.Written.{mask_of}
use Rattle.language.proofs.MaskLaws.{bit-first, bits-after}
use Rattle.checker.specs.Faults.{first, under}
use Rattle.checker.specs.FixedFaults.{parent_count, column_pairing, pairing}
use Rattle.checker.proofs.FieldLaws.{first-none, first_some}
use Rattle.checker.proofs.SizedLaws.{sized-byte_if, sized-pair}

-- ---- what is read

byte-value : (n : ℕ) (p : ℕ → Bool) (bs : List ℕ) (v : ℕ) (rest : List ℕ) → byte_if n p bs ≡ Read.ok v rest → v ≡ get_or bs 0 0
byte-value n p [] v rest e = let y : ◌≡◌ {A = ℕ} 0 1 = cc in absurd (omega arith)
byte-value n p (b ∷ bs) v rest e = go (p b) e
  where
    go : (t : Bool) → either t (done b) (refuse n) bs ≡ Read.ok v rest → v ≡ b
    go true e = cc
    go false e = let y : ◌≡◌ {A = ℕ} 0 1 = cc in absurd (omega arith)

module _ (c p : ℕ) (frame : List ℕ) where
  pair-parent : (at : ℕ) (q : Pair) (left : List ℕ) → pair_field c p (drop at frame) ≡ Read.ok q left → q.parent ≡ get_or frame (at + 1) 0
  pair-parent at q left e =
      let (i, mid, a, f) = then_ok (byte_if 6 (under c) (drop at frame)) (λ i. byte_if 6 (under p) >>= λ j. done (record { child = i; parent = j })) e in
      let (j, end, b, g) = then_ok (byte_if 6 (under p) mid) (λ j. done (record { child = i; parent = j })) f in
      let same : q ≡ record { child = i; parent = j } = cc in
      let there : mid ≡ drop 1 (drop at frame) = (sized-byte_if 6 (under c) (λ z. omega arith)).rest (drop at frame) i mid a in
      ap (λ x. x.parent) same
      ∙ byte-value 6 (under p) mid j end b
      ∙ ap (λ l. get_or l 0 0) there
      ∙ get_or-drop 1 (drop at frame) 0 0
      ∙ get_or-drop at frame 1 0

  -- how often a column is a parent column can be counted in the bytes
  pub parents-read : (i n at : ℕ) (ps : List Pair) (left : List ℕ) → repeated n (pair_field c p) (drop at frame) ≡ Read.ok ps left
      → count_if (λ q. eqb q.parent i) ps ≡ parent_count frame i at n
  unfolding parent_count
  parents-read i zero at ps left e = let same : ps ≡ [] = cc in rw same
  parents-read i (suc n) at ps left e =
      let (q, mid, a, f) = then_ok (pair_field c p (drop at frame)) (λ x. repeated n (pair_field c p) >>= λ xs. done (x ∷ xs)) e in
      let (qs, end, b, g) = then_ok (repeated n (pair_field c p) mid) (λ xs. done (q ∷ xs)) f in
      let same : ps ≡ q ∷ qs = cc in
      let there : mid ≡ drop (at + 2) frame = (sized-pair c p).rest (drop at frame) q mid a ∙ drop-drop 2 at frame in
      let more : repeated n (pair_field c p) (drop (at + 2) frame) ≡ Read.ok qs end = ap (repeated n (pair_field c p)) (sym there) ∙ b in
      ap (count_if (λ q. eqb q.parent i)) same
      ∙ ap₂ tick (ap (λ k. eqb k i) (pair-parent at q mid a)) (parents-read i n (at + 2) qs end more)

-- ---- the parent's key

module _ (frame : List ℕ) (n : ℕ) (ps : List Pair) (counts : (i : ℕ) → count_if (λ q. eqb q.parent i) ps ≡ parent_count frame i 4 n) where
  pub pairing-exact : (i : ℕ) (key : List Bool) → cond (exactly_key i key ps) 0 6 ≡ pairing frame n i (length key) (mask_of key)
  unfolding pairing column_pairing
  pairing-exact i [] = refl
  pairing-exact i (k ∷ ks) =
      rw (counts i, bit-first k ks, bits-after k ks, add-one i)
      (by-test (eqb (parent_count frame i 4 n) (cond k 1 0))
      (λ t. rw t (pairing-exact (suc i) ks ∙ sym (first-none _)))
      (λ t. rw t (sym (first_some 6 _ (λ e. omega arith)))))

-- ---- the turns of the loops

tick-sum : (t : Bool) (k : ℕ) → tick t k ≡ tick t 0 + k
tick-sum true k = omega arith
tick-sum false k = omega arith

module _ (frame : List ℕ) (i n : ℕ) where
  -- pair k is counted, and n - k pairs are left from it on
  pub parents-more : (k count one total : ℕ) → k < n → one ≡ tick (eqb (get_or frame (5 + k * 2) 0) i) 0
      → count + parent_count frame i (4 + k * 2) (n - k) ≡ total → (count + one) + parent_count frame i (4 + (k + 1) * 2) (n - (k + 1)) ≡ total
  unfolding parent_count
  parents-more k count one total h e inv =
      let z : n - k ≡ suc (n - (k + 1)) = omega arith in
      let a : 4 + k * 2 + 1 ≡ 5 + k * 2 = omega arith in
      let b : 4 + (k + 1) * 2 ≡ 4 + k * 2 + 2 = omega arith in
      let s = tick-sum (eqb (get_or frame (5 + k * 2) 0) i) (parent_count frame i (4 + k * 2 + 2) (n - (k + 1))) in
      let v = rw (z, a) at inv in
      rw b (omega arith)

  pub parents-end : (k count total : ℕ) → n ≤ k → count + parent_count frame i (4 + k * 2) (n - k) ≡ total → count ≡ total
  unfolding parent_count
  parents-end k count total h inv = let z : n - k ≡ 0 = omega arith in let v = rw z at inv in omega arith

module _ (frame : List ℕ) (n width i mask : ℕ) where
  pairing-more : i < width → pairing frame n i (width - i) mask ≡ first (column_pairing frame n i mask) (pairing frame n (i + 1) (width - (i + 1)) (mask / 2))
  unfolding pairing
  pairing-more h = let z : width - i ≡ suc (width - (i + 1)) = omega arith in rw z

  pub pairing-stop : (found : ℕ) → i < width → found ≡ column_pairing frame n i mask → (found ≡ 0 → ⊥) → pairing frame n i (width - i) mask ≡ found
  pairing-stop found h e f = pairing-more h ∙ first_some _ _ (λ z. f (e ∙ z)) ∙ sym e

  pub pairing-go : i < width → 0 ≡ column_pairing frame n i mask → pairing frame n i (width - i) mask ≡ pairing frame n (i + 1) (width - (i + 1)) (mask / 2)
  pairing-go h e = pairing-more h ∙ ap (λ k. first k (pairing frame n (i + 1) (width - (i + 1)) (mask / 2))) (sym e) ∙ first-none _

  pub pairing-end : width ≤ i → pairing frame n i (width - i) mask ≡ 0
  unfolding pairing
  pairing-end h = let z : width - i ≡ 0 = omega arith in rw z
