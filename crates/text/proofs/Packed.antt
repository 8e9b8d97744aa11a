-- Where the loop over a text stands, and what each turn and each end of it gives.
--     Here    what is read, what is packed, what is left
-- Assumes nothing.
use mathlib.Core.Path.{◌≡◌, refl, sym, ap, subst⁻¹, ◌∙◌}
use mathlib.Core.Bool.{false}
use mathlib.Core.List.{List, [], ◌∷◌, ◌++◌, append_assoc, append-nil}
use Prim.Native.Nat.{ℕ, zero, suc, ◌+◌, ◌*◌, ◌≤◌, ◌<◌}
use native.Mathlib.Numerals.{add-one}
use native.Mathlib.Omega.{arith}
use lib.Dec.{eqb}
use lib.ListN.{length, get_or, take, drop, set, replicate, length-replicate, length-append, length-drop, length-set, drop_of_length-le}
use lib.Seq.{get_or-set_other, take-set-le, take-suc-set, drop-set-add, drop-set-lt, take-add, drop-drop}
use borrow.Author.Tests.{eqb-true, eqb-false, eq-eqb, ne_eqb}
use Rattle.value.proofs.Decides.{by-test}
use Rattle.value.proofs.Places.{from_byte}
use Rattle.text.specs.Text.{Lines, frames, refused, between, line_after, read_on, ended, lines_of}
use Rattle.text.specs.Pair.{PairRead, pair_of}
use Rattle.std.proofs.Common.{Result, Ok, Err}
use Rattle.text.specs.Answers.{pack, blank_frames, Refuses, Decoded}
use Rattle.text.specs.Refusals.{number_of}
use Rattle.text.specs.declared.Frames.{Frames}
use Rattle.text.specs.declared.refusal.Refusal.{Refusal}
use Rattle.text.specs.declared.refusal.Reason.TheVariants.{Line}
use Rattle.text.proofs.Runs.{pair-long, run-byte, run-close, run-no-pair, run_long, run-empty}

pack-snoc : (done : List (List ℕ)) (f : List ℕ) → pack (done ++ f ∷ []) ≡ pack done ++ length f ∷ f
unfolding pack
pack-snoc [] f = ap (λ (l : List ℕ). length f ∷ l) (append-nil f)
pack-snoc (g ∷ gs) f = ap (λ (l : List ℕ). length g ∷ l) (ap (λ (l : List ℕ). g ++ l) (pack-snoc gs f) ∙ sym (append_assoc g (pack gs) (length f ∷ f)))

-- a line that is closed: its length stands before its bytes
closed-bytes : (bytes : List ℕ) (start size : ℕ) → start < length bytes
    → take (start + 1 + size) (set bytes start size) ≡ take start bytes ++ size ∷ take size (drop (start + 1) bytes)
closed-bytes bytes start size h =
    let front : take (start + 1) (set bytes start size) ≡ take start bytes ++ size ∷ [] = rw (add-one, take-suc-set bytes start size h) in
    let rest : drop (start + 1) (set bytes start size) ≡ drop (start + 1) bytes = drop-set-lt (start + 1) bytes start size (omega arith) in
    take-add (start + 1) size (set bytes start size) ∙ rw (front, rest, append_assoc)

-- a byte more
opened-bytes : (bytes : List ℕ) (from size v : ℕ) → from + size < length bytes
    → take (size + 1) (drop from (set bytes (from + size) v)) ≡ take size (drop from bytes) ++ v ∷ []
opened-bytes bytes from size v h =
    let long : size < length (drop from bytes) = simp length-drop (omega arith) in
    rw (drop-set-add, add-one, take-suc-set (drop from bytes) size v long)

pub record Here (text : List ℕ) (r : Frames) (line at size : ℕ) : Type 0 where
  pub done : List (List ℕ)
  pub frame : List ℕ
  pub left : read_on (between [] []) text ≡ read_on (between done frame) (drop at text)
  pub packed : take r.used r.bytes ≡ pack done
  pub used-is : r.used ≡ length (pack done)
  pub opened : take size (drop (r.used + 1) r.bytes) ≡ frame
  pub size_is : size ≡ length frame
  -- the length of the line that is read is not yet there, and nothing stands behind its bytes
  pub slot : get_or r.bytes r.used 0 ≡ 0
  pub rest : (i : ℕ) → r.used + 1 + size ≤ i → get_or r.bytes i 0 ≡ 0
  pub line-is : line ≡ line_after done
  pub within : at ≤ length text
  -- the shortest line has three characters and takes two bytes
  pub room : 3 * r.used + 4 * size ≤ 2 * at
  pub few : size ≤ 120
  pub counted : line ≤ at + 1
  pub wide : length r.bytes ≡ 5462

zero-at : (n i : ℕ) → get_or {A = ℕ} (replicate n 0) i 0 ≡ 0
zero-at zero i = refl
zero-at (suc n) zero = refl
zero-at (suc n) (suc i) = zero-at n i

pub begin : (text : List ℕ) (r : Frames) → r ≡ blank_frames → Here text r 1 0 0
unfolding pack blank_frames
begin text r b =
    let bytes : r.bytes ≡ replicate 5462 0 = ap (λ (x : Frames). x.bytes) b in
    let used : r.used ≡ 0 = ap (λ (x : Frames). x.used) b in
    record {
      done = [];
      frame = [];
      left = refl;
      packed = ap (λ (n : ℕ). take n r.bytes) used;
      used-is = used;
      opened = refl;
      size_is = refl;
      slot = ap (λ (l : List ℕ). get_or l r.used 0) bytes ∙ zero-at 5462 r.used;
      rest = λ i _. ap (λ (l : List ℕ). get_or l i 0) bytes ∙ zero-at 5462 i;
      line-is = refl;
      within = omega arith;
      room = omega (arith, used);
      few = omega arith;
      counted = omega arith;
      wide = ap length bytes ∙ length-replicate {A = ℕ} 5462 0;
    }

-- a refusal at the line that is read
abbrev line_refusal : ℕ → Refusal
line_refusal k = record { reason = Line; line = k }

module _ {text : List ℕ} {r : Frames} {line at size : ℕ} (h : Here text r line at size) where
  refuses : {b : Refusal} → b ≡ line_refusal line → lines_of text ≡ refused 2 (line_after h.done) → Decoded (lines_of text) (Err b)
  refuses {b} q e =
      subst⁻¹ (λ (l : Lines). Decoded l (Err b)) e (record { number = ap (λ (x : Refusal). number_of x.reason) q; line = ap (λ (x : Refusal). x.line) q ∙ h.line-is })

  -- what is left begins with a character, and gives what it gives
  ends : at < length text → (l : Lines) → ended (read_on (between h.done h.frame) (get_or text at 0 ∷ drop (at + 1) text)) ≡ l → lines_of text ≡ l
  unfolding lines_of
  ends k l e = ap ended (h.left ∙ ap (read_on (between h.done h.frame)) (from_byte text at k)) ∙ e

  pub empty-line : {b : Refusal} → b ≡ line_refusal line → at < length text → get_or text at 0 ≡ 10 → size ≡ 0 → Decoded (lines_of text) (Err b)
  empty-line q k c z = refuses q (ends k _ (run-empty _ _ _ _ (eq-eqb _ 10 c) (nil h.frame (omega (arith, h.size_is)))))
    where
      nil : (l : List ℕ) → length l ≡ 0 → l ≡ []
      nil [] e = refl
      nil (x ∷ xs) e = absurd (omega arith)

  pub long-line : {b : Refusal} → b ≡ line_refusal line → at < length text → (get_or text at 0 ≡ 10 → ⊥) → 120 ≤ size → Decoded (lines_of text) (Err b)
  long-line q k c z = refuses q (ends k _ (run_long _ _ _ _ (ne_eqb _ 10 c) (omega (arith, h.size_is))))

  -- the character at `at` is no LF
  other : at < length text → (get_or text at 0 ≡ 10 → ⊥) → eqb (get_or (drop at text) 0 0) 10 ≡ false
  other k c = rw (from_byte text at k) (ne_eqb _ 10 c)

  pub no-pair : {b : Refusal} → b ≡ line_refusal line → at < length text → (get_or text at 0 ≡ 10 → ⊥) → pair_of (drop at text) ≡ PairRead.refused 2
      → Decoded (lines_of text) (Err b)
  unfolding lines_of
  no-pair q k c e = refuses q (ap ended h.left ∙ run-no-pair h.done h.frame (drop at text) (other k c) (simp length-drop (omega arith)) e)

  pub one_byte : (v : ℕ) → length text ≤ 8192 → at < length text → (get_or text at 0 ≡ 10 → ⊥) → size < 120 → pair_of (drop at text) ≡ PairRead.byte v
      → Here text (record { bytes = set r.bytes (r.used + 1 + size) v; used = r.used }) line (at + 2) (size + 1)
  one_byte v s k c few e =
      let long : 2 ≤ length (drop at text) = pair-long (drop at text) e in
      let two : at + 2 ≤ length text = omega (arith, simp length-drop at long) in
      let slot : r.used + 1 + size < length r.bytes = omega arith in
      record {
        done = h.done;
        frame = h.frame ++ v ∷ [];
        left = h.left ∙ run-byte h.done h.frame (drop at text) v (other k c) (omega arith) e ∙ rw drop-drop;
        packed = take-set-le r.used r.bytes (r.used + 1 + size) v (omega arith) ∙ h.packed;
        used-is = h.used-is;
        opened = opened-bytes r.bytes (r.used + 1) size v slot ∙ ap (λ (l : List ℕ). l ++ v ∷ []) h.opened;
        size_is = simp length-append (omega arith);
        slot = get_or-set_other r.bytes (r.used + 1 + size) r.used v 0 (λ q. omega arith) ∙ h.slot;
        rest = λ i l. get_or-set_other r.bytes (r.used + 1 + size) i v 0 (λ q. omega arith) ∙ h.rest i (omega arith);
        line-is = h.line-is;
        within = two;
        room = omega arith;
        few = omega arith;
        counted = omega arith;
        wide = simp length-set h.wide;
      }

  pub close-line : length text ≤ 8192 → at < length text → get_or text at 0 ≡ 10 → (size ≡ 0 → ⊥)
      → Here text (record { bytes = set r.bytes r.used size; used = r.used + 1 + size }) (line + 1) (at + 1) 0
  close-line s k c full =
      let sized : 0 < length h.frame = omega arith in
      record {
        done = h.done ++ h.frame ∷ [];
        frame = [];
        left = h.left ∙ ap (read_on (between h.done h.frame)) (from_byte text at k) ∙ run-close h.done h.frame _ _ (eq-eqb _ 10 c) sized;
        packed = closed-bytes r.bytes r.used size (omega arith) ∙ rw (h.packed, h.opened, h.size_is, pack-snoc);
        used-is = rw pack-snoc (simp length-append (omega arith));
        opened = refl;
        size_is = refl;
        slot = get_or-set_other r.bytes r.used (r.used + 1 + size) size 0 (λ q. omega arith) ∙ h.rest (r.used + 1 + size) (omega arith);
        rest = λ i l. get_or-set_other r.bytes r.used i size 0 (λ q. omega arith) ∙ h.rest i (omega arith);
        line-is = simp length-append (omega arith);
        within = omega arith;
        room = omega arith;
        few = omega arith;
        counted = omega arith;
        wide = simp length-set h.wide;
      }

  -- the text is at its end
  over : length text ≤ at → lines_of text ≡ ended (between h.done h.frame)
  unfolding lines_of read_on
  over k = ap ended (h.left ∙ ap (read_on (between h.done h.frame)) (drop_of_length-le text k))

  pub good-end : length text ≤ at → size ≡ 0 → Decoded (lines_of text) (Ok r)
  good-end k z =
      subst⁻¹ (λ (l : Lines). Decoded l (Ok r)) (over k ∙ go h.frame (omega arith))
      (record { used = h.used-is; packed = h.packed; rest = behind; wide = h.wide })
    where
      behind : (i : ℕ) → r.used ≤ i → get_or r.bytes i 0 ≡ 0
      behind i l = by-test (eqb i r.used)
          (λ t. rw (eqb-true i r.used t) h.slot)
          (λ t. h.rest i (omega (arith, eqb-false i r.used t)))

      go : (f : List ℕ) → length f ≡ 0 → ended (between h.done f) ≡ frames h.done
      go [] e = refl
      go (b ∷ bs) e = absurd (omega arith)

  pub bad-end : {b : Refusal} → b ≡ line_refusal line → length text ≤ at → (size ≡ 0 → ⊥) → Decoded (lines_of text) (Err b)
  bad-end q k z = refuses q (over k ∙ go h.frame (omega arith))
    where
      go : (f : List ℕ) → 0 < length f → ended (between h.done f) ≡ refused 2 (line_after h.done)
      go [] e = absurd (omega arith)
      go (b ∷ bs) e = refl
