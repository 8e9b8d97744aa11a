-- Frames of bytes: what a frame's reader reads is written by those bytes, and its fields are in their limits. Assumes nothing.
use mathlib.Core.Path.{◌≡◌, refl, sym, ap, subst₂, ◌∙◌}
use mathlib.Core.Bool.{true, ◌&&◌, cond}
use mathlib.Core.List.{List, [], ◌∷◌, ◌++◌, map, append_assoc}
use Prim.Native.Nat.{ℕ, zero, suc, ◌^◌, ◌≤◌}
use native.Mathlib.Omega.{arith}
use lib.Dec.{ltb, leb, eqb}
use lib.ListN.{length, get_or}
use lib.Signed.{le_z}
use borrow.Author.Tests.{ltb-true}
use Rattle.value.specs.Bag.{All}
use Rattle.value.specs.Integer.{bytes_z}
use Rattle.value.proofs.Linear.{le_z-true}
use Rattle.value.proofs.TwosComplement.{high-back, low-back}
use Rattle.value.proofs.Values.{all_map}
use Rattle.meaning.specs.Lists.{joined}
use Rattle.meaning.specs.Syntax.{Place, Pair, SetOperation}
use Rattle.language.specs.Prefix.{encode_e, encode_c}
use Rattle.language.specs.Reading.{Reader, Open, open_items, read_e, read_c, InLimitsE, InLimitsC, Read}
use Rattle.language.proofs.Readers.{Byte, one, Sound, sound-done, sound-refuse, sound-bind, sound-either, sound-byte, sound-byte_if}
use Rattle.language.proofs.PrefixForms.{constant-limits, sound_e, sound_c}
use Rattle.language.specs.Draft.{Draft, Item, relation_count, is_table, is_view, width, schemas_of, stage_of}
use Rattle.language.specs.Frames.{repeated, field, ending, column_field, table_frame, pair_field, key_frame, from_list, basic_frame, place_field, grouped_frame, set_frame, goal_frame, frame}
use Rattle.language.specs.Legal.{Limits, LegalColumn, LegalTable, LegalPair, KeyFields, LegalFrom, LegalPlace, NamesView, LegalSet, ViewFields}
use Rattle.language.specs.Written.{column_bytes, table_bytes, key_bytes, set_kind, view_bytes, goal_bytes}
use Rattle.language.proofs.FairReaders.{limits-test}
use Rattle.language.proofs.MaskLaws.{length-mask_bits, mask-back}
use Rattle.language.proofs.Turns.{item_bytes, by_kind, count-schemas, width-table, names-view}

-- ---- the readers of frames

pub sound-field : (lo hi : ℕ) → Sound [] (field lo hi) one (Limits lo hi)
sound-field lo hi =
    sound-bind sound-byte (λ b _. sound-either (leb lo b && leb b hi) (λ t. sound-done b refl (limits-test lo hi b t)) (λ _. sound-refuse))

pub sound-times : {A : Type 0} {r : Reader A} {enc : A → List ℕ} {P : A → Type 0} → Sound [] r enc P → (n : ℕ)
    → Sound [] (repeated n r) (λ xs. joined (map enc xs)) (λ xs. (length xs ≡ n) × All P xs)
sound-times s zero = sound-done [] refl (refl, All.nil)
sound-times s (suc n) = sound-bind s (λ x p. sound-bind (sound-times s n) (λ xs q. sound-done (x ∷ xs) refl (ap suc q.0, All.cons p q.1)))

pub sound-ending : {A : Type 0} {pre : List ℕ} {enc : A → List ℕ} {P : A → Type 0} (v : A) → pre ≡ enc v → P v → Sound pre (ending v) enc P
sound-ending {A} {pre} {enc} {P} v e p = record { reads = go }
  where
    go : (bs : List ℕ) (a : A) (rest : List ℕ) → All Byte bs → ending v bs ≡ Read.ok a rest → (pre ++ bs ≡ enc a ++ rest) × P a
    go [] a rest all q = (sound-done {pre = pre} {enc = enc} {P = P} v e p).reads [] a rest all q
    go (b ∷ bs) a rest all q = let z : ◌≡◌ {A = ℕ} 0 1 = cc in absurd (omega arith)

-- the same reader behind other bytes
sound-behind : {A : Type 0} {pre : List ℕ} {r : Reader A} {enc enc' : A → List ℕ} {P Q : A → Type 0} → Sound [] r enc P
    → ((a : A) → P a → (pre ++ enc a ≡ enc' a) × Q a) → Sound pre r enc' Q
sound-behind {pre = pre} {enc = enc} s f =
    record {
      reads = λ bs a rest all e.
          let h = s.reads bs a rest all e in
          let k = f a h.1 in
          (ap (λ (l : List ℕ). pre ++ l) h.0 ∙ sym (append_assoc pre (enc a) rest) ∙ ap (λ (l : List ℕ). l ++ rest) k.0, k.1);
    }

pub joined-ones : (xs : List ℕ) → joined (map one xs) ≡ xs
joined-ones [] = refl
joined-ones (x ∷ xs) = ap (λ (l : List ℕ). x ∷ l) (joined-ones xs)

-- ---- each kind

abbrev pub pair_bytes : Pair → List ℕ
pair_bytes p = p.child ∷ p.parent ∷ []

abbrev pub place_bytes : Place → List ℕ
place_bytes p = p.item ∷ p.column ∷ []

pub regroup : {A : Type 0} (a b c e : List A) → a ++ b ++ c ++ e ≡ a ++ (b ++ (c ++ e))
regroup a b c e = simp append_assoc

pub sign-back : (s : ℕ) → s ≤ 1 → s ≡ cond (eqb s 1) 1 0
sign-back zero h = refl
sign-back (suc zero) h = refl
sign-back (suc (suc s)) h = absurd (omega arith)

sound-column : Sound [] column_field column_bytes LegalColumn
sound-column =
    sound-bind sound-byte (λ a p. sound-bind sound-byte (λ b q. sound-bind sound-byte (λ c r. sound-bind sound-byte (λ d s.
    sound-either (le_z (bytes_z a b) (bytes_z c d)) (λ t. sound-done (record { lo = bytes_z a b; hi = bytes_z c d })
    (rw (high-back a b p q, low-back a b p q, high-back c d r s, low-back c d r s))
    (record { low = (constant-limits a b p q).0; high = (constant-limits c d r s).1; ordered = le_z-true (bytes_z a b) (bytes_z c d) t }))
    (λ _. sound-refuse)))))

sound-pair : (c p : ℕ) → Sound [] (pair_field c p) pair_bytes (LegalPair c p)
sound-pair c p = sound-bind (sound-byte_if 6 (λ i. ltb i c)) (λ i hi. sound-bind (sound-byte_if 6 (λ j. ltb j p)) (λ j hj.
    sound-done (record { child = i; parent = j }) refl (record { child = ltb-true i c hi; parent = ltb-true j p hj })))

sound-expression : (o : Open) → Sound [] (read_e o) encode_e (InLimitsE o)
sound-expression o = record { reads = sound_e o }

sound-condition : (o : Open) → Sound [] (read_c o) encode_c (InLimitsC o)
sound-condition o = record { reads = sound_c o }

sound-place : (cols : List ℕ) → Sound [] (place_field cols) place_bytes (LegalPlace cols)
sound-place cols =
    sound-bind (sound-byte_if 6 (λ i. ltb i (length cols))) (λ i hi. sound-bind (sound-byte_if 6 (λ c. ltb c (get_or cols i 0))) (λ c hc.
    sound-done (record { item = i; column = c }) refl (record { item = ltb-true i (length cols) hi; column = ltb-true c (get_or cols i 0) hc })))

module _ (d : Draft) where
  abbrev pub Fields : Item → Type 0
  Fields (Item.table t) = LegalTable t
  Fields (Item.key k) = KeyFields d.tables k
  Fields (Item.view q) = ViewFields (length d.tables) (schemas_of d) q
  Fields (Item.goal g) = NamesView (length d.tables) (relation_count d) g.view

  sound-table : Sound (one 1) table_frame item_bytes Fields
  unfolding table_bytes
  sound-table =
      sound-bind (sound-field 0 8) (λ r hr. sound-bind (sound-field 1 4) (λ n hn. sound-bind (sound-byte_if 5 (λ m. ltb m (2 ^ n))) (λ m hm.
      sound-bind (sound-times sound-column n) (λ cs h. sound-ending _
      (rw (h.0, mask-back n m (ltb-true m (2 ^ n) hm)))
      (record { rows = hr; count = rw h.0 hn; key = length-mask_bits n m ∙ sym h.0; columns = h.1 })))))

  sound-key : Sound (one 2) (key_frame d) item_bytes Fields
  unfolding key_bytes
  sound-key =
      sound-bind (sound-byte_if 6 (is_table d)) (λ c hc. sound-bind (sound-byte_if 6 (is_table d)) (λ p hp. sound-bind (sound-field 1 4) (λ n hn.
      sound-bind (sound-times (sound-pair (width d c) (width d p)) n) (λ ps h. sound-ending _ (rw h.0)
      (let hc' = ltb-true c (length d.tables) hc in
      let hp' = ltb-true p (length d.tables) hp in
      record {
        child = hc';
        parent = hp';
        count = rw h.0 hn;
        pairs = subst₂ (λ (x y : ℕ). All (LegalPair x y) ps) (width-table d c hc') (width-table d p hp') h.1;
      })))))

  sound-from : Sound [] (from_list d) (λ fs. length fs ∷ fs) (LegalFrom (schemas_of d))
  sound-from = sound-bind (sound-field 1 3) (λ n hn.
      sound-behind (sound-times (sound-byte_if 6 (λ i. ltb i (relation_count d))) n) (λ fs h.
      (rw (h.0, joined-ones fs), record { count = rw h.0 hn; earlier = rw (count-schemas d) (all_map (λ i t. ltb-true i (relation_count d) t) h.1) })))

  sound-basic : Sound (one 3) (basic_frame d) item_bytes Fields
  unfolding view_bytes
  sound-basic =
      sound-bind sound-from (λ fs hf. sound-bind (sound-field 1 8) (λ n hn. let o = open_items (schemas_of d) fs in
      sound-bind (sound-condition o) (λ w hw. sound-bind (sound-times (sound-expression o) n) (λ es h. sound-ending _
      (simp (append_assoc, h.0))
      (record { relations = hf; condition = hw; select = record { count = rw h.0 hn; limits = h.1 } })))))

  sound-grouped : Sound (one 4) (grouped_frame d) item_bytes Fields
  unfolding view_bytes
  sound-grouped =
      sound-bind sound-from (λ fs hf. sound-bind (sound-field 0 4) (λ g hg. sound-bind (sound-field 1 8) (λ n hn. let o = open_items (schemas_of d) fs in
      sound-bind (sound-condition o) (λ w hw. sound-bind (sound-times (sound-place o.widths) g) (λ gs hs. sound-bind (sound-condition o) (λ v hv.
      sound-bind (sound-times (sound-expression o) n) (λ es h. sound-ending _
      (simp (append_assoc, h.0, hs.0)
      (ap (λ (l : List ℕ). 4 ∷ length fs ∷ (fs ++ g ∷ n ∷ l)) (sym (regroup (encode_c w) (joined (map _ gs)) (encode_c v) (joined (map encode_e es))))))
      (record {
        relations = hf;
        count = rw hs.0 hg;
        condition = hw;
        grouping = hs.1;
        having = hv;
        select = record { count = rw h.0 hn; limits = h.1 };
      }))))))))

  set-fields : (i j : ℕ) → is_view d i ≡ true → is_view d j ≡ true → LegalSet (length d.tables) (schemas_of d) i j
  set-fields i j p q = record { left = rw (count-schemas d) (names-view d i p); right = rw (count-schemas d) (names-view d j q) }

  sound-set : (op : SetOperation) → Sound (one (set_kind op)) (set_frame d op) item_bytes Fields
  unfolding view_bytes
  sound-set op =
      sound-bind (sound-byte_if 6 (is_view d)) (λ i p. sound-bind (sound-byte_if 6 (is_view d)) (λ j q. sound-ending _ refl (set-fields i j p q)))

  sound-goal : Sound (one 7) (goal_frame d) item_bytes Fields
  unfolding goal_bytes
  sound-goal =
      sound-bind (sound-byte_if 6 (is_view d)) (λ v p. sound-bind (sound-field 0 1) (λ s h. sound-ending _ (ap (λ (x : ℕ). 7 ∷ v ∷ x ∷ []) (sign-back s h.most)) (names-view d v p)))

  pub sound-frame : (k : ℕ) → 1 ≤ stage_of k → Sound (one k) (frame d k) item_bytes Fields
  sound-frame =
      by_kind (λ k. Sound (one k) (frame d k) item_bytes Fields) sound-table sound-key sound-basic sound-grouped
      (sound-set SetOperation.union) (sound-set SetOperation.intersection) sound-goal
