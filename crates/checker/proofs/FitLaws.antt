-- The key of every table of a draft that frames make says of each column whether it is in it: `KeysFit` holds of the empty draft, and a
-- frame that is taken keeps it. Assumes nothing.
use mathlib.Core.Path.{◌≡◌, refl, sym, ap, subst, ◌∙◌}
use mathlib.Core.Bool.{Bool, true, false, cond}
use mathlib.Core.List.{List, [], ◌∷◌, ◌++◌}
use Prim.Native.Nat.{ℕ, zero, suc, ◌^◌, ◌<◌}
use native.Mathlib.Omega.{arith}
use lib.Dec.{ltb, eqb}
use lib.ListN.{length, get_or, get_or-append}
use borrow.Author.Tests.{ltb-true, ltb-false}
use Rattle.value.proofs.Decides.{by-test}
use Rattle.meaning.specs.Syntax.{SetOperation}
use Rattle.language.specs.Reading.{Read, Reader, ◌>>=◌, either, byte_if, open_items, read_e, read_c}
use Rattle.language.proofs.Readers.{then_ok}
use Rattle.meaning.proofs.Stacks.{length-snoc}
use Rattle.language.specs.Draft.{Draft, Item, empty, added, is_table, is_view, width, in_order, has_room, schemas_of}
use Rattle.language.specs.Frames.{repeated, field, ending, column_field, pair_field, place_field, from_list, table_frame, key_frame, basic_frame, grouped_frame, set_frame, goal_frame, frame, whole_fault, no_table}
use Rattle.language.specs.Check.{Checked, read_checked, check_frame}
use Rattle.checker.specs.FixedFaults.{KeysFit}
use Rattle.language.proofs.MaskLaws.{length-mask_bits}

-- ---- what a reader reads has a property

pub record Yields {A : Type 0} (P : A → Type 0) (r : Reader A) : Type 0 where
  pub reads : (bs : List ℕ) (x : A) (rest : List ℕ) → r bs ≡ Read.ok x rest → P x

module _ {B : Type 0} {P : B → Type 0} where
  yields-bind : {A : Type 0} {Q : A → Type 0} {m : Reader A} {f : A → Reader B} → Yields Q m → ((a : A) → Q a → Yields P (f a)) → Yields P (m >>= f)
  yields-bind {m = m} {f = f} s t =
      record { reads = λ bs x rest e. let (a, mid, p, q) = then_ok (m bs) f e in (t a (s.reads bs a mid p)).reads mid x rest q }

  yields-after : {A : Type 0} (m : Reader A) {f : A → Reader B} → ((a : A) → Yields P (f a)) → Yields P (m >>= f)
  yields-after m {f = f} t = record { reads = λ bs x rest e. let (a, mid, p, q) = then_ok (m bs) f e in (t a).reads mid x rest q }

  yields-either : {r s : Reader B} (t : Bool) → Yields P r → Yields P s → Yields P (either t r s)
  yields-either true f g = f
  yields-either false f g = g

  yields-ending : (y : B) → P y → Yields P (ending y)
  yields-ending y h = record { reads = λ bs. go bs }
    where
      go : (bs : List ℕ) (x : B) (rest : List ℕ) → ending y bs ≡ Read.ok x rest → P x
      go [] x rest e = let q : y ≡ x = cc in subst P q h
      go (b ∷ bs) x rest e = let z : ◌≡◌ {A = ℕ} 0 1 = cc in absurd (omega arith)

yields-times : {A : Type 0} (r : Reader A) (n : ℕ) → Yields (λ xs. length xs ≡ n) (repeated n r)
yields-times r zero = record { reads = λ bs x rest e. let q : x ≡ [] = cc in ap length q }
yields-times r (suc n) =
    record {
      reads = λ bs x rest e.
          let (y, mid, p, q) = then_ok (r bs) _ e in
          let (ys, end, s, t) = then_ok (repeated n r mid) _ q in
          let same : x ≡ y ∷ ys = cc in
          ap length same ∙ ap suc ((yields-times r n).reads mid ys end s);
    }

-- ---- frames

abbrev ItemFits : Item → Type 0
ItemFits (Item.table t) = length t.key ≡ length t.columns
ItemFits (Item.key k) = Unit {0}
ItemFits (Item.view q) = Unit {0}
ItemFits (Item.goal g) = Unit {0}

table_fits : Yields ItemFits table_frame
table_fits = yields-after (field 0 8) (λ r. yields-after (field 1 4) (λ n. yields-after (byte_if 5 (λ m. ltb m (2 ^ n))) (λ m.
    yields-bind (yields-times column_field n) (λ cs h. yields-ending _ (length-mask_bits n m ∙ sym h)))))

module _ (d : Draft) where
  key_fits : Yields ItemFits (key_frame d)
  key_fits = yields-after (byte_if 6 (is_table d)) (λ c. yields-after (byte_if 6 (is_table d)) (λ p. yields-after (field 1 4) (λ n.
      yields-after (repeated n (pair_field (width d c) (width d p))) (λ ps. yields-ending _ tt))))

  basic-fits : Yields ItemFits (basic_frame d)
  basic-fits = yields-after (from_list d) (λ fs. yields-after (field 1 8) (λ n.
      let o = open_items (schemas_of d) fs in
      yields-after (read_c o) (λ w. yields-after (repeated n (read_e o)) (λ es. yields-ending _ tt))))

  grouped-fits : Yields ItemFits (grouped_frame d)
  grouped-fits = yields-after (from_list d) (λ fs. yields-after (field 0 4) (λ g. yields-after (field 1 8) (λ n.
      let o = open_items (schemas_of d) fs in
      yields-after (read_c o) (λ w. yields-after (repeated g (place_field o.widths)) (λ gs.
      yields-after (read_c o) (λ h. yields-after (repeated n (read_e o)) (λ es. yields-ending _ tt)))))))

  set-fits : (op : SetOperation) → Yields ItemFits (set_frame d op)
  set-fits op = yields-after (byte_if 6 (is_view d)) (λ i. yields-after (byte_if 6 (is_view d)) (λ j. yields-ending _ tt))

  goal-fits : Yields ItemFits (goal_frame d)
  goal-fits = yields-after (byte_if 6 (is_view d)) (λ v. yields-after (field 0 1) (λ s. yields-ending _ tt))

  frame-fits : (kind : ℕ) → Yields ItemFits (frame d kind)
  frame-fits kind =
      yields-either (eqb kind 0x01) table_fits
      (yields-either (eqb kind 0x02) key_fits
      (yields-either (eqb kind 0x03) basic-fits
      (yields-either (eqb kind 0x04) grouped-fits
      (yields-either (eqb kind 0x05) (set-fits SetOperation.union)
      (yields-either (eqb kind 0x06) (set-fits SetOperation.intersection)
      goal-fits)))))

-- ---- drafts

pub fits-empty : KeysFit empty
fits-empty = record { fits = λ i h. refl }

last-at : {A : Type 0} (xs : List A) (x z : A) → get_or (xs ++ (x ∷ [])) (length xs) z ≡ x
last-at [] x z = refl
last-at (y ∷ xs) x z = last-at xs x z

fits-added : (d : Draft) → KeysFit d → (i : Item) → ItemFits i → KeysFit (added d i)
fits-added d fit (Item.table t) h = record { fits = λ i l. at i l }
  where
    at : (i : ℕ) → i < length (d.tables ++ (t ∷ []))
        → length (get_or (d.tables ++ (t ∷ [])) i no_table).key ≡ length (get_or (d.tables ++ (t ∷ [])) i no_table).columns
    at i l = by-test (ltb i (length d.tables))
        (λ b. let k = ltb-true i (length d.tables) b in rw (get_or-append d.tables (t ∷ []) no_table i k) (fit.fits i k))
        (λ b. let k = ltb-false i (length d.tables) b in
        let e : i ≡ length d.tables = omega (arith, length-snoc d.tables t) in
        rw (e, last-at d.tables t no_table) h)
fits-added d fit (Item.key k) h = record { fits = fit.fits }
fits-added d fit (Item.view q) h = record { fits = fit.fits }
fits-added d fit (Item.goal g) h = record { fits = fit.fits }

read_fits : (d e : Draft) → KeysFit d → (x : Read Item) → ((i : Item) (rest : List ℕ) → x ≡ Read.ok i rest → ItemFits i)
    → read_checked d x ≡ Checked.next e → KeysFit e
read_fits d e fit (Read.ok i rest) f h = go (eqb (whole_fault d i) 0) h
  where
    go : (t : Bool) → cond t (Checked.next (added d i)) (Checked.fault (whole_fault d i)) ≡ Checked.next e → KeysFit e
    go true h = let same : added d i ≡ e = cc in subst KeysFit same (fits-added d fit i (f i rest refl))
    go false h = let z : ◌≡◌ {A = ℕ} 0 1 = cc in absurd (omega arith)
read_fits d e fit (Read.refused n) f h = let z : ◌≡◌ {A = ℕ} 0 1 = cc in absurd (omega arith)

-- a frame that is taken keeps it
pub fits_next : (d e : Draft) (f : List ℕ) → KeysFit d → check_frame d f ≡ Checked.next e → KeysFit e
unfolding check_frame
fits_next d e [] fit h = let z : ◌≡◌ {A = ℕ} 0 1 = cc in absurd (omega arith)
fits_next d e (kind ∷ bs) fit h = go (in_order d kind) (has_room d kind) h
  where
    go : (s t : Bool) → cond s (cond t (read_checked d (frame d kind bs)) (Checked.fault 5)) (Checked.fault 3) ≡ Checked.next e → KeysFit e
    go true true h = read_fits d e fit (frame d kind bs) (λ i rest. (frame-fits d kind).reads bs i rest) h
    go true false h = let z : ◌≡◌ {A = ℕ} 0 1 = cc in absurd (omega arith)
    go false t h = let z : ◌≡◌ {A = ℕ} 0 1 = cc in absurd (omega arith)
