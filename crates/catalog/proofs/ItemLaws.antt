-- The bytes from a place on, and the from items. Assumes nothing.
use mathlib.Core.Path.{◌≡◌, refl, sym, ap, ◌∙◌}
use mathlib.Core.Bool.{cond}
use mathlib.Core.List.{List, [], ◌∷◌, ◌++◌, map-append}
use Prim.Native.Nat.{ℕ, zero, suc, ◌+◌, ◌≤◌, ◌<◌}
use native.Mathlib.Omega.{arith}
use lib.Dec.{eqb}
use lib.ListN.{length, get_or, set, get_or-eq_default, length-map, length-set}
use lib.Seq.{ext_get_or, get_or-set_same, get_or-set_other, set_out}
use borrow.Author.Tests.{eqb-true, eqb-false, lt-ltb}
use Rattle.value.proofs.Decides.{by-test}
use Rattle.meaning.specs.Bounds.{opened_ranges}
use Rattle.meaning.proofs.Listed.{get_d-listed, length-listed}
use Rattle.meaning.proofs.ListSteps.{map_at}
use Rattle.language.specs.Reading.{opened_item}
use Rattle.catalog.specs.Relations.{width_at, ranges_in}
use Rattle.catalog.specs.Items.{bytes_at, relations_in, items_of, widths_in, six_with, opened_items, open_in, open_ranges_in}
use Rattle.catalog.specs.declared.items.Items.{Items}
use Rattle.catalog.specs.declared.relation.Relation.{Relation}

pub bytes-length : (bytes : List ℕ) (at n : ℕ) → length (bytes_at bytes at n) ≡ n
unfolding bytes_at
bytes-length bytes at zero = refl
bytes-length bytes at (suc n) = ap suc (bytes-length bytes (at + 1) n)

bytes-there : (bytes : List ℕ) (at n i : ℕ) → i < n → get_or (bytes_at bytes at n) i 0 ≡ get_or bytes (at + i) 0
unfolding bytes_at
bytes-there bytes at zero i h = absurd (omega arith)
bytes-there bytes at (suc n) zero h = ap (λ k. get_or bytes k 0) (omega arith)
bytes-there bytes at (suc n) (suc i) h = bytes-there bytes (at + 1) n i (omega arith) ∙ ap (λ k. get_or bytes k 0) (omega arith)

-- the first six, where there is at most one
pub six-of-one : (names : List ℕ) → length names < 2 → get_or names 0 0 ∷ 0 ∷ 0 ∷ 0 ∷ 0 ∷ 0 ∷ [] ≡ bytes_at names 0 6
unfolding bytes_at
six-of-one [] h = refl
six-of-one (a ∷ []) h = refl
six-of-one (a ∷ b ∷ names) h = absurd (omega arith)

-- as many as there are, of at most six
pub items_back : (names : List ℕ) → length names ≤ 6 → relations_in (items_of names) ≡ names
unfolding relations_in items_of bytes_at
items_back [] h = refl
items_back (a ∷ []) h = refl
items_back (a ∷ b ∷ []) h = refl
items_back (a ∷ b ∷ c ∷ []) h = refl
items_back (a ∷ b ∷ c ∷ d ∷ []) h = refl
items_back (a ∷ b ∷ c ∷ d ∷ e ∷ []) h = refl
items_back (a ∷ b ∷ c ∷ d ∷ e ∷ f ∷ []) h = refl
items_back (a ∷ b ∷ c ∷ d ∷ e ∷ f ∷ g ∷ names) h = absurd (omega arith)

module _ (items : Items) where
  pub items-number : length (relations_in items) ≡ items.number
  unfolding relations_in
  items-number = bytes-length items.relations 0 items.number

  pub widths-number : (rs : List Relation) → items.number ≡ length (widths_in rs (relations_in items))
  widths-number rs = sym (length-map (relations_in items) (width_at rs) ∙ items-number)

  module _ (i : ℕ) where
    pub relation-past : items.number ≤ i → get_or (relations_in items) i 0 ≡ 0
    relation-past h = get_or-eq_default (relations_in items) 0 (rw items-number h)

    pub relation-there : i < items.number → get_or (relations_in items) i 0 ≡ get_or items.relations i 0
    unfolding relations_in
    relation-there h = bytes-there items.relations 0 items.number i h ∙ ap (λ k. get_or items.relations k 0) (omega arith)

    pub width-past : (rs : List Relation) → items.number ≤ i → get_or (widths_in rs (relations_in items)) i 0 ≡ 0
    width-past rs h = get_or-eq_default (widths_in rs (relations_in items)) 0 (rw (← widths-number rs) h)

    pub width-there : (rs : List Relation) → i < items.number → get_or (widths_in rs (relations_in items)) i 0 ≡ width_at rs (get_or (relations_in items) i 0)
    width-there rs h = map_at (width_at rs) (relations_in items) i 0 0 (rw items-number h)

-- ---- one more item

pub six-at : (bytes : List ℕ) (n x k : ℕ) → k < 6 → get_or (six_with bytes n x) k 0 ≡ cond (eqb k n) x (get_or bytes k 0)
six-at bytes n x zero h = refl
six-at bytes n x (suc zero) h = refl
six-at bytes n x (suc (suc zero)) h = refl
six-at bytes n x (suc (suc (suc zero))) h = refl
six-at bytes n x (suc (suc (suc (suc zero)))) h = refl
six-at bytes n x (suc (suc (suc (suc (suc zero))))) h = refl
six-at bytes n x (suc (suc (suc (suc (suc (suc k)))))) h = absurd (omega arith)

-- as a store makes them
pub six-set : (bytes : List ℕ) (n x : ℕ) → length bytes ≡ 6 → set bytes n x ≡ six_with bytes n x
six-set bytes n x h =
    ext_get_or 0 (set bytes n x) (six_with bytes n x) (length-set bytes n x ∙ h) (λ k l.
    let m : k < 6 = omega (arith, length-set bytes n x, h) in
    by-test (eqb k n)
    (λ t. let e = eqb-true k n t in
    ap (λ j. get_or (set bytes n x) j 0) e ∙ get_or-set_same bytes n x 0 (omega (arith, h)) ∙ sym (six-at bytes n x k m ∙ rw t))
    (λ t. get_or-set_other bytes n k x 0 (eqb-false k n t) ∙ sym (six-at bytes n x k m ∙ rw t)))

-- past the sixth nothing is set
pub six-past : (bytes : List ℕ) (n x : ℕ) → length bytes ≡ 6 → 6 ≤ n → bytes ≡ six_with bytes n x
six-past bytes n x h p = sym (set_out bytes n x (omega (arith, h))) ∙ six-set bytes n x h

pub opened-more : (items : Items) (r : ℕ) → items.number < 6 → relations_in (opened_items items r) ≡ relations_in items ++ (r ∷ [])
unfolding relations_in opened_items bytes_at
opened-more items r h = rw (lt-ltb items.number 6 h) (by_number items.number h)
  where
    by_number : (n : ℕ) → n < 6 → bytes_at (six_with items.relations n r) 0 (n + 1) ≡ bytes_at items.relations 0 n ++ (r ∷ [])
    by_number zero k = refl
    by_number (suc zero) k = refl
    by_number (suc (suc zero)) k = refl
    by_number (suc (suc (suc zero))) k = refl
    by_number (suc (suc (suc (suc zero)))) k = refl
    by_number (suc (suc (suc (suc (suc zero))))) k = refl
    by_number (suc (suc (suc (suc (suc (suc n)))))) k = absurd (omega arith)

-- behind those that were open
pub opened-last : (items : Items) {i j : ℕ} → i ≡ j → {more : Items} → more ≡ opened_items items i → length (relations_in items) < 6
    → relations_in more ≡ relations_in items ++ (j ∷ [])
opened-last items {i} {j} e m h = rw (m, e) (opened-more items j (rw items-number at h))

-- ---- what is open, with one more item

module _ (rs : List Relation) (n : ℕ) (fs : List ℕ) where
  pub few-items : length (open_in rs n fs).widths < 6 → length fs < 6
  few-items h = rw length-map at h

  pub relation-before : {i : ℕ} → i < length (open_in rs n fs).relations → i < n
  relation-before h = rw length-listed at h

  module _ {i : ℕ} (h : i < n) where
    pub opened-open : opened_item (open_in rs n fs) i ≡ open_in rs n (fs ++ (i ∷ []))
    opened-open = rw (get_d-listed (width_at rs) n i 0 h, map-append)

    pub opened-ranges : (R : ℕ) → opened_ranges (open_ranges_in rs n fs R) i ≡ open_ranges_in rs n (fs ++ (i ∷ [])) R
    opened-ranges R = rw (get_d-listed (ranges_in rs) n i [] h, map-append)
