-- The fault of the bytes of a basic or an aggregate view is the first of that of its from list and that of what stands behind it.
-- Assumes nothing.
use mathlib.Core.Path.{◌≡◌, refl, sym, ap, ap₂, ◌∙◌}
use mathlib.Core.Bool.{Bool, true, false}
use mathlib.Core.List.{List}
use Prim.Native.Nat.{ℕ, ◌+◌}
use native.Mathlib.Omega.{arith}
use lib.ListN.{get_or}
use Rattle.language.specs.Reading.{Reader, ◌>>=◌, byte_if, open_items, read_e, read_c, Open}
use Rattle.catalog.specs.Frames.{froms_in}
use Rattle.catalog.specs.Items.{bytes_at, relations_in, items_of, open_in}
use Rattle.catalog.specs.declared.relation.Relation.{Relation}
use Rattle.catalog.specs.declared.items.Items.{Items}
use Rattle.catalog.proofs.ItemLaws.{items_back}
use Rattle.language.specs.Draft.{Draft, Item, relation_count, schemas_of}
use Rattle.language.specs.Frames.{repeated, field, ending, from_list, place_field}
use Rattle.checker.specs.Faults.{fault_at, first}
use Rattle.checker.specs.Catalogued.{Catalogued}
use Rattle.checker.specs.ViewFaults.{froms_under, select_end, condition_select, where_groups, counted_select, counted_where, counted_groups, behind_froms, own_frame, BytesFault}
use Rattle.checker.proofs.FieldLaws.{byte-then}
use Rattle.checker.proofs.BodyLaws.{first-where}
use Rattle.checker.proofs.ViewByteLaws.{Alike, alike_at, alike-bind, alike_end, froms-then, froms-there, froms-six, opens-are}
use Rattle.meaning.specs.Syntax.{View}

-- what stands behind the counts, as the definitions read it
abbrev basic_behind : List ℕ → Open → ℕ → Reader Item
basic_behind fs o n = read_c o >>= λ w. repeated n (read_e o) >>= λ es. ending (Item.view (View.basic fs w es))

abbrev grouped_behind : List ℕ → Open → ℕ → ℕ → Reader Item
grouped_behind fs o g n =
    read_c o >>= λ w. repeated g (place_field o.widths) >>= λ gs. read_c o >>= λ h. repeated n (read_e o) >>= λ es. ending (Item.view (View.grouped fs w gs h es))

basic-alike : (fs : List ℕ) (o : Open) (n : ℕ) → Alike (basic_behind fs o n) (condition_select o n)
unfolding condition_select select_end
basic-alike fs o n = alike-bind (read_c o) (λ w. alike-bind (repeated n (read_e o)) (λ es. alike_end (Item.view (View.basic fs w es)) es))

grouped-alike : (fs : List ℕ) (o : Open) (g n : ℕ) → Alike (grouped_behind fs o g n) (where_groups o g n)
unfolding where_groups condition_select select_end
grouped-alike fs o g n =
    alike-bind (read_c o) (λ w. alike-bind (repeated g (place_field o.widths)) (λ gs.
    alike-bind (read_c o) (λ h. alike-bind (repeated n (read_e o)) (λ es. alike_end (Item.view (View.grouped fs w gs h es)) es))))

-- the same with the counts, and what stands behind the from list as the definitions read it
abbrev own_behind : Bool → List ℕ → Open → Reader Item
own_behind true fs o = field 0 4 >>= λ g. field 1 8 >>= λ n. grouped_behind fs o g n
own_behind false fs o = field 1 8 >>= λ n. basic_behind fs o n

behind-alike : (grouped : Bool) (fs : List ℕ) (o : Open) → Alike (own_behind grouped fs o) (behind_froms grouped o)
unfolding behind_froms counted_groups counted_where counted_select
behind-alike true fs o = alike-bind (field 0 4) (λ g. alike-bind (field 1 8) (λ n. grouped-alike fs o g n))
behind-alike false fs o = alike-bind (field 1 8) (λ n. basic-alike fs o n)

own-frame : (grouped : Bool) (d : Draft) → own_frame grouped d ≡ (from_list d >>= λ fs. own_behind grouped fs (open_items (schemas_of d) fs))
own-frame true d = refl
own-frame false d = refl

-- ---- a count and what follows it

pub count-then : {B : Type 0} (frame : List ℕ) (at : ℕ) (p : ℕ → Bool) (k : ℕ → Reader B) {m a b r : ℕ} → m ≡ get_or frame at 0
    → a ≡ fault_at frame at (byte_if 5 p) → b ≡ fault_at frame (at + 1) (k m) → r ≡ first a b → r ≡ fault_at frame at (byte_if 5 p >>= k)
count-then frame at p k e x y z =
    z ∙ ap₂ first x (y ∙ ap (λ i. fault_at frame (at + 1) (k i)) e) ∙ sym (byte-then frame at 5 p k (λ q. omega arith))

-- ---- the whole frame: `o` is what is open over the from items where these have no fault

module _ (frame : List ℕ) (relations : List Relation) (count : ℕ) {o : Open}
    (w : fault_at frame 1 (froms_under count) ≡ 0 → o ≡ open_in relations count (bytes_at frame 2 (get_or frame 1 0))) where
  bytes-law : (grouped : Bool) (d : Draft) → Catalogued d relations → count ≡ relation_count d
      → let at = get_or frame 1 0 + 2 in
      fault_at frame 1 (own_frame grouped d) ≡ first (fault_at frame 1 (froms_under count)) (fault_at frame at (behind_froms grouped o))
  bytes-law grouped d c e =
      let at = get_or frame 1 0 + 2 in
      let fs = bytes_at frame 2 (get_or frame 1 0) in
      let own = open_items (schemas_of d) fs in
      ap (λ (m : Reader Item). fault_at frame 1 m) (own-frame grouped d)
      ∙ froms-then frame (relation_count d) (λ fs. own_behind grouped fs (open_items (schemas_of d) fs))
      ∙ rw e (first-where (fault_at frame 1 (froms_under (relation_count d))) (λ h.
      alike_at frame at (behind-alike grouped fs own)
      ∙ ap (λ x. fault_at frame at (behind_froms grouped x)) (opens-are c (sym e) fs ∙ sym (w (rw e h)))))

-- ---- the answer

module _ (frame : List ℕ) (relations : List Relation) (count : ℕ) {items : Items} {n v : ℕ} (e : items ≡ items_of (froms_in frame)) (f : n ≡ get_or frame 1 0) (g : v ≡ n) where
  abbrev X : Open
  X = open_in relations count (relations_in items)

  opened : fault_at frame 1 (froms_under count) ≡ 0 → X ≡ open_in relations count (bytes_at frame 2 (get_or frame 1 0))
  opened h = ap (open_in relations count) (ap relations_in e ∙ items_back (froms_in frame) (froms-six frame count h) ∙ sym (froms-there frame count h))

  pub bytes-fault : (grouped : Bool) {a b r : ℕ} → a ≡ fault_at frame 1 (froms_under count) → b ≡ fault_at frame (v + 2) (behind_froms grouped X)
      → r ≡ first a b → BytesFault grouped frame relations count r
  bytes-fault grouped p q z = record {
    here =
        z ∙ ap₂ first p
        (q ∙ ap₂ (λ (i : ℕ) (x : Items). fault_at frame (i + 2) (behind_froms grouped (open_in relations count (relations_in x)))) (g ∙ f) e);
    at = λ d c y.
        z ∙ ap₂ first p (q ∙ ap (λ i. fault_at frame (i + 2) (behind_froms grouped X)) (g ∙ f)) ∙ sym (bytes-law frame relations count opened grouped d c y);
  }
