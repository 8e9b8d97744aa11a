-- The frames, kind by kind: "bytes left to right for 4, 5, 6, a surplus byte last", and then the rules on the whole frame. Assumes
-- nothing: these are definitions, and they compute.
use Rattle.std.specs.Prelude.{Bool, true, ◌&&◌, cond, List, [], ◌∷◌, ℕ, zero, suc, ◌/◌, ◌%◌, ◌^◌, ltb, leb, eqb, length, get_or}
use Rattle.std.specs.Int.Signed.{le_z}
use Rattle.value.specs.Bag.{count_if}
use Rattle.value.specs.Integer.{bytes_z}
use Rattle.value.specs.Value.{Column}
use Rattle.meaning.specs.Syntax.{Place, SetOperation, View, Table, Pair}
use Rattle.language.specs.Reading.{Read, Reader, done, refuse, ◌>>=◌, byte, byte_if, either, open_items, read_e, read_c}
use Rattle.meaning.specs.Bounds.{same_width, aggregates_fit, bounded, ranges_fit}
use Rattle.language.specs.Draft.{Draft, Item, relation_count, is_table, is_view, width, schemas_of}

-- n of the same, one behind the other
abbrev pub repeated : {A : Type 0} → ℕ → Reader A → Reader (List A)
repeated zero r = done []
repeated (suc n) r = r >>= λ x. repeated n r >>= λ xs. done (x ∷ xs)

-- a field from lo to hi, else 5
abbrev pub field : ℕ → ℕ → Reader ℕ
field lo hi = byte_if 5 (λ b. leb lo b && leb b hi)

-- 4, "too long": nothing may be left
abbrev pub ending : {A : Type 0} → A → Reader A
ending x [] = Read.ok x []
ending x (b ∷ bs) = Read.refused 4

-- ---- 01 table: "rows (0 to 8), columns (1 to 4), key mask .., then lo and hi for each column, lo ≤ hi"

-- "bit i of value 2^i means column i is in the primary key"
abbrev pub mask_bits : ℕ → ℕ → List Bool
mask_bits zero m = []
mask_bits (suc n) m = eqb (m % 2) 1 ∷ mask_bits n (m / 2)

abbrev pub column_field : Reader Column
column_field = byte >>= λ a. byte >>= λ b. byte >>= λ c. byte >>= λ d.
    either (le_z (bytes_z a b) (bytes_z c d)) (done (record { lo = bytes_z a b; hi = bytes_z c d })) (refuse 5)

abbrev pub table_frame : Reader Item
table_frame = field 0 8 >>= λ r. field 1 4 >>= λ n. byte_if 5 (λ m. ltb m (2 ^ n)) >>= λ m. repeated n column_field >>= λ cs.
    ending (Item.table (record { rows = r; columns = cs; key = mask_bits n m }))

-- ---- 02 foreign key: "child table, parent table, count (1 to 4), then pairs child column, parent column"

abbrev pub pair_field : ℕ → ℕ → Reader Pair
pair_field c p = byte_if 6 (λ i. ltb i c) >>= λ i. byte_if 6 (λ j. ltb j p) >>= λ j. done (record { child = i; parent = j })

abbrev pub key_frame : Draft → Reader Item
key_frame d = byte_if 6 (is_table d) >>= λ c. byte_if 6 (is_table d) >>= λ p. field 1 4 >>= λ n. repeated n (pair_field (width d c) (width d p)) >>= λ ps.
    ending (Item.key (record { child = c; parent = p; pairs = ps }))

-- "The parent columns are exactly the parent's key, each once": column i and those after it
abbrev pub exactly_key : ℕ → List Bool → List Pair → Bool
exactly_key i [] ps = true
exactly_key i (k ∷ ks) ps = eqb (count_if (λ p. eqb p.parent i) ps) (cond k 1 0) && exactly_key (suc i) ks ps

-- ---- 03 basic view: "from count (1 to 3), that many earlier relations, select count (1 to 8), a where condition, the select expressions"

abbrev pub from_list : Draft → Reader (List ℕ)
from_list d = field 1 3 >>= λ n. repeated n (byte_if 6 (λ i. ltb i (relation_count d)))

abbrev pub basic_frame : Draft → Reader Item
basic_frame d = from_list d >>= λ fs. field 1 8 >>= λ n.
    let o = open_items (schemas_of d) fs in
    read_c o >>= λ w. repeated n (read_e o) >>= λ es. ending (Item.view (View.basic fs w es))

-- ---- 04 aggregate view: ".. grouping count (0 to 4), select count (1 to 8), where, the grouping columns (from item, column), having, the
-- select expressions"

abbrev pub place_field : List ℕ → Reader Place
place_field cols = byte_if 6 (λ i. ltb i (length cols)) >>= λ i. byte_if 6 (λ c. ltb c (get_or cols i 0)) >>= λ c. done (record { item = i; column = c })

abbrev pub grouped_frame : Draft → Reader Item
grouped_frame d = from_list d >>= λ fs. field 0 4 >>= λ g. field 1 8 >>= λ n.
    let o = open_items (schemas_of d) fs in
    read_c o >>= λ w. repeated g (place_field o.widths) >>= λ gs. read_c o >>= λ h. repeated n (read_e o) >>= λ es.
    ending (Item.view (View.grouped fs w gs h es))

-- ---- 05 union, 06 intersection: "two earlier views"

abbrev pub set_frame : Draft → SetOperation → Reader Item
set_frame d op = byte_if 6 (is_view d) >>= λ i. byte_if 6 (is_view d) >>= λ j. ending (Item.view (View.set op i j))

-- ---- 07 goal: "a view, sign (0 positive, 1 negative)"

abbrev pub goal_frame : Draft → Reader Item
goal_frame d = byte_if 6 (is_view d) >>= λ v. field 0 1 >>= λ s. ending (Item.goal (record { view = v; negative = eqb s 1 }))

-- ---- any kind

abbrev pub frame : Draft → ℕ → Reader Item
frame d kind =
    either (eqb kind 0x01) table_frame
    (either (eqb kind 0x02) (key_frame d)
    (either (eqb kind 0x03) (basic_frame d)
    (either (eqb kind 0x04) (grouped_frame d)
    (either (eqb kind 0x05) (set_frame d SetOperation.union)
    (either (eqb kind 0x06) (set_frame d SetOperation.intersection)
    (goal_frame d))))))

abbrev pub no_table : Table
no_table = record { rows = 0; columns = []; key = [] }

-- "then whole-frame rules 6 (pairing, column counts), 7, 8, 9": the number of the first that is broken, or 0
abbrev pub whole_fault : Draft → Item → ℕ
whole_fault d (Item.table t) = 0
whole_fault d (Item.key k) = cond (exactly_key 0 (get_or d.tables k.parent no_table).key k.pairs) 0 6
whole_fault d (Item.view q) =
    let ss = schemas_of d in
    cond (same_width ss q) (cond (aggregates_fit ss q) (cond (bounded ss q) (cond (ranges_fit ss q) 0 9) 8) 7) 6
whole_fault d (Item.goal g) = 0
