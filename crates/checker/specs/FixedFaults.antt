-- The faults of the frames of fixed layout, as the code has them: the parts of each, and what the code promises of each frame for
-- every draft that its relations and counts stand for. Assumes nothing: these are definitions.
use Rattle.std.specs.Prelude.{◌≡◌, cond, List, ℕ, zero, suc, ◌+◌, ◌*◌, ◌/◌, ◌%◌, ◌^◌, ◌<◌, min, leb, eqb, length, get_or}
use Rattle.value.specs.Bag.{tick}
use Rattle.meaning.specs.Syntax.{SetOperation}
use Rattle.meaning.specs.Bounds.{set_bound}
use Rattle.language.specs.Reading.{byte_if}
use Rattle.language.specs.Draft.{Draft, relation_count}
use Rattle.language.specs.Frames.{repeated, ending, column_field, pair_field, table_frame, key_frame, set_frame, goal_frame, no_table}
use Rattle.catalog.specs.Relations.{width_at, bound_at, mask_at}
use Rattle.catalog.specs.Frames.{columns_start}
use Rattle.checker.specs.Faults.{fault_at, first, under, within, from_under}
use Rattle.checker.specs.Catalogued.{Catalogued, body_fault}
use Rattle.catalog.specs.declared.relation.Relation.{Relation}

-- ---- 01 table

-- n columns of a table from a place on
unfoldable pub columns_fault : List ℕ → ℕ → ℕ → ℕ
columns_fault frame at n = fault_at frame at (repeated n column_field)

-- the numbers of rows and of columns, which is n, and the key mask; 2^4 masks are the most
unfoldable pub table_head : List ℕ → ℕ → ℕ
table_head frame n =
    first (fault_at frame 1 (byte_if 5 (within 0 8))) (first (fault_at frame 2 (byte_if 5 (within 1 4))) (fault_at frame 3 (byte_if 5 (under (2 ^ min n 4)))))

-- the columns, and nothing behind them
unfoldable pub table_columns : List ℕ → ℕ → ℕ
table_columns frame n = first (columns_fault frame columns_start n) (fault_at frame (columns_start + n * 4) (ending (columns_start + n * 4)))

-- ---- 02 foreign key

-- n pairs of a foreign key, between tables of c and p columns
unfoldable pub pairs_fault : List ℕ → ℕ → ℕ → ℕ → ℕ → ℕ
pairs_fault frame c p at n = fault_at frame at (repeated n (pair_field c p))

-- how often column i is the parent column of n pairs
unfoldable pub parent_count : List ℕ → ℕ → ℕ → ℕ → ℕ
parent_count frame i at zero = 0
parent_count frame i at (suc n) = tick (eqb (get_or frame (at + 1) 0) i) (parent_count frame i (at + 2) n)

-- column i is a parent column as often as the lowest bit says
unfoldable pub column_pairing : List ℕ → ℕ → ℕ → ℕ → ℕ
column_pairing frame n i mask = cond (eqb (parent_count frame i 4 n) (mask % 2)) 0 6

-- "The parent columns are exactly the parent's key, each once": column i and those after it, the lowest bit of the mask being that of i
unfoldable pub pairing : List ℕ → ℕ → ℕ → ℕ → ℕ → ℕ
pairing frame n i zero mask = 0
pairing frame n i (suc left) mask = first (column_pairing frame n i mask) (pairing frame n (i + 1) left (mask / 2))

-- the child, the parent and the number of pairs
unfoldable pub key_head : List ℕ → ℕ → ℕ
key_head frame tables =
    first (fault_at frame 1 (byte_if 6 (under tables))) (first (fault_at frame 2 (byte_if 6 (under tables))) (fault_at frame 3 (byte_if 5 (within 1 4))))

-- the pairs, and nothing behind them
unfoldable pub key_pairs : List ℕ → ℕ → ℕ → ℕ → ℕ
key_pairs frame c p n = first (pairs_fault frame c p 4 n) (fault_at frame (4 + n * 2) (ending (4 + n * 2)))

-- the pairs, and then the rule on the parent's key
unfoldable pub key_body : List ℕ → List Relation → ℕ → ℕ → ℕ → ℕ
key_body frame relations child parent n =
    first (key_pairs frame (width_at relations child) (width_at relations parent) n) (pairing frame n 0 (width_at relations parent) (mask_at relations parent))

-- ---- 05 union, 06 intersection

-- two views, and nothing behind them
unfoldable pub set_bytes : List ℕ → ℕ → ℕ → ℕ
set_bytes frame tables count =
    first (fault_at frame 1 (byte_if 6 (from_under tables count))) (first (fault_at frame 2 (byte_if 6 (from_under tables count))) (fault_at frame 3 (ending {A = ℕ} 3)))

-- the rules on a set view of two relations: 6 by their columns, then 8 by their row bounds
unfoldable pub set_rules : SetOperation → List Relation → ℕ → ℕ → ℕ
set_rules op relations i j = cond (eqb (width_at relations i) (width_at relations j)) (cond (leb (set_bound op (bound_at relations i) (bound_at relations j)) 64) 0 8) 6

-- ---- what the code promises: `here` on any bytes and relations, `at` for a draft that the relations stand for

pub record TableFault (frame : List ℕ) (r : ℕ) : Type 0 where
  pub at : (d : Draft) → r ≡ body_fault d table_frame frame

-- "bit i .. means column i": the key of each table says it of each column
pub record KeysFit (d : Draft) : Type 0 where
  pub fits : (i : ℕ) → i < length d.tables → length (get_or d.tables i no_table).key ≡ length (get_or d.tables i no_table).columns

pub record KeyFault (frame : List ℕ) (relations : List Relation) (tables r : ℕ) : Type 0 where
  pub here : r ≡ first (key_head frame tables) (key_body frame relations (get_or frame 1 0) (get_or frame 2 0) (get_or frame 3 0))
  pub at : (d : Draft) → Catalogued d relations → KeysFit d → tables ≡ length d.tables → r ≡ body_fault d (key_frame d) frame

pub record SetFault (frame : List ℕ) (relations : List Relation) (tables count : ℕ) (op : SetOperation) (r : ℕ) : Type 0 where
  pub here : r ≡ first (set_bytes frame tables count) (set_rules op relations (get_or frame 1 0) (get_or frame 2 0))
  pub at : (d : Draft) → Catalogued d relations → tables ≡ length d.tables → count ≡ relation_count d
      → r ≡ body_fault d (set_frame d op) frame

pub record GoalFault (frame : List ℕ) (tables count r : ℕ) : Type 0 where
  pub here : r ≡ first (fault_at frame 1 (byte_if 6 (from_under tables count))) (first (fault_at frame 2 (byte_if 5 (within 0 1))) (fault_at frame 3 (ending {A = ℕ} 3)))
  pub at : (d : Draft) → tables ≡ length d.tables → count ≡ relation_count d → r ≡ body_fault d (goal_frame d) frame
