-- What the pass over the bytes of a basic or an aggregate view finds. Assumes nothing: these are definitions.
use Rattle.std.specs.Prelude.{◌≡◌, Bool, true, false, List, ℕ, suc, ◌+◌, get_or, Result, Ok, Err}
use Rattle.text.specs.declared.refusal.Reason.{Reason}
use Rattle.meaning.specs.Syntax.{Expr}
use Rattle.language.specs.Reading.{Reader, Open, ◌>>=◌, byte_if, read_e, read_c}
use Rattle.language.specs.Draft.{Draft, Item, relation_count}
use Rattle.language.specs.Frames.{repeated, field, ending, place_field, basic_frame, grouped_frame}
use Rattle.catalog.specs.Frames.{froms_in}
use Rattle.catalog.specs.Items.{items_of, relations_in, open_in}
use Rattle.checker.specs.Faults.{fault_at, first, under}
use Rattle.checker.specs.Catalogued.{Catalogued}
use Rattle.catalog.specs.declared.relation.Relation.{Relation}

-- ---- the parts of the two frames, what they read aside

-- the from count and the relations, each below `count`
abbrev pub froms_under : ℕ → Reader (List ℕ)
froms_under count = field 1 3 >>= λ n. repeated n (byte_if 6 (under count))

-- m select expressions, and nothing behind them
unfoldable pub select_end : Open → ℕ → Reader (List Expr)
select_end o m = repeated m (read_e o) >>= λ es. ending es

-- a condition before them: a basic view's where, an aggregate view's having
unfoldable pub condition_select : Open → ℕ → Reader (List Expr)
condition_select o m = read_c o >>= λ w. select_end o m

-- an aggregate view's where, its g grouping columns, and the rest
unfoldable pub where_groups : Open → ℕ → ℕ → Reader (List Expr)
where_groups o g m = read_c o >>= λ w. repeated g (place_field o.widths) >>= λ gs. condition_select o m

-- the select count before these
unfoldable pub counted_select : Open → Reader (List Expr)
counted_select o = field 1 8 >>= λ m. condition_select o m

unfoldable pub counted_where : Open → ℕ → Reader (List Expr)
counted_where o g = field 1 8 >>= λ m. where_groups o g m

-- and an aggregate view's grouping count before it
unfoldable pub counted_groups : Open → Reader (List Expr)
counted_groups o = field 0 4 >>= λ g. counted_where o g

-- what stands behind the from list of an aggregate or of a basic view
unfoldable pub behind_froms : Bool → Open → Reader (List Expr)
behind_froms true o = counted_groups o
behind_froms false o = counted_select o

-- ---- an aggregate or a basic view

abbrev pub own_kind : Bool → ℕ
own_kind true = 0x04
own_kind false = 0x03

abbrev pub own_frame : Bool → Draft → Reader Item
own_frame true d = grouped_frame d
own_frame false d = basic_frame d

-- the first fault of a frame's bytes, whatever the relations before it are: on any bytes and relations, and for a draft that the relations stand for
pub record BytesFault (grouped : Bool) (frame : List ℕ) (relations : List Relation) (count r : ℕ) : Type 0 where
  pub here : r ≡ first (fault_at frame 1 (froms_under count)) (fault_at frame (get_or frame 1 0 + 2) (behind_froms grouped (open_in relations count (relations_in (items_of (froms_in frame))))))
  pub at : (d : Draft) → Catalogued d relations → count ≡ relation_count d → r ≡ fault_at frame 1 (own_frame grouped d)

-- ---- a form n times

-- what n calls from `at` on give, where `call` says what one call at a place may give: each goes on where the one before ended, up to the first refusal
pub data Times (call : ℕ → Result ℕ Reason → Type 0) : ℕ → ℕ → Result ℕ Reason → Type 0 where
  none : {at : ℕ} → Times call at 0 (Ok at)
  more : {at next n : ℕ} {r : Result ℕ Reason} → call at (Ok next) → Times call next n r → Times call at (suc n) r
  stop : {at n : ℕ} {e : Reason} → call at (Err e) → Times call at (suc n) (Err e)
