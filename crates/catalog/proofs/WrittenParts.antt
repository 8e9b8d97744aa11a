-- The parts of a table's frame, of a foreign key's and of the goal's are what was written. Assumes nothing.
use mathlib.Core.Path.{◌≡◌, refl, sym}
use mathlib.Core.Bool.{Bool, true, false, cond}
use mathlib.Core.List.{List, [], ◌++◌, map, append-nil}
use Prim.Native.Nat.{ℕ}
use lib.Dec.{eqb}
use lib.ListN.{length, drop}
use Rattle.meaning.specs.Lists.{joined}
use Rattle.meaning.specs.Syntax.{Table, ForeignKey, Goal}
use Rattle.language.specs.Written.{mask_of, column_bytes, table_bytes, pairs_bytes, key_bytes, goal_bytes}
use Rattle.catalog.specs.FileIn.{goal_of}
use Rattle.catalog.specs.Frames.{columns_start, table_parts_in, key_parts_in, goal_in}

pub table-parts : (t : Table) (frame : List ℕ) → frame ≡ table_bytes t
    → ((table_parts_in frame).rows ≡ t.rows) × ((table_parts_in frame).width ≡ length t.columns) × ((table_parts_in frame).mask ≡ mask_of t.key)
    × (drop columns_start frame ≡ joined (map column_bytes t.columns))
unfolding table_bytes table_parts_in
table-parts t frame e = rw e (refl, refl, refl, refl)

pub key-parts : (k : ForeignKey) (frame : List ℕ) → frame ≡ key_bytes k
    → ((key_parts_in frame).child ≡ k.child) × ((key_parts_in frame).parent ≡ k.parent) × ((key_parts_in frame).count ≡ length k.pairs)
    × (drop (key_parts_in frame).pairs frame ≡ pairs_bytes k.pairs ++ [])
unfolding key_bytes key_parts_in
key-parts k frame e = rw e (refl, refl, refl, sym (append-nil (pairs_bytes k.pairs)))

sign_of : (b : Bool) → eqb (cond b 1 0) 1 ≡ b
sign_of true = refl
sign_of false = refl

pub goal-parts : (g : Goal) (frame : List ℕ) → frame ≡ goal_bytes g → goal_of (goal_in frame) ≡ g
unfolding goal_bytes goal_in
goal-parts g frame e = rw (e, sign_of g.negative)
