-- What is known of a file after some of its frames. Assumes nothing: these are definitions, and they compute.
use Rattle.std.specs.Prelude.{Bool, true, false, ◌&&◌, cond, List, [], ◌∷◌, ◌++◌, map, ℕ, ◌+◌, ltb, leb, eqb, length}
use Rattle.std.proofs.Math.Option.{Option, none, some}
use Rattle.meaning.specs.Lists.{stack}
use Rattle.meaning.specs.Syntax.{Table, ForeignKey, View, Goal, File}
use Rattle.meaning.specs.Bounds.{Schema, schema, table_schema, view_schema}

pub record Draft : Type 0 where
  pub tables : List Table
  pub keys : List ForeignKey
  pub views : List View
  pub goal : Option Goal

abbrev pub empty : Draft
empty = record { tables = []; keys = []; views = []; goal = none }

-- the file of a draft, once there is a goal
abbrev pub file_at : Draft → Goal → File
file_at d g = record { tables = d.tables; keys = d.keys; views = d.views; goal = g }

-- what a frame adds
pub data Item : Type 0 where
  table : Table → Item
  key : ForeignKey → Item
  view : View → Item
  goal : Goal → Item

abbrev pub added : Draft → Item → Draft
added d (Item.table t) = record { tables = d.tables ++ (t ∷ []); keys = d.keys; views = d.views; goal = d.goal }
added d (Item.key k) = record { tables = d.tables; keys = d.keys ++ (k ∷ []); views = d.views; goal = d.goal }
added d (Item.view q) = record { tables = d.tables; keys = d.keys; views = d.views ++ (q ∷ []); goal = d.goal }
added d (Item.goal g) = record { tables = d.tables; keys = d.keys; views = d.views; goal = some g }

-- "Tables and views are relations, numbered together from 0"
abbrev pub relation_count : Draft → ℕ
relation_count d = length d.tables + length d.views

abbrev pub is_table : Draft → ℕ → Bool
is_table d i = ltb i (length d.tables)

abbrev pub is_view : Draft → ℕ → Bool
is_view d i = leb (length d.tables) i && ltb i (relation_count d)

-- the bounds and ranges of the relations so far, and a relation's number of columns
abbrev pub schemas_of : Draft → List Schema
schemas_of d = stack view_schema d.views (map table_schema d.tables)

abbrev pub width : Draft → ℕ → ℕ
width d i = length (schema (schemas_of d) i).ranges

-- ---- "Order: tables, foreign keys, views, one goal, nothing after it"

-- where each kind stands in that order: 1 tables, 2 foreign keys, 3 views, 4 the goal; 0 is no kind
abbrev pub stage_of : ℕ → ℕ
stage_of kind =
    cond (eqb kind 0x01) 1
    (cond (eqb kind 0x02) 2
    (cond (leb 0x03 kind && leb kind 0x06) 3
    (cond (eqb kind 0x07) 4 0)))

abbrev pub is_nil : {A : Type 0} → List A → Bool
is_nil [] = true
is_nil (x ∷ xs) = false

-- how far the order has come: 5 behind the goal
abbrev pub stage : Draft → ℕ
stage d = stage_goal d.goal
  where
    stage_goal : Option Goal → ℕ
    stage_goal none = cond (is_nil d.views) (cond (is_nil d.keys) 1 2) 3
    stage_goal (some g) = 5

-- 3, "unknown kind or kind out of order"
abbrev pub in_order : Draft → ℕ → Bool
in_order d kind = leb (stage d) (stage_of kind)

-- "a 17th relation or foreign key"
abbrev pub has_room : Draft → ℕ → Bool
has_room d kind = cond (eqb (stage_of kind) 2) (ltb (length d.keys) 16) (cond (eqb (stage_of kind) 4) true (ltb (relation_count d) 16))
