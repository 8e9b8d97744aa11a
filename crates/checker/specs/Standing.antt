-- What the checker's counts stand for, and what one frame does to them and to the relations. Assumes nothing: these are definitions.
use Rattle.std.specs.Prelude.{◌≡◌, ◌⊎◌, Result, Ok, Err, Bool, true, false, cond, List, [], ℕ, ◌+◌, min, ltb, leb, eqb, length, drop}
use Rattle.std.proofs.Math.Option.{some}
use Rattle.text.specs.declared.refusal.Reason.{Reason}
use Rattle.meaning.specs.Syntax.{Goal}
use Rattle.language.specs.Reading.{Read}
use Rattle.language.specs.Draft.{Draft, Item, added, relation_count, stage, stage_of, in_order, has_room}
use Rattle.language.specs.Frames.{frame, whole_fault}
use Rattle.language.specs.Check.{Checked, check_frame}
use Rattle.catalog.specs.Relations.{relation_at, start_at}
use Rattle.catalog.specs.declared.plan.Goal.{Goal as GoalHere}
use Rattle.checker.specs.Faults.{fault_told}
use Rattle.checker.specs.Catalogued.{Catalogued, checked_fault, body_fault}
use Rattle.checker.specs.FixedFaults.{KeysFit}
use Rattle.checker.specs.declared.state.Progress.{Progress}
use Rattle.checker.specs.declared.state.Stage.{Stage}
use Rattle.checker.specs.declared.state.Stage.TheVariants.{Tables, Keys, Views, Goal as GoalStage, Ended}
use Rattle.catalog.specs.declared.relation.Relation.{Relation}

-- ---- the counts

-- the number of each stage
abbrev pub stage_number : Stage → ℕ
stage_number Tables = 1
stage_number Keys = 2
stage_number Views = 3
stage_number GoalStage = 4
stage_number Ended = 5

pub record Counts (d : Draft) (s : Progress) : Type 0 where
  pub tables : s.tables ≡ length d.tables
  pub relations : s.relations ≡ relation_count d
  pub keys : s.keys ≡ length d.keys
  pub stage_is : stage_number s.stage ≡ stage d
  pub goal : (g : Goal) → d.goal ≡ some g → (s.goal ≡ g.view) × (s.negative ≡ g.negative)

abbrev pub start_progress : Progress
start_progress = record { tables = 0; relations = 0; keys = 0; stage = Tables; goal = 0; negative = false }

-- whether there is room for an item of a stage
unfoldable pub room_for : Progress → ℕ → Bool
room_for s n = cond (eqb n 2) (ltb s.keys 16) (cond (eqb n 4) true (ltb s.relations 16))

-- "3, then a 17th relation or key"
unfoldable pub turn_fault : Progress → ℕ → ℕ
turn_fault s kind = cond (leb (stage_number s.stage) (stage_of kind)) (cond (room_for s (stage_of kind)) 0 5) 3

-- one more of a byte
abbrev pub more : ℕ → ℕ
more n = min (n + 1) 255

abbrev pub at_stage : Progress → Stage → Progress
at_stage s t = record { tables = s.tables; relations = s.relations; keys = s.keys; stage = t; goal = s.goal; negative = s.negative }

-- the counts with one more table, foreign key or view, or with the goal
abbrev pub with_table : Progress → Progress
with_table s = record { tables = more s.tables; relations = more s.relations; keys = s.keys; stage = Tables; goal = s.goal; negative = s.negative }

abbrev pub with_key : Progress → Progress
with_key s = record { tables = s.tables; relations = s.relations; keys = more s.keys; stage = Keys; goal = s.goal; negative = s.negative }

abbrev pub with_view : Progress → Progress
with_view s = record { tables = s.tables; relations = more s.relations; keys = s.keys; stage = Views; goal = s.goal; negative = s.negative }

abbrev pub with_goal : Progress → GoalHere → Progress
with_goal s g = record { tables = s.tables; relations = s.relations; keys = s.keys; stage = Ended; goal = g.view; negative = g.negative }

-- ---- a frame

-- the counts and relations stand for a draft that frames make
pub record DraftIn (d : Draft) (s : Progress) (rs : List Relation) : Type 0 where
  pub counts : Counts d s
  pub catalogued : Catalogued d rs
  pub fits : KeysFit d

-- what may change where relation r is entered: no other relation; and the place of its frame is 0, or what it was
pub record OnlyRelation (r : ℕ) (rs rs' : List Relation) : Type 0 where
  pub size : length rs' ≡ length rs
  pub others : (i : ℕ) → (i ≡ r → ⊥) → relation_at rs' i ≡ relation_at rs i
  pub place : (start_at rs' r ≡ 0) ⊎ (start_at rs' r ≡ start_at rs r)

-- what the frame f of kind k does when its turn has come: with a fault no relation changes. All else is open where the relations stand for no
-- draft: `walk` begins with those of the empty draft, ends at the first fault, and a refusal has no relations.
pub record Turned (k : ℕ) (f : List ℕ) (s : Progress) (rs rs' : List Relation) (r : Result Progress Reason) : Type 0 where
  pub only : OnlyRelation s.relations rs rs'
  pub kept : (n : Reason) → r ≡ Err n → rs' ≡ rs
  pub fault : (d : Draft) → DraftIn d s rs → in_order d k ≡ true → has_room d k ≡ true → fault_told r ≡ body_fault d (frame d k) f
  pub next : (d : Draft) (i : Item) (t : Progress) → r ≡ Ok t → DraftIn d s rs → in_order d k ≡ true → has_room d k ≡ true
      → frame d k (drop 1 f) ≡ Read.ok i [] → whole_fault d i ≡ 0 → Counts (added d i) t × Catalogued (added d i) rs'

-- what any frame does
pub record Stepped (f : List ℕ) (s : Progress) (rs rs' : List Relation) (r : Result Progress Reason) : Type 0 where
  pub only : OnlyRelation s.relations rs rs'
  pub kept : (n : Reason) → r ≡ Err n → rs' ≡ rs
  pub fault : (d : Draft) → DraftIn d s rs → fault_told r ≡ checked_fault (check_frame d f)
  pub next : (d e : Draft) (t : Progress) → r ≡ Ok t → DraftIn d s rs → check_frame d f ≡ Checked.next e → DraftIn e t rs'
