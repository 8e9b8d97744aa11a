-- The plan of a checked file: what a text gives, in the checker's relations and counts. Assumes nothing: these are definitions.
use Rattle.std.specs.Prelude.{◌≡◌, Result, Ok, Err, cond, List, ℕ, zero, suc, ◌+◌, ◌<◌, ltb, length, get_or}
use Rattle.text.specs.Text.{Lines, frames_of}
use Rattle.text.specs.Answers.{pack, Holds}
use Rattle.text.specs.Refusals.{number_of}
use Rattle.text.specs.declared.Frames.{Frames}
use Rattle.text.specs.declared.refusal.Refusal.{Refusal}
use Rattle.language.specs.Draft.{empty}
use Rattle.language.specs.Check.{Outcome, Reached, reach}
use Rattle.language.specs.FileOf.{file_of}
use Rattle.catalog.specs.Relations.{start_at, put_start, Known}
use Rattle.catalog.specs.FileIn.{PlanOf, SomeRow}
use Rattle.catalog.specs.declared.outline.Outline.{Outline}
use Rattle.catalog.specs.declared.plan.Plan.{Plan}
use Rattle.checker.specs.Standing.{DraftIn, start_progress}
use Rattle.checker.specs.declared.state.Progress.{Progress}
use Rattle.catalog.specs.declared.relation.Relation.{Relation}

-- ---- frames in turn

-- the refusal n at a line
abbrev pub Says : ℕ → ℕ → Refusal → Type 0
Says n line r = (number_of r.reason ≡ n) × (r.line ≡ line)

-- what the walk over the frames answers: a refusal with its line, or the counts and relations of the draft
abbrev pub WalkedTo : Reached → Result Progress Refusal → List Relation → Type 0
WalkedTo (Reached.stopped n line) (Ok s) rs = ⊥
WalkedTo (Reached.stopped n line) (Err r) rs = Says n line r
WalkedTo (Reached.came d) (Ok s) rs = DraftIn d s rs
WalkedTo (Reached.came d) (Err r) rs = ⊥

pub record Walks (packed : List ℕ) (rs : List Relation) (w : Result Progress Refusal) (rs' : List Relation) : Type 0 where
  pub walked : (fs : List (List ℕ)) → packed ≡ pack fs → DraftIn empty start_progress rs → WalkedTo (reach fs empty 1) w rs'

-- ---- where frames begin

-- n frames behind a place of the packed bytes
unfoldable pub start_from : List ℕ → ℕ → ℕ → ℕ
start_from packed at zero = at
start_from packed at (suc n) = start_from packed (at + get_or packed at 0 + 1) n

-- the number of relation r's frame: tables come before the foreign keys and views behind them
unfoldable pub frame_number : ℕ → ℕ → ℕ → ℕ
frame_number tables keys r = cond (ltb r tables) r (r + keys)

-- the places of the first n relations' frames noted in turn
unfoldable pub put_starts : List ℕ → ℕ → ℕ → ℕ → List Relation → List Relation
put_starts packed tables keys zero rs = rs
put_starts packed tables keys (suc n) rs = put_start (put_starts packed tables keys n rs) n (start_from packed 0 (frame_number tables keys n))

-- they are there; all else that is known of the relations stays
pub record StartsPut (packed : List ℕ) (tables keys n : ℕ) (rs rs' : List Relation) : Type 0 where
  pub relations-are : rs' ≡ put_starts packed tables keys n rs
  pub known : Known rs rs'
  pub there : (r : ℕ) → r < n → r < length rs → start_at rs' r ≡ start_from packed 0 (frame_number tables keys r)

-- ---- the plan

-- the counts, the place behind the frames of the tables, and whether some table has a row
pub record OutlineFrom (bytes : List ℕ) (rs : List Relation) (s : Progress) (o : Outline) : Type 0 where
  pub tables : o.tables ≡ s.tables
  pub keys : o.keys ≡ s.keys
  pub relations : o.relations ≡ s.relations
  pub foreign : o.foreign ≡ start_from bytes 0 s.tables
  pub filled : SomeRow rs s.tables o.filled

pub record PlanFrom (bytes : List ℕ) (s : Progress) (rs : List Relation) (n : ℕ) (p : Plan) : Type 0 where
  pub bytes-are : p.bytes ≡ bytes
  pub starts : StartsPut bytes s.tables s.keys 16 rs p.relations
  pub outline : OutlineFrom bytes rs s p.outline
  pub goal : p.goal ≡ record { view = s.goal; negative = s.negative }
  pub candidates-are : p.candidates ≡ n

abbrev pub Plans : Outcome → Result Plan Refusal → Type 0
Plans (Outcome.refused n line) (Ok p) = ⊥
Plans (Outcome.refused n line) (Err r) = Says n line r
Plans (Outcome.accepted F) (Ok p) = PlanOf F p
Plans (Outcome.accepted F) (Err r) = ⊥

-- the plan of a text whose frames, packed in these bytes, were all walked without fault
pub record PlansWhole (bytes : List ℕ) (s : Progress) (rs : List Relation) (p : Result Plan Refusal) : Type 0 where
  pub plans : (text : List ℕ) (fs : List (List ℕ)) (r : Frames) → frames_of text ≡ Lines.frames fs → Holds fs r → r.bytes ≡ bytes
      → WalkedTo (reach fs empty 1) (Ok s) rs → Plans (file_of text) p
