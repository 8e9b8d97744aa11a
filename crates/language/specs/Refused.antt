-- `Refused`: the refusals 1 to 10 that a text has, each by its condition, with its number and line. "Order: .. 1, 2 over the whole text,
-- then frames in turn, then 3 for no goal, 10." `file_of` refuses exactly so (proofs/Refusals). Assumes nothing: these are definitions.
use Rattle.std.specs.Prelude.{◌≡◌, true, false, List, [], ◌∷◌, ◌++◌, ℕ, ◌+◌, ◌<◌, length}
use Rattle.std.proofs.Math.Option.{none, some}
use Rattle.text.specs.Text.{Lines, Gives}
use Rattle.meaning.specs.Syntax.{View, ForeignKey, Goal}
use Rattle.language.specs.Reading.{Read}
use Rattle.meaning.specs.Bounds.{same_width, aggregates_fit, bounded, ranges_fit}
use Rattle.meaning.specs.Candidates.{candidates}
use Rattle.language.specs.Draft.{Draft, Item, empty, added, file_at, schemas_of, in_order, has_room}
use Rattle.language.specs.Frames.{frame, exactly_key}
use Rattle.language.specs.Check.{candidate_limit}
use Rattle.language.specs.Legal.{table_at}

-- ---- one frame, behind those that gave the draft d

-- its kind is in order, and there is room for what it adds
pub record Due (d : Draft) (kind : ℕ) : Type 0 where
  pub order : in_order d kind ≡ true
  pub room : has_room d kind ≡ true

-- "whole-frame rules 6 (pairing, column counts), 7, 8, 9": the number of the first that an item breaks
pub data FirstBroken (d : Draft) : Item → ℕ → Type 0 where
  pairing : {k : ForeignKey} → exactly_key 0 (table_at d.tables k.parent).key k.pairs ≡ false → FirstBroken d (Item.key k) 6
  columns : {q : View} → same_width (schemas_of d) q ≡ false → FirstBroken d (Item.view q) 6
  aggregates : {q : View} → same_width (schemas_of d) q ≡ true → aggregates_fit (schemas_of d) q ≡ false → FirstBroken d (Item.view q) 7
  bound : {q : View} → same_width (schemas_of d) q ≡ true → aggregates_fit (schemas_of d) q ≡ true → bounded (schemas_of d) q ≡ false
      → FirstBroken d (Item.view q) 8
  ranges : {q : View} → same_width (schemas_of d) q ≡ true → aggregates_fit (schemas_of d) q ≡ true → bounded (schemas_of d) q ≡ true
      → ranges_fit (schemas_of d) q ≡ false → FirstBroken d (Item.view q) 9

-- the number of a frame's fault. A frame of a text has at least its kind
pub data Fault (d : Draft) : List ℕ → ℕ → Type 0 where
  -- "Within a frame, 3",
  kind : {k : ℕ} {bs : List ℕ} → in_order d k ≡ false → Fault d (k ∷ bs) 3
  -- "then a 17th relation or key",
  room : {k : ℕ} {bs : List ℕ} → in_order d k ≡ true → has_room d k ≡ false → Fault d (k ∷ bs) 5
  -- "then bytes left to right for 4, 5, 6, a surplus byte last";
  bytes : {k n : ℕ} {bs : List ℕ} → Due d k → frame d k bs ≡ Read.refused n → Fault d (k ∷ bs) n
  -- "then whole-frame rules"
  whole : {k n : ℕ} {bs : List ℕ} {i : Item} → Due d k → frame d k bs ≡ Read.ok i [] → FirstBroken d i n → Fault d (k ∷ bs) n

-- a frame without a fault, and the draft with what it adds
pub data Sound (d : Draft) : List ℕ → Draft → Type 0 where
  adds : {k : ℕ} {bs : List ℕ} {i : Item} → Due d k → frame d k bs ≡ Read.ok i [] → ((n : ℕ) → FirstBroken d i n → ⊥) → Sound d (k ∷ bs) (added d i)

-- ---- the whole text

-- "frames in turn": from one draft to another by frames without a fault
pub data Reaches : Draft → List (List ℕ) → Draft → Type 0 where
  here : {d : Draft} → Reaches d [] d
  next : {d e g : Draft} {f : List ℕ} {fs : List (List ℕ)} → Sound d f e → Reaches e fs g → Reaches d (f ∷ fs) g

pub data Refused (text : List ℕ) : ℕ → ℕ → Type 0 where
  -- "1, 2 over the whole text": `Gives` has the conditions
  in-text : {n l : ℕ} → Gives text (Lines.refused n l) → Refused text n l
  -- "then frames in turn": the first frame with a fault, at its line
  in_frame : (before after : List (List ℕ)) {f : List ℕ} {d : Draft} {n : ℕ} → Gives text (Lines.frames (before ++ (f ∷ after)))
      → Reaches empty before d → Fault d f n → Refused text n (length before + 1)
  -- "then 3 for no goal" (line 0),
  no-goal : {fs : List (List ℕ)} {d : Draft} → Gives text (Lines.frames fs) → Reaches empty fs d → d.goal ≡ none → Refused text 3 0
  -- "10": "N too large"
  too_many : {fs : List (List ℕ)} {d : Draft} {g : Goal} → Gives text (Lines.frames fs) → Reaches empty fs d → d.goal ≡ some g
      → candidate_limit < candidates (file_at d g) → Refused text 10 0
