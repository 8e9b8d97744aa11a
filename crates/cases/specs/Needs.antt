-- Relations that a goal depends on, by flags of their rows and signs. Assumes nothing: these are definitions.
use Rattle.std.specs.Prelude.{◌≡◌, Bool, true, false, ◌&&◌, ◌||◌, cond, List, [], ◌∷◌, ◌++◌, ℕ, zero, suc, ◌+◌, ◌-◌, ◌≤◌, ◌<◌, eqb, ltb, leb, length, get_or, set, replicate}
use Rattle.std.proofs.Math.Option.{some}
use Rattle.value.specs.Bag.{All}
use Rattle.meaning.specs.Syntax.{View, Goal, File}
use Rattle.meaning.specs.Algebra.{query}
use Rattle.meaning.specs.Bounds.{names}
use Rattle.language.specs.Legal.{NamesView}
use Rattle.language.specs.Written.{view_bytes}
use Rattle.catalog.specs.Frames.{frame_in, names_in}
use Rattle.catalog.specs.FileIn.{Source, FileLaid, goal_of}
use Rattle.catalog.specs.declared.plan.Goal.{Goal as GoalHere}
use Rattle.catalog.specs.declared.relation.Relation.{Relation}
use Rattle.cases.specs.declared.needs.Needs.{Needs}

-- relation i has a flag
pub record Flag (flags : List Bool) (i : ℕ) : Type 0 where
  pub on : get_or flags i false ≡ true

-- its rows are needed, and it is asked whether it is negative
abbrev pub Needed : Needs → ℕ → Type 0
Needed needs = Flag needs.rows

abbrev pub Asked : Needs → ℕ → Type 0
Asked needs = Flag needs.signs

-- what tells whether a view is negative: the rows of the relations that it names or, of a set view, whether both operands are negative
abbrev pub Asks : Needs → View → Type 0
Asks needs (View.basic fs w es) = All (Needed needs) (names (View.basic fs w es))
Asks needs (View.grouped fs w gs h es) = All (Needed needs) (names (View.grouped fs w gs h es))
Asks needs (View.set op i j) = Asked needs i × Asked needs j

-- the flags of signs, or those of rows
abbrev pub flags_of : Bool → Needs → List Bool
flags_of asked needs = cond asked needs.signs needs.rows

-- what tells of a goal: its sign, or its rows
abbrev pub Wants : Needs → Bool → ℕ → Type 0
Wants needs negative v = Flag (flags_of negative needs) v

-- g is a view of the file, as its own goal is
abbrev pub GoalIn : File → Goal → Type 0
GoalIn F g = NamesView (length F.tables) (length F.tables + length F.views) g.view

-- the flags are those of all relations that the goal depends on, and perhaps others
pub record Covers (F : File) (g : Goal) (needs : Needs) : Type 0 where
  pub view : GoalIn F g
  pub goal : Wants needs g.negative g.view
  pub rows : (v : ℕ) (q : View) → query (length F.tables) F v ≡ some q → Needed needs v → All (Needed needs) (names q)
  pub signs : (v : ℕ) (q : View) → query (length F.tables) F v ≡ some q → Asked needs v → Asks needs q

-- ---- what the code gives

-- a view that is none of 05 and 06
abbrev pub own_conditions : View → Bool
own_conditions (View.basic fs w es) = true
own_conditions (View.grouped fs w gs h es) = true
own_conditions (View.set op i j) = false

-- of no relation, and of every one
abbrev pub no_flags : List Bool
no_flags = replicate 16 false

abbrev pub no_needs : Needs
no_needs = record { rows = no_flags; signs = no_flags }

abbrev pub all_needs : Needs
all_needs = record { rows = replicate 16 true; signs = replicate 16 true }

-- the flag of the goal's sign, or that of its rows
unfoldable pub goal_needs : GoalHere → Needs
goal_needs g = record {
  rows = cond g.negative no_flags (set no_flags g.view true);
  signs = cond g.negative (set no_flags g.view true) no_flags;
}

-- the same beside flags that are set
unfoldable pub with_goal : GoalHere → Needs → Needs
with_goal g needs = record {
  rows = cond g.negative needs.rows (set needs.rows g.view true);
  signs = cond g.negative (set needs.signs g.view true) needs.signs;
}

-- flags are only ever set
pub record More (flags flags' : List Bool) : Type 0 where
  pub size : length flags' ≡ length flags
  pub kept : (i : ℕ) → Flag flags i → Flag flags' i

-- the flag of each relation that is named is set, one after the other
unfoldable pub set_flags : List ℕ → List Bool → List Bool
set_flags [] flags = flags
set_flags (i ∷ is) flags = set_flags is (set flags i true)

-- the relation behind a byte 17 at place i, if it is before relation v. Not every byte 17 is a token, so that more than those into which the
-- view looks may be named; nobody sees it, as rows that are not asked for change no answer
abbrev pub behind_at : ℕ → List ℕ → ℕ → List ℕ
behind_at v frame i = cond (eqb (get_or frame i 0) 0x17 && ltb (get_or frame (i + 1) 0) v) (get_or frame (i + 1) 0 ∷ []) []

-- those of the first n places
unfoldable pub behind_to : ℕ → List ℕ → ℕ → List ℕ
behind_to v frame zero = []
behind_to v frame (suc n) = behind_to v frame n ++ behind_at v frame n

-- the relations at the front of view v's frame, and those behind a byte 17
abbrev pub named_in : ℕ → List ℕ → List ℕ
named_in v frame = names_in frame ++ behind_to v frame (length frame)

-- the rows of what view v names are needed: its own are, or it is no set view and its sign is asked
unfoldable pub with_rows : List ℕ → Needs → ℕ → Needs
with_rows frame needs v =
    cond (get_or needs.rows v false || (get_or needs.signs v false && ltb (get_or frame 0 0) 5))
    (record { rows = set_flags (named_in v frame) needs.rows; signs = needs.signs }) needs

-- the signs of what view v names are asked: it is a set view, and its own is asked
unfoldable pub with_signs : List ℕ → Needs → ℕ → Needs
with_signs frame needs v =
    cond (get_or needs.signs v false && leb 5 (get_or frame 0 0))
    (record { rows = needs.rows; signs = set_flags (names_in frame) needs.signs }) needs

-- both, for n views from relation t on, from the last down
unfoldable pub with_needs : List ℕ → List Relation → ℕ → ℕ → Needs → Needs
with_needs bytes relations t zero needs = needs
with_needs bytes relations t (suc n) needs =
    let frame = frame_in bytes relations (t + n) in with_needs bytes relations t n (with_signs frame (with_rows frame needs (t + n)) (t + n))

pub record NamesSet (is : List ℕ) (flags flags' : List Bool) : Type 0 where
  pub here : flags' ≡ set_flags is flags
  pub more : More flags flags'
  pub named : length flags ≡ 16 → All (λ i. i < 16) is → All (Flag flags') is
  -- and none but these
  pub others : (k : ℕ) → All (λ j. k ≡ j → ⊥) is → get_or flags' k false ≡ get_or flags k false

pub record NeedsRows (frame : List ℕ) (needs : Needs) (v : ℕ) (needs' : Needs) : Type 0 where
  pub here : needs' ≡ with_rows frame needs v
  pub more : More needs.rows needs'.rows
  pub signs-kept : needs'.signs ≡ needs.signs
  pub for-rows : (q : View) → frame ≡ view_bytes q → length needs.rows ≡ 16 → v < 16 → All (λ i. i < v) (names q) → Needed needs v → All (Needed needs') (names q)
  pub for-sign : (q : View) → frame ≡ view_bytes q → length needs.rows ≡ 16 → v < 16 → All (λ i. i < v) (names q) → own_conditions q ≡ true → Asked needs v
      → All (Needed needs') (names q)
  pub others : (q : View) → frame ≡ view_bytes q → All (λ i. i < v) (names q) → (k : ℕ) → v ≤ k → get_or needs'.rows k false ≡ get_or needs.rows k false

pub record NeedsSigns (frame : List ℕ) (needs : Needs) (v : ℕ) (needs' : Needs) : Type 0 where
  pub here : needs' ≡ with_signs frame needs v
  pub more : More needs.signs needs'.signs
  pub rows-kept : needs'.rows ≡ needs.rows
  pub for-sign : (q : View) → frame ≡ view_bytes q → length needs.signs ≡ 16 → v < 16 → All (λ i. i < v) (names q) → own_conditions q ≡ false → Asked needs v
      → All (Asked needs') (names q)
  pub others : (q : View) → frame ≡ view_bytes q → All (λ i. i < v) (names q) → (k : ℕ) → v ≤ k → get_or needs'.signs k false ≡ get_or needs.signs k false

-- which flags are set, of any bytes and arrays, and that those stay that were; that they are those that the goal and those depend on, of a file in
-- memory
pub record NeedsWith (source : Source) (first : Needs) (g : GoalHere) (needs : Needs) : Type 0 where
  pub here : let o = source.outline in needs ≡ with_needs source.bytes source.relations o.tables (o.relations - o.tables) (with_goal g first)
  pub more-rows : More first.rows needs.rows
  pub more-signs : More first.signs needs.signs
  pub covers : {F : File} → FileLaid F source → GoalIn F (goal_of g) → Covers F (goal_of g) needs

-- the same of a goal alone
pub record NeedsOf (source : Source) (g : GoalHere) (needs : Needs) : Type 0 where
  pub here : let o = source.outline in needs ≡ with_needs source.bytes source.relations o.tables (o.relations - o.tables) (goal_needs g)
  pub covers : {F : File} → FileLaid F source → GoalIn F (goal_of g) → Covers F (goal_of g) needs
