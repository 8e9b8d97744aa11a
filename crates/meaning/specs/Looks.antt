-- What demand 3 says: of each look by itself, of every list of looks at one accepted file as a whole, and of looks that together cover all
-- candidates. Assumes nothing: these are definitions.
use Rattle.std.specs.Prelude.{◌≡◌, ◌↔◌, List, [], ◌∷◌, ℕ, ◌+◌, ◌≤◌, ◌<◌, min, ℤ, length, take, drop}
use Rattle.value.specs.Bag.{All}
use Rattle.value.specs.Value.{Cell}
use Rattle.meaning.specs.Lists.{Any, Each}
use Rattle.meaning.specs.Syntax.{File, Database}
use Rattle.meaning.specs.Cases.{Case}
use Rattle.meaning.specs.Candidates.{cell_count, candidates, cells, database}
use Rattle.meaning.specs.Look.{Answer, After, answer_in, work_size, zeros}

-- what a look gives of a start, a count, a work area and an instance buffer
abbrev pub Look : Type 0
Look = ℕ → ℕ → List ℤ → List ℤ → After

-- ---- cases by their numbers

module _ (F : File) where
  -- candidate k is a case of the file's goal, by the paper's definitions
  abbrev pub CaseAt : ℕ → Type 0
  CaseAt k = Case F (database F k) F.goal

  -- "that end left out, no candidate is a case"
  abbrev pub NoneFrom : ℕ → ℕ → Type 0
  NoneFrom start end = (j : ℕ) → start ≤ j → j < end → ¬ (CaseAt j)

  abbrev pub NoneBelow : ℕ → Type 0
  NoneBelow n = (j : ℕ) → j < n → ¬ (CaseAt j)

  -- "The first case in candidate order is the one with the smallest number"
  abbrev pub First : ℕ → Type 0
  First k = (k < candidates F) × CaseAt k × NoneBelow k

  -- "no database with the file's row counts, value ranges and keys, rows in any order, is a case of the wanted sign": a case is valid
  abbrev pub NoDatabase : Type 0
  NoDatabase = (d : Database) → ¬ (Case F d F.goal)

-- ---- one look, in a list or alone, from any start

module _ (F : File) where
  -- the first in the order of the document that is met: "11, work area short. 12, instance buffer shorter than the cells. 13, start > N"
  pub data RefusedBy (start : ℕ) (work inst : List ℤ) : ℕ → Type 0 where
    short-work : length work < work_size → RefusedBy start work inst 11
    short-instance : work_size ≤ length work → length inst < cell_count F → RefusedBy start work inst 12
    late-start : work_size ≤ length work → cell_count F ≤ length inst → candidates F < start → RefusedBy start work inst 13

  -- none of them is met: "A call that meets none of these conditions is accepted"
  pub record Fits (start : ℕ) (work inst : List ℤ) : Type 0 where
    pub area : work_size ≤ length work
    pub buffer : cell_count F ≤ length inst
    pub early : start ≤ candidates F

  -- "Let end = min(start + count, N)"
  abbrev pub end_of : ℕ → ℕ → ℕ
  end_of start count = min (start + count) (candidates F)

  -- "The smallest case k with start ≤ k < end"
  pub record Smallest (start end k : ℕ) : Type 0 where
    pub from : start ≤ k
    pub to : k < end
    pub hit : CaseAt F k
    pub none : NoneFrom F start k

  -- "the buffer begins with its cells", "instance numbers not just named keep their values": of the buffer before and after
  pub record Begins (k : ℕ) (inst inst' : List ℤ) : Type 0 where
    pub front : Each Cell (cells F k) (take (cell_count F) inst')
    pub rest : drop (cell_count F) inst' ≡ drop (cell_count F) inst
    pub size : length inst' ≡ length inst

  -- "After an accepted look the work area is all zero"; a refusal: "no buffer changes"
  abbrev pub Buffers : List ℤ → List ℤ → After → Type 0
  Buffers work inst (After.after (Answer.case k) work' inst') = (work' ≡ zeros work) × Begins k inst inst'
  Buffers work inst (After.after Answer.no_case work' inst') = (work' ≡ zeros work) × (inst' ≡ inst)
  Buffers work inst (After.after (Answer.spent next) work' inst') = (work' ≡ zeros work) × (inst' ≡ inst)
  Buffers work inst (After.after (Answer.refused n l) work' inst') = (work' ≡ work) × (inst' ≡ inst)

  -- what "A look" says of the result r
  pub record LookSays (start count : ℕ) (work inst : List ℤ) (r : After) : Type 0 where
    -- "The smallest case k with start ≤ k < end gives "case k""
    pub case-when : (k : ℕ) → (answer_in r ≡ Answer.case k) ↔ (Fits start work inst × Smallest start (end_of start count) k)
    -- "Otherwise "no case" if end = N"
    pub no-case-when : (answer_in r ≡ Answer.no_case)
        ↔ (Fits start work inst × (end_of start count ≡ candidates F) × NoneFrom F start (candidates F))
    -- "else "spent", with next = end"
    pub spent-when : (s : ℕ) → (answer_in r ≡ Answer.spent s)
        ↔ (Fits start work inst × (s ≡ end_of start count) × (s < candidates F) × NoneFrom F start s)
    -- "line 0 where none is said"
    pub refused-when : (n l : ℕ) → (answer_in r ≡ Answer.refused n l) ↔ (RefusedBy start work inst n × (l ≡ 0))
    pub buffers : Buffers work inst r

  -- "An accepted look, in a list or alone, from any start, gives exactly what "A look" says", and a refused one what is said of refusals
  abbrev pub EveryLook : Look → Type 0
  EveryLook look = (start count : ℕ) (work inst : List ℤ) → LookSays start count work inst (look start count work inst)

  -- the end of what a look passes over: "its k, its next or, at "no case", N". A refusal passes over nothing
  abbrev pub up_to : Answer → ℕ
  up_to (Answer.case k) = k
  up_to Answer.no_case = candidates F
  up_to (Answer.spent next) = next
  up_to (Answer.refused n l) = 0

-- a refused look writes nothing
abbrev pub RefusedUnchanged : Look → Type 0
RefusedUnchanged look = (start count : ℕ) (work inst : List ℤ) (n l : ℕ) (w i : List ℤ)
    → look start count work inst ≡ After.after (Answer.refused n l) w i → (w ≡ work) × (i ≡ inst)

-- ---- a list of looks

-- a look of a list: "its own count, from 0 up, and is lent buffers of any length and contents"
pub record Ask : Type 0 where
  pub count : ℕ
  pub work : List ℤ
  pub inst : List ℤ

-- where a list stands. The last number of each is "the sum .. of the counts of the accepted looks made". A list that ended in a case has
-- the look that ended it and the instance buffer after it
pub data Run : Type 0 where
  going : (start : ℕ) → ℕ → Run
  case : (k : ℕ) → Ask → (inst : List ℤ) → ℕ → Run
  no_case : ℕ → Run

-- "after spent it is the next handed back, a look refused .. leaves it, and nothing else writes it"
abbrev pub told : Ask → ℕ → ℕ → After → Run
told q start sum (After.after (Answer.case k) work inst) = Run.case k q inst (sum + q.count)
told q start sum (After.after Answer.no_case work inst) = Run.no_case (sum + q.count)
told q start sum (After.after (Answer.spent next) work inst) = Run.going next (sum + q.count)
told q start sum (After.after (Answer.refused n l) work inst) = Run.going start sum

-- a list of looks, by what one look gives of a start, a count and the buffers
module _ (look : Look) where
  -- "The list ends at the first "case k" or "no case"; later looks are not made"
  abbrev pub one : Run → Ask → Run
  one (Run.going start sum) q = told q start sum (look start q.count q.work q.inst)
  one (Run.case k q' inst sum) q = Run.case k q' inst sum
  one (Run.no_case sum) q = Run.no_case sum

  abbrev pub run_from : Run → List Ask → Run
  run_from r [] = r
  run_from r (q ∷ qs) = run_from (one r q) qs

  -- "The start is 0 at first"
  abbrev pub run : List Ask → Run
  run qs = run_from (Run.going 0 0) qs

-- what a list has come to: a list that has not ended hands back its start
abbrev pub outcome : Run → Answer
outcome (Run.going start sum) = Answer.spent start
outcome (Run.case k q inst sum) = Answer.case k
outcome (Run.no_case sum) = Answer.no_case

abbrev pub sum_of : Run → ℕ
sum_of (Run.going start sum) = sum
sum_of (Run.case k q inst sum) = sum
sum_of (Run.no_case sum) = sum

module _ (F : File) where
  -- "The cells of case k stand in the instance buffer lent to the look that ended the list"
  abbrev pub Stands : Run → Type 0
  Stands (Run.going start sum) = Unit {0}
  Stands (Run.case k q inst sum) = Begins F k q.inst inst
  Stands (Run.no_case sum) = Unit {0}

  -- demand 3, of a list that stands at r
  pub record Whole (r : Run) : Type 0 where
    pub case-when : (k : ℕ) → (outcome r ≡ Answer.case k) ↔ (First F k × (k < sum_of r))
    pub no-case-when : (outcome r ≡ Answer.no_case) ↔ ((candidates F ≤ sum_of r) × NoDatabase F)
    pub else : (s : ℕ) → outcome r ≡ Answer.spent s → (s ≡ sum_of r) × NoneBelow F s
    pub stands : Stands r

  -- demand 3: one statement about every list of looks
  abbrev pub EveryList : Look → Type 0
  EveryList look = (qs : List Ask) → Whole (run look qs)

-- ---- looks that together cover all candidates, in any order and from any starts

-- a look with a start of its own
pub record Stretch : Type 0 where
  pub start : ℕ
  pub count : ℕ
  pub work : List ℤ
  pub inst : List ℤ

-- not a refusal
abbrev pub Accepted : Answer → Type 0
Accepted (Answer.case k) = Unit {0}
Accepted Answer.no_case = Unit {0}
Accepted (Answer.spent next) = Unit {0}
Accepted (Answer.refused n l) = ⊥

module _ (F : File) (look : Look) where
  abbrev pub answer_to : Stretch → Answer
  answer_to q = answer_in (look q.start q.count q.work q.inst)

  -- each candidate lies in the stretch of some accepted look
  abbrev pub Covered : List Stretch → Type 0
  Covered qs = (j : ℕ) → j < candidates F → Any (λ q. Accepted (answer_to q) × (q.start ≤ j) × (j < q.start + q.count)) qs

  -- k is the smallest case among the answers
  pub record Least (qs : List Stretch) (k : ℕ) : Type 0 where
    pub answered : Any (λ q. answer_to q ≡ Answer.case k) qs
    pub least : All (λ q. (j : ℕ) → answer_to q ≡ Answer.case j → k ≤ j) qs

  -- what they say together
  pub record Together (qs : List Stretch) : Type 0 where
    pub first-when : (k : ℕ) → First F k ↔ Least qs k
    pub none-when : NoDatabase F ↔ All (λ q. (k : ℕ) → ¬ (answer_to q ≡ Answer.case k)) qs

  -- of any looks that cover all candidates, refused ones among them
  abbrev pub EveryCover : Type 0
  EveryCover = (qs : List Stretch) → Covered qs → Together qs
