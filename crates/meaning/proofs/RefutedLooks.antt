-- Wrong looks, of none of which demand 3 holds, each refuted by computation on a small file: by what is said of every list of looks, or of
-- every look by itself. Assumes nothing.
use mathlib.Core.Path.{◌≡◌, refl, ap}
use mathlib.Core.Bool.{true, false, cond, not, ◌&&◌, ◌||◌}
use mathlib.Core.List.{List, [], ◌∷◌}
use Prim.Native.Nat.{ℕ, ◌+◌, ◌-◌, ◌/◌, ◌%◌, ◌≤◌, ◌<◌, min}
use native.Mathlib.Omega.{arith}
use lib.Dec.{eqb, ltb}
use lib.IntN.{ℤ, pos}
use lib.ListN.{get_or, replicate}
use Rattle.value.specs.Integer.{min_z, max_z}
use Rattle.value.specs.Value.{Value, Column, Comparison, size, digit, digit_of, shown, compare, sure, holds, between, same_value}
use Rattle.value.proofs.Decides.{dec-true}
use Rattle.value.proofs.Values.{cell-number}
use Rattle.meaning.specs.Syntax.{Expr, Cond, View, File}
use Rattle.meaning.specs.Decided.{valid, is_case, some_row, seek, is_case_at, shown_in, after_search, look}
use Rattle.meaning.specs.Bounds.{well_formed}
use Rattle.meaning.specs.Candidates.{cell_columns, number, candidates, cells, database}
use Rattle.meaning.specs.Look.{Answer, After, zeros}
use Rattle.meaning.specs.Looks.{Look, CaseAt, Fits, Begins, EveryLook, RefusedUnchanged, Ask, EveryList}
use Rattle.meaning.proofs.DecidedLists.{cons-each}
use Rattle.meaning.proofs.Demand2.{cases}
use Rattle.meaning.proofs.OneLook.{apart}

-- one cell with the values 0, 1 and 2, of which the view keeps what is above 0: the first case is candidate 1
abbrev tiny : File
tiny = record {
  tables = record { rows = 1; columns = record { lo = pos 0; hi = pos 2 } ∷ []; key = false ∷ [] } ∷ [];
  keys = [];
  views = View.basic (0 ∷ []) (Cond.comparison Comparison.less (Expr.constant (pos 0)) (Expr.column 0 0)) (Expr.column 0 0 ∷ []) ∷ [];
  goal = record { view = 1; negative = false };
}

case-1 : CaseAt tiny 1
unfolding well_formed is_case valid some_row database cells size digit compare sure holds between same_value min_z max_z
case-1 = dec-true (cases tiny refl (database tiny 1)) refl

-- ---- by every list of looks

abbrev ask : ℕ → Ask
ask n = record { count = n; work = replicate 9216 (pos 0); inst = pos 7 ∷ [] }

-- searches only from 0, and calls every later stretch spent
abbrev only-first : Look
only-first start count work inst = cond (eqb start 0) (look tiny start count work inst) (After.after (Answer.spent (start + count)) (zeros work) inst)

pub not-only-first : EveryList tiny only-first → ⊥
unfolding look is_case_at is_case valid some_row candidates database cells size digit compare sure holds between same_value
not-only-first lists = ((lists (ask 1 ∷ ask 5 ∷ [])).else 6 refl).1 1 (omega arith) case-1

-- calls every stretch spent, with a made_up next
abbrev made_up : Look
made_up start count work inst = After.after (Answer.spent (start + 1)) (zeros work) inst

pub not-made-up : EveryList tiny made_up → ⊥
not-made-up lists = let e : ◌≡◌ {A = ℕ} 1 5 = ((lists (ask 5 ∷ [])).else 1 refl).0 in omega arith

-- calls every stretch spent, with the next that its count gives
abbrev never-searched : Look
never-searched start count work inst = After.after (Answer.spent (start + count)) (zeros work) inst

pub not-never-searched : EveryList tiny never-searched → ⊥
not-never-searched lists = ((lists (ask 2 ∷ [])).else 2 refl).1 1 (omega arith) case-1

-- says spent before its count is looked through
abbrev early : Look
early start count work inst = look tiny start (min count 1) work inst

pub not-early : EveryList tiny early → ⊥
unfolding look is_case_at is_case valid some_row candidates database cells size digit compare sure holds between same_value
not-early lists = let e : ◌≡◌ {A = ℕ} 1 2 = ((lists (ask 2 ∷ [])).else 1 refl).0 in omega arith

-- says no case without looking
abbrev unlooked : Look
unlooked start count work inst = After.after Answer.no_case (zeros work) inst

pub not-unlooked : EveryList tiny unlooked → ⊥
unfolding candidates size
not-unlooked lists = let l : 3 ≤ 1 = ((lists (ask 1 ∷ [])).no-case-when.0 refl).0 in omega arith

-- says no case of the file where its own stretch has none
abbrev widened : After → After
widened (After.after (Answer.spent next) work inst) = After.after Answer.no_case work inst
widened (After.after (Answer.case k) work inst) = After.after (Answer.case k) work inst
widened (After.after Answer.no_case work inst) = After.after Answer.no_case work inst
widened (After.after (Answer.refused n l) work inst) = After.after (Answer.refused n l) work inst

abbrev hasty : Look
hasty start count work inst = widened (look tiny start count work inst)

pub not-hasty : EveryList tiny hasty → ⊥
unfolding look is_case_at is_case valid some_row candidates database cells size digit compare sure holds between same_value
not-hasty lists = let l : 3 ≤ 1 = ((lists (ask 1 ∷ [])).no-case-when.0 refl).0 in omega arith

-- leaves other buffers
abbrev with-buffers : (List ℤ → List ℤ) → (List ℤ → List ℤ) → After → After
with-buffers f g (After.after a w i) = After.after a (f w) (g i)

-- shows candidate 0 whatever it found
abbrev always-0 : Look
always-0 start count work inst = with-buffers (λ w. w) (λ _. shown_in tiny 0 inst) (look tiny start count work inst)

-- a buffer of one number that begins with the cell of candidate 1 holds 1
begins-1 : {z : ℤ} {inst : List ℤ} → Begins tiny 1 inst (z ∷ []) → z ≡ pos 1
unfolding cells size digit
begins-1 {z} b = let e : Value.number (pos 1) ≡ Value.number z = cell-number (cons-each b.front).0 in cc

pub not-always-0 : EveryList tiny always-0 → ⊥
unfolding look is_case_at is_case valid some_row candidates database cells size digit shown compare sure holds between same_value
not-always-0 lists = let e : pos 0 ≡ pos 1 = begins-1 (lists (ask 2 ∷ [])).stands in apart (cc)

-- writes nothing into the buffer
abbrev unwritten : Look
unwritten start count work inst = with-buffers (λ w. w) (λ _. inst) (look tiny start count work inst)

pub not-unwritten : EveryList tiny unwritten → ⊥
unfolding look is_case_at is_case valid some_row candidates database cells size digit shown compare sure holds between same_value
not-unwritten lists =
    let e : pos 7 ≡ pos 1 = begins-1 (lists (ask 2 ∷ [])).stands in
    let n : ◌≡◌ {A = ℕ} 7 1 = cc in
    omega arith

-- ---- by every look

-- leaves out the candidate that it starts from
abbrev skipping : Look
skipping start count work inst = look tiny (start + 1) count work inst

pub not-skipping : EveryLook tiny skipping → ⊥
unfolding look is_case_at is_case valid some_row candidates database cells size digit shown compare sure holds between same_value
not-skipping says = (((says 1 1 (ask 1).work (ask 1).inst).case-when 2).0 refl).1.none 1 (omega arith) (omega arith) case-1

-- says no case without looking, from any start
pub not-unlooked-alone : EveryLook tiny unlooked → ⊥
unfolding candidates size
not-unlooked-alone says = ((says 0 1 [] []).no-case-when.0 refl).2 1 (omega arith) (omega arith) case-1

-- past the first case it never searches: it hands back its start, and zeroes the instance buffer
abbrev lazy : Look
lazy start count work inst = cond (ltb 1 start) (After.after (Answer.spent start) (zeros work) (zeros inst)) (look tiny start count work inst)

pub not-lazy : EveryLook tiny lazy → ⊥
unfolding candidates size
not-lazy says = let e : ◌≡◌ {A = ℕ} 2 3 = (((says 2 1 (ask 1).work (ask 1).inst).spent-when 2).0 refl).1 in omega arith

-- zeroes the instance buffer where it finds nothing
abbrev zeroing : Look
zeroing start count work inst = cond (ltb 1 start) (with-buffers (λ w. w) zeros (look tiny start count work inst)) (look tiny start count work inst)

pub not-zeroing : EveryLook tiny zeroing → ⊥
unfolding look is_case_at candidates size
not-zeroing says = let e : pos 0 ∷ [] ≡ pos 7 ∷ [] = (says 2 0 (ask 0).work (ask 0).inst).buffers.1 in apart (cc)

-- leaves its work area as it is
abbrev untidy : Look
untidy start count work inst = with-buffers (λ _. work) (λ i. i) (look tiny start count work inst)

pub not-untidy : EveryLook tiny untidy → ⊥
unfolding look is_case_at candidates size
not-untidy says =
    let work = replicate 9216 (pos 1) in
    let e : pos 1 ≡ pos 0 = ap (λ (w : List ℤ). get_or w 0 (pos 0)) (says 0 0 work (pos 7 ∷ [])).buffers.0 in
    apart (cc)

-- refuses every look. No list of looks refutes it, since a refused look counts for nothing
abbrev unwilling : Look
unwilling start count work inst = After.after (Answer.refused 11 0) work inst

pub not-unwilling : EveryLook tiny unwilling → ⊥
unfolding candidates size
not-unwilling says =
    let fits : Fits tiny 0 (ask 0).work (ask 0).inst = record { area = omega arith; buffer = omega arith; early = omega arith } in
    let e : Answer.refused 11 0 ≡ Answer.spent 0 = ((says 0 0 (ask 0).work (ask 0).inst).spent-when 0).1 (fits, refl, omega arith, λ j a b. absurd (omega arith)) in
    apart (cc)

-- refuses, and writes its work area
abbrev refusing : Look
refusing start count work inst = After.after (Answer.refused 11 0) (zeros work) inst

pub not-refusing : RefusedUnchanged refusing → ⊥
not-refusing u = let e : pos 0 ∷ [] ≡ pos 1 ∷ [] = (u 0 0 (pos 1 ∷ []) [] 11 0 (pos 0 ∷ []) [] refl).0 in apart (cc)

-- ---- invalid candidates

-- two rows of one keyed column with the values 0 and 1, and a view of all rows: candidate 0 breaks the key, candidate 1 is a case
abbrev keyed : File
keyed = record {
  tables = record { rows = 2; columns = record { lo = pos 0; hi = pos 1 } ∷ []; key = true ∷ [] } ∷ [];
  keys = [];
  views = View.basic (0 ∷ []) Cond.always (Expr.column 0 0 ∷ []) ∷ [];
  goal = record { view = 1; negative = false };
}

keyed-case : CaseAt keyed 1
unfolding well_formed is_case valid some_row database cells size digit compare sure holds between same_value min_z max_z
keyed-case = dec-true (cases keyed refl (database keyed 1)) refl

-- stops at the first invalid candidate, with some answer there
abbrev stopping : (ℕ → Answer) → Look
stopping stop start count work inst =
    let end = min (start + count) (candidates keyed) in
    let k = seek (λ j. not (valid keyed (database keyed j)) || is_case_at keyed j) start (end - start) in
    cond (ltb k end && not (is_case_at keyed k)) (After.after (stop k) (zeros work) inst) (after_search keyed end k work inst)

-- says no case there
pub not-stopping : EveryList keyed (stopping (λ k. Answer.no_case)) → ⊥
unfolding is_case_at is_case valid some_row candidates database cells size digit compare sure holds between same_value
not-stopping lists = ((lists (ask 4 ∷ [])).no-case-when.0 refl).1 (database keyed 1) keyed-case

-- says spent there
pub not-stopping-spent : EveryList keyed (stopping Answer.spent) → ⊥
unfolding is_case_at is_case valid some_row candidates database cells size digit compare sure holds between same_value
not-stopping-spent lists = let e : ◌≡◌ {A = ℕ} 0 4 = ((lists (ask 4 ∷ [])).else 0 refl).0 in omega arith

-- ---- candidate order

-- the digits with the last cell most significant
abbrev last-first : List Column → ℕ → List Value
last-first [] k = []
last-first (c ∷ cs) k = digit c (k % size c) ∷ last-first cs (k / size c)

pub not-last-first : ((k : ℕ) → k < candidates keyed → number (cell_columns keyed.tables) (last-first (cell_columns keyed.tables) k) ≡ k) → ⊥
unfolding candidates size digit digit_of
not-last-first order = let e : ◌≡◌ {A = ℕ} 2 1 = order 1 (omega arith) in omega arith
