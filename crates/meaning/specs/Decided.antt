-- What is said, decided: the tests that a program computes, of a valid database, of a case and of a look. Theorems join each to what is said
-- (`DecidedValidity.valid-dec`, `Demand2.cases`, `Demand3.look-says`). Assumes nothing: these are definitions, and they compute.
use Rattle.std.specs.Prelude.{Bool, false, not, ◌&&◌, ◌||◌, cond, List, [], ◌∷◌, ◌++◌, map, ℕ, zero, suc, ◌+◌, ◌-◌, min, ltb, eqb, ℤ, length, get_or, drop}
use Rattle.std.proofs.Math.Option.{Option, none, some}
use Rattle.value.specs.Value.{value_test, in_column, shown}
use Rattle.meaning.specs.Lists.{is_pos, all, any, pairwise, each}
use Rattle.meaning.specs.Syntax.{Table, Cond, SetOperation, View, Pair, ForeignKey, Goal, File, Row, Database}
use Rattle.meaning.specs.Evaluation.{missing}
use Rattle.meaning.specs.Rows.{rows_of, rows}
use Rattle.meaning.specs.Algebra.{Bag, query, below}
use Rattle.meaning.specs.Candidates.{cell_count, candidates, cells, database}
use Rattle.meaning.specs.Look.{Answer, After, zeros, work_size}

-- ---- valid databases

abbrev pub in_range : Table → List Row → Bool
in_range t R = eqb (length R) t.rows && all (each in_column t.columns) R

abbrev pub differ : List Bool → Row → Row → Bool
differ [] μ ν = false
differ (k ∷ ks) [] ν = false
differ (k ∷ ks) (x ∷ μ) [] = false
differ (k ∷ ks) (x ∷ μ) (y ∷ ν) = (k && not (value_test.same x y)) || differ ks μ ν

abbrev pub key_holds : Table → List Row → Bool
key_holds t R = not (any (λ k. k) t.key) || pairwise (differ t.key) R

abbrev pub agrees : List Pair → Row → Row → Bool
agrees ps μ ν = all (λ p. value_test.same (get_or μ p.child missing) (get_or ν p.parent missing)) ps

abbrev pub foreign_key_holds : Database → ForeignKey → Bool
foreign_key_holds d k = all (λ μ. any (agrees k.pairs μ) (get_or d k.parent [])) (get_or d k.child [])

unfoldable pub valid : File → Database → Bool
valid F d = each in_range F.tables d && (each key_holds F.tables d && all (foreign_key_holds d) F.keys)

-- ---- cases

abbrev pub has_row : Bag → Bool
has_row B = is_pos (length B)

unfoldable pub some_row : Database → Bool
some_row d = any has_row d

-- Definition 4: a union's operands are both negative, an intersection has a negative operand
abbrev pub set_negative : SetOperation → Bool → Bool → Bool
set_negative SetOperation.union a b = a && b
set_negative SetOperation.intersection a b = a || b

-- whether a query is negative over the relations M, where `neg` says it of the relations themselves
abbrev pub refuted : (ℕ → Bag) → (ℕ → Bool) → Option View → Bool
refuted M neg none = false
refuted M neg (some (View.basic fs w ss)) = has_row (rows_of M (View.basic fs (Cond.negated w) ss))
refuted M neg (some (View.grouped fs w gs h ss)) =
    has_row (rows_of M (View.grouped fs (Cond.negated w) gs h ss))
    || (has_row (rows_of M (View.grouped fs w gs (Cond.negated h) ss))
    || has_row (rows_of M (View.grouped fs (Cond.negated w) gs (Cond.negated h) ss)))
refuted M neg (some (View.set op i j)) = set_negative op (neg i) (neg j)

-- the first argument is above v: set views join earlier ones
abbrev pub negative : File → Database → ℕ → ℕ → Bool
negative F d zero v = false
negative F d (suc n) v = refuted (below v (rows F d)) (negative F d n) (query (length d) F v)

-- the same, computed
abbrev pub wanted : File → Database → Goal → Bool
wanted F d g = let v = g.view in cond g.negative (negative F d (suc v) v) (has_row (rows F d v))

-- "It is a case only if valid and some table has a row"
unfoldable pub is_case : File → Goal → Database → Bool
is_case F g d = valid F d && (some_row d && wanted F d g)

-- ---- looks

-- the least of s, .., s + n - 1 of which p holds, or s + n
abbrev pub seek : (ℕ → Bool) → ℕ → ℕ → ℕ
seek p s zero = s
seek p s (suc n) = cond (p s) s (seek p (suc s) n)

-- 11, 12 and 13 have no line: "line 0 where none is said"
abbrev pub refusal : ℕ → List ℤ → List ℤ → After
refusal n work inst = After.after (Answer.refused n 0) work inst

module _ (F : File) where
  -- candidate k is a case
  unfoldable pub is_case_at : ℕ → Bool
  is_case_at k = is_case F F.goal (database F k)

  -- "the buffer begins with its cells", "instance numbers not just named keep their values". In a legal file 16 bits hold every cell
  abbrev pub shown_in : ℕ → List ℤ → List ℤ
  shown_in k inst = map shown (cells F k) ++ drop (cell_count F) inst

  -- k is the first case at or after the start, or the end where there is none before it
  abbrev pub after_search : ℕ → ℕ → List ℤ → List ℤ → After
  after_search end k work inst =
      cond (ltb k end) (After.after (Answer.case k) (zeros work) (shown_in k inst))
      (After.after (cond (eqb end (candidates F)) Answer.no_case (Answer.spent end)) (zeros work) inst)

  -- "Let end = min(start + count, N). The smallest case k with start ≤ k < end gives "case k" .. Otherwise "no case" if end = N, else "spent""
  abbrev pub searched : ℕ → ℕ → List ℤ → List ℤ → After
  searched start count work inst =
      let end = min (start + count) (candidates F) in
      after_search end (seek is_case_at start (end - start)) work inst

  -- "11, work area short. 12, instance buffer shorter than the cells. 13, start > N"
  unfoldable pub look : ℕ → ℕ → List ℤ → List ℤ → After
  look start count work inst =
      cond (ltb (length work) work_size) (refusal 11 work inst)
      (cond (ltb (length inst) (cell_count F)) (refusal 12 work inst)
      (cond (ltb (candidates F) start) (refusal 13 work inst)
      (searched start count work inst)))
