-- The marked examples of document 01, M1 to M12: one table of texts with what each must give. Assumes nothing: these are definitions.
use Rattle.std.specs.Prelude.{◌≡◌, List, [], ◌∷◌, ◌++◌, map, ℕ, ◌+◌, ◌≤◌, ◌<◌, ℤ, pos, neg_ℤ, length, drop}
use Prim.Native.Char.{code}
use Prim.Native.String.{String, [] as no_more, ◌∷◌ as ◌and_then◌}
use Rattle.value.specs.Value.{Value}
use Rattle.range.specs.Ranges.{range_from}
use Rattle.meaning.specs.Syntax.{File, Row}
use Rattle.meaning.specs.Rows.{rows}
use Rattle.meaning.specs.Algebra.{MeaningOf}
use Rattle.meaning.specs.Bounds.{schema, schemas}
use Rattle.meaning.specs.Candidates.{cell_count, candidates, database}
use Rattle.meaning.specs.Look.{Answer, After, work_size, zeros}
use Rattle.meaning.specs.Looks.{CaseAt, NoDatabase, up_to}
use Rattle.language.specs.Check.{Outcome}
use Rattle.language.specs.FileOf.{file_of}
use Rattle.language.specs.LookOf.{look_of}
use Rattle.language.specs.OutputOf.{output_of, output_room, Printed}

-- ---- entries, and what each says

pub data Entry : Type 0 where
  -- a look from a start with a count: its answer, and the cells that it puts at the front of the instance buffer
  looked : (text : List ℕ) (start count : ℕ) → Answer → (cells : List ℤ) → Entry
  -- the rows of a relation in the database of a candidate, in their order
  viewed : (text : List ℕ) (candidate relation : ℕ) → List (List ℤ) → Entry
  -- the row bound of a relation, and lo and hi of each of its columns
  bounded : (text : List ℕ) (relation bound : ℕ) → List (ℤ × ℤ) → Entry
  -- accepted, with its number of candidates
  accepted : (text : List ℕ) (candidates : ℕ) → Entry
  -- refused by a number at a line
  refused : (text : List ℕ) (number line : ℕ) → Entry
  -- what the program prints
  printed : (text output : List ℕ) → Entry

-- whatever buffers are lent, if they are long enough: the answer, a work area all zero, the cells, and every other number as it was
abbrev pub LookGives : List ℕ → ℕ → ℕ → Answer → List ℤ → File → Type 0
LookGives text start count a cells F = (work inst : List ℤ) → work_size ≤ length work → cell_count F ≤ length inst
    → look_of text start count work inst ≡ After.after a (zeros work) (cells ++ drop (length cells) inst)

-- by the paper's definitions: no candidate from the start up to where the answer stands is a case, the k of "case k" is one, and "no case"
-- from 0 says that no database is one
abbrev pub Judges : ℕ → Answer → File → Type 0
Judges start a F =
    ((j : ℕ) → start ≤ j → j < up_to F a → ¬ (CaseAt F j))
    × ((k : ℕ) → a ≡ Answer.case k → CaseAt F k)
    × (start ≡ 0 → a ≡ Answer.no_case → NoDatabase F)

-- a relation that is there
abbrev pub Relation : ℕ → File → Type 0
Relation v F = v < length F.tables + length F.views

-- a candidate and a relation that are there: the bag that the algebra gives, and the order of its rows
abbrev pub Shows : ℕ → ℕ → List Row → File → Type 0
Shows k v rs F = let d = database F k in (k < candidates F) × Relation v F × MeaningOf F d v rs × (rows F d v ≡ rs)

-- a relation that is there: exactly this row bound and exactly these ranges
abbrev pub Spans : ℕ → ℕ → List (ℤ × ℤ) → File → Type 0
Spans v n rs F = Relation v F × (schema (schemas F) v ≡ record { bound = n; ranges = map (λ r. range_from r.0 r.1) rs })

-- what `report::output` gives of a text and a buffer with room, whatever it holds: the lines at its front, their number of bytes, and the
-- rest as it was
abbrev pub Prints : List ℕ → List ℕ → Type 0
Prints text output = (out : List ℕ) (r : ℕ) (out' : List ℕ) → Printed text out r out' → output_room ≤ length out
    → (r ≡ length output) × (out' ≡ output ++ drop (length output) out)

unfoldable pub Right : Entry → Type 0
Right (looked text start count a cells) = (F : File) × (file_of text ≡ Outcome.accepted F) × LookGives text start count a cells F × Judges start a F
Right (viewed text k v rs) = (F : File) × (file_of text ≡ Outcome.accepted F) × Shows k v (map (map Value.number) rs) F
Right (bounded text v n rs) = (F : File) × (file_of text ≡ Outcome.accepted F) × Spans v n rs F
Right (accepted text n) = (F : File) × (file_of text ≡ Outcome.accepted F) × (candidates F ≡ n)
Right (refused text n l) = file_of text ≡ Outcome.refused n l
Right (printed text output) = (output_of text ≡ output) × Prints text output

-- ---- texts: each with its file in SQL, where t is relation 0 and v1 is relation 1

-- the codes of a line's characters
abbrev pub bytes : String → List ℕ
bytes no_more = []
bytes (c and_then s) = code c ∷ bytes s

-- "each line closed by LF"
abbrev pub lines : List String → List ℕ
lines [] = []
lines (l ∷ ls) = bytes l ++ 10 ∷ lines ls

-- t: 1 row, a from 0 to 12. v1: select a from t where 8 < a. v2: select a from v1 where 5 < a. A goal
abbrev pub program : String → List ℕ
program goal = lines ("010101000000000c" ∷ "0301000112000008010000010000" ∷ "0301010112000005010000010000" ∷ goal ∷ [])

-- t: 1 row. v1: select round(14, 10), round(15, 10), .. from t, with 05000a00 before each number
abbrev pub rounded : List ℕ
rounded =
    lines ("0101010000000000" ∷ "030100071005000a00000e05000a00000f05000a00fff105000a00fff205000a00000505000a00fffb05000a000000" ∷ "070100" ∷ [])

-- t: 2 rows, u: 1 row, both with a from 5 to 5. v2: select a from t. v3: select a from u. v4: v2 union all v3. v5: v2 intersect all v3
abbrev pub bags : List ℕ
bags = lines ("0102010000050005" ∷ "0101010000050005" ∷ "0301000110010000" ∷ "0301010110010000" ∷ "050203" ∷ "060203" ∷ "070400" ∷ [])

-- a table t whose first column is a. v1: select a from t. A goal
abbrev pub selected : String → String → List ℕ
selected table goal = lines (table ∷ "0301000110010000" ∷ goal ∷ [])

-- t: 2 rows, g from 1 to 1 and a from 50 to 51. v1: select g, sum(a) from t group by g having 100 < sum(a)
abbrev pub grouped : List ℕ
grouped = lines ("010202000001000100320033" ∷ "04010001021000001200006407010100010100000701010001" ∷ "070100" ∷ [])

-- t: 2 rows, a from 0 to 3. v1: select count(a) from t where not true, as an aggregate view
abbrev pub emptied : List ℕ
emptied = lines ("0102010000000003" ∷ "04010000011410100700010000" ∷ "070100" ∷ [])

-- t and u: 8 rows each. w: 2 rows. A view of them
abbrev pub combined : String → List ℕ
combined view = lines ("0108010000000000" ∷ "0108010000000000" ∷ "0102010000000000" ∷ view ∷ "070300" ∷ [])

-- a table t of 1 row whose column is a. v1: select a * a + a * a from t
abbrev pub squared : String → List ℕ
squared table = lines (table ∷ "0301000110020401000001000004010000010000" ∷ "070100" ∷ [])

-- ---- the table

abbrev pub minus : ℕ → ℤ
minus n = neg_ℤ (pos n)

-- each entry with the number of its example
abbrev pub table : List (ℕ × Entry)
table =
    -- "M1 the input above: count 9 from 0 is spent, next 9; count 10 is case 9"
    (1, looked (program "070200") 0 9 (Answer.spent 9) [])
    ∷ (1, looked (program "070200") 0 10 (Answer.case 9) (pos 9 ∷ []))
    -- from later starts: candidate 10 is a case too, and "no case" from 13, which is N, does not hold for the whole file
    ∷ (1, looked (program "070200") 10 3 (Answer.case 10) (pos 10 ∷ []))
    ∷ (1, looked (program "070200") 13 3 Answer.no_case [])
    -- and that input "prints" its two lines
    ∷ (1, printed (program "070200") (lines ("8000000009" ∷ "8100010009" ∷ [])))
    -- "M2 the same with 070201: no case": by the count that reaches N, and by the largest of 64 bits
    ∷ (2, looked (program "070201") 0 13 Answer.no_case [])
    ∷ (2, looked (program "070201") 0 0xffff_ffff_ffff_ffff Answer.no_case [])
    ∷ (2, printed (program "070201") (lines ("82" ∷ [])))
    -- "M3 rounding by 10: 14, 15, -15, -14, 5, -5, 0 give 10, 20, -20, -10, 10, -10, 0"
    ∷ (3, viewed rounded 0 1 ((pos 10 ∷ pos 20 ∷ minus 20 ∷ minus 10 ∷ pos 10 ∷ minus 10 ∷ pos 0 ∷ []) ∷ []))
    -- "M4 a row found 2 and 1 times: union 3, intersection 1"
    ∷ (4, viewed bags 0 2 ((pos 5 ∷ []) ∷ (pos 5 ∷ []) ∷ []))
    ∷ (4, viewed bags 0 3 ((pos 5 ∷ []) ∷ []))
    ∷ (4, viewed bags 0 4 ((pos 5 ∷ []) ∷ (pos 5 ∷ []) ∷ (pos 5 ∷ []) ∷ []))
    ∷ (4, viewed bags 0 5 ((pos 5 ∷ []) ∷ []))
    -- "M5 negative goal, where true: no case". 2 rows, a from 0 to 3: N is 16
    ∷ (5, looked (selected "0102010000000003" "070101") 0 16 Answer.no_case [])
    -- "M6 all tables with 0 rows: N = 1, no case", of either sign
    ∷ (6, accepted (selected "0100010000000003" "070100") 1)
    ∷ (6, looked (selected "0100010000000003" "070100") 0 0 (Answer.spent 0) [])
    ∷ (6, looked (selected "0100010000000003" "070100") 0 1 Answer.no_case [])
    ∷ (6, accepted (selected "0100010000000003" "070101") 1)
    ∷ (6, looked (selected "0100010000000003" "070101") 0 0 (Answer.spent 0) [])
    ∷ (6, looked (selected "0100010000000003" "070101") 0 1 Answer.no_case [])
    -- "M7 two rows, keyed column 4..4: no case"
    ∷ (7, looked (selected "0102010100040004" "070100") 0 1 Answer.no_case [])
    -- "M8 members 50 and 51 grouped, having sum > 100: one row"
    ∷ (8, viewed grouped 1 0 ((pos 1 ∷ pos 50 ∷ []) ∷ (pos 1 ∷ pos 51 ∷ []) ∷ []))
    ∷ (8, viewed grouped 1 1 ((pos 1 ∷ pos 101 ∷ []) ∷ []))
    -- "M9 no member kept, no grouping columns, count: no row"
    ∷ (9, viewed emptied 0 1 [])
    -- "M10 sizes 4,096 and 4,096 accepted, 4,096 and 4,097 refused by 10"
    ∷ (10, accepted (selected "0101020000000fff00000fff" "070100") 16_777_216)
    ∷ (10, refused (selected "0101020000000fff00001000" "070100") 10 0)
    -- "M11 from bounds 8, 8 accepted; 8, 8, 2 refused by 8": select a from t, u, and from t, u, w
    ∷ (11, accepted (combined "030200010110010000") 1)
    ∷ (11, refused (combined "03030001020110010000") 8 4)
    -- "M12 a × a + a × a with a from -32,767 to 32,767 accepted, from -32,768 refused by 9": 8001 and 8000
    ∷ (12, accepted (squared "0101010080017fff") 65_535)
    ∷ (12, refused (squared "0101010080007fff") 9 2)
    ∷ []
