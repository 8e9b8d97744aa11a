-- Samples of token 17, exists, beside the marked examples: what it holds of, what is open inside it, and each of its refusals, on real texts.
-- No theorem says what exists means but its definition; these entries try that. Assumes nothing: these are definitions.
use Rattle.std.specs.Prelude.{List, [], ◌∷◌, ℕ, pos}
use Prim.Native.String.{String}
use Rattle.meaning.specs.Look.{Answer}
use Rattle.marked.specs.Table.{Entry, lines}
use Rattle.marked.specs.Table.Entry.{looked, viewed, bounded, refused}

-- ---- "It holds when some row satisfies the condition"

-- t: 1 row, a from 0 to 2. u: no row. v2: select a from t where exists (u). v3: select a from t where not exists (u)
abbrev pub no_row : List ℕ
no_row = lines ("0101010000000002" ∷ "0100010000000002" ∷ "03010001170110010000" ∷ "0301000114170110010000" ∷ "070300" ∷ [])

-- over a relation with no rows: not even with a condition that always holds
abbrev pub over_none : List Entry
over_none = viewed no_row 1 2 [] ∷ viewed no_row 1 3 ((pos 1 ∷ []) ∷ []) ∷ looked no_row 0 3 (Answer.case 0) (pos 0 ∷ []) ∷ []

-- t: 1 row, a from 0 to 2. v1: select a from t where 1 < a. v2: select a from t where exists (v1 b where b.a = t.a)
abbrev pub only-looked : List ℕ
only-looked = lines ("0101010000000002" ∷ "0301000112000001010000010000" ∷ "03010001170111010100010000010000" ∷ "070200" ∷ [])

-- over a view that no other view names: it is worked out for exists alone
abbrev pub over-view : List Entry
over-view = looked only-looked 0 3 (Answer.case 2) (pos 2 ∷ []) ∷ []

-- t: 1 row, a from 0 to 2. u: 2 rows, a from 0 to 2. v2: select a from t where exists (u b where b.a < t.a and exists (u c where c.a < b.a))
abbrev pub one-in-another : List ℕ
one-in-another = lines ("0101010000000002" ∷ "0102010000000002" ∷ "0301000117011512010100010000170112010200010100010000" ∷ "070200" ∷ [])

-- "with outer columns visible": some row, and not the first or every one
abbrev pub nested : List Entry
nested = looked one-in-another 0 27 (Answer.case 19) (pos 2 ∷ pos 0 ∷ pos 1 ∷ []) ∷ looked one-in-another 20 7 (Answer.case 21) (pos 2 ∷ pos 1 ∷ pos 0 ∷ []) ∷ []

-- ---- "that relation's row is one more from item, numbered after those already open, at most six in all"

-- t: 1 row, a from 0 to 1. A view v1
abbrev pub sixth : String → List ℕ
sixth view = lines ("0101010000000001" ∷ view ∷ "070100" ∷ [])

abbrev pub six-deep : List Entry
six-deep =
    -- five of them inside each other, the last row's a being 1
    looked (sixth "030100011700170017001700170011010500000001010000") 0 2 (Answer.case 1) (pos 1 ∷ [])
    -- three from items and three of them, the last row's a being the first item's
    ∷ viewed (sixth "03030000000117001700170011010500010000010000") 1 1 ((pos 1 ∷ []) ∷ [])
    ∷ []

-- t: 1 row, a from 0 to 2. u: 1 row, a from 1 to 2. w: 1 row, a from 0 to 0 and b from 2 to 2. v3: select a from t where
-- exists (u b where b.a = t.a) and exists (w b where b.b = t.a)
abbrev pub side_by_side : List ℕ
side_by_side =
    lines ("0101010000000002" ∷ "0101010000010002" ∷ "010102000000000000020002" ∷ "0301000115170111010100010000170211010101010000010000" ∷ "070300" ∷ [])

-- one beside the other: both rows are from item 1
abbrev pub beside : List Entry
beside = looked side_by_side 0 6 (Answer.case 5) (pos 2 ∷ pos 2 ∷ pos 0 ∷ pos 2 ∷ []) ∷ []

-- ---- "It may stand only within where conditions"

-- t: 1 row, a from 1 to 2. u: 1 row, a from 0 to 1. v2: select a from t where not exists (u b where b.a = t.a). A goal
abbrev pub turned : String → List ℕ
turned goal = lines ("0101010000010002" ∷ "0101010000000001" ∷ "0301000114170111010100010000010000" ∷ goal ∷ [])

-- a negative goal: the view with where negated keeps what exists
abbrev pub negated : List Entry
negated = looked (turned "070200") 0 4 (Answer.case 0) (pos 1 ∷ pos 0 ∷ []) ∷ looked (turned "070201") 0 4 (Answer.case 1) (pos 1 ∷ pos 1 ∷ []) ∷ []

-- t: 1 row, a from 0 to 2. u: 1 row, a from 2 to 2. v2: select a from t where case when exists (u b where b.a = t.a) then 1 else 0 end = 1
abbrev pub in-choice : List ℕ
in-choice = lines ("0101010000000002" ∷ "0101010000020002" ∷ "030100011106170111010100010000000001000000000001010000" ∷ "070200" ∷ [])

-- in a 06 of where
abbrev pub chosen_by : List Entry
chosen_by = looked in-choice 0 3 (Answer.case 2) (pos 2 ∷ pos 2 ∷ []) ∷ []

-- ---- "Row bounds do not count it"

-- t and u: 8 rows, a from 0 to 0. v2: select a from t where exists (u). v3: select count(a) from t where exists (u) group by ()
abbrev pub counted : List ℕ
counted = lines ("0108010000000000" ∷ "0108010000000000" ∷ "03010001170110010000" ∷ "0401000001170110100700010000" ∷ "070200" ∷ [])

abbrev pub not-counted : List Entry
not-counted = bounded counted 2 8 ((pos 0, pos 0) ∷ []) ∷ bounded counted 3 8 ((pos 0, pos 8) ∷ []) ∷ []

-- ---- "Refused: 5 for a seventh from item, at token 17 itself, 6 for the relation and 7 for the position"

abbrev pub refusals : List Entry
refusals =
    -- a seventh item, before its relation is read, which is missing
    refused (sixth "030100011700170017001700170017") 5 2
    -- its relation is missing; it is the view itself; the row that it opened is closed behind it
    ∷ refused (sixth "0301000117") 4 2
    ∷ refused (sixth "03010001170110010000") 6 2
    ∷ refused (sixth "030100011517001011010100010000010000") 6 2
    -- in having; in select; inside 07; 07 inside it
    ∷ refused (sixth "0401000001101700100700010000") 7 2
    ∷ refused (sixth "030100011006170010000001000000") 7 2
    ∷ refused (sixth "04010000011010070106170010000001000000") 7 2
    ∷ refused (sixth "030100011700120000000700010100010000") 7 2
    -- in having, but first the relation that is not there
    ∷ refused (sixth "0401000001101705100700010000") 6 2
    ∷ []

-- t: 1 row, a from 0 to 32767. v1: select a from t where exists (t b where b.a * b.a * 3 < 0)
abbrev pub too_wide : List Entry
too_wide = refused (lines ("0101010000007fff" ∷ "030100011700120404010100010100000003000000010000" ∷ "070100" ∷ [])) 9 2 ∷ []

-- ---- all of them

abbrev pub exists-samples : List (List Entry)
exists-samples = over_none ∷ over-view ∷ nested ∷ six-deep ∷ beside ∷ negated ∷ chosen_by ∷ not-counted ∷ refusals ∷ too_wide ∷ []
