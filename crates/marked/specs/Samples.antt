-- Samples beside the marked examples: every row bound and both ends of every range that document 01 works out from the file, the ends of
-- 32 bits and of 64 rows, and an evaluated example of every token and every aggregate. The theorems on ranges say that they are wide enough;
-- these entries say that they are no wider. Assumes nothing: these are definitions.
use Rattle.std.specs.Prelude.{List, [], ◌∷◌, ℕ, pos}
use Prim.Native.String.{String}
use Rattle.meaning.specs.Look.{Answer}
use Rattle.marked.specs.Table.{Entry, lines, minus}
use Rattle.marked.specs.Table.Entry.{looked, viewed, bounded, refused}

-- a table t and a view v1 over it
abbrev pub over : String → String → List ℕ
over table view = lines (table ∷ view ∷ "070100" ∷ [])

-- t: 1 row
abbrev pub plain : String → List ℕ
plain view = over "0101010000000000" view

-- t: 8 rows
abbrev pub eight : String → List ℕ
eight view = over "0108010000000000" view

-- t: 1 row, a from -3 to 2 and b from 10 to 40
abbrev pub pair : String → List ℕ
pair view = over "01010200fffd0002000a0028" view

-- ---- "Bounds worked out from the file": both ends of every range, and every row bound

-- "a constant .. is itself"
abbrev pub constants : List Entry
constants =
    -- v1: select 0, 258, -1, 32767, -32768 from t
    bounded (plain "030100051000000000010200ffff007fff008000") 1 1
    ((pos 0, pos 0) ∷ (pos 258, pos 258) ∷ (minus 1, minus 1) ∷ (pos 32767, pos 32767) ∷ (minus 32768, minus 32768) ∷ [])
    ∷ []

-- t: 0 rows, a from -7 to -2 and b from 5 to 5. u: 1 row, a from -32768 to 32767. w: 8 rows, a from 3 to 4. v3: select a from t
abbrev pub three : List ℕ
three = lines ("01000200fff9fffe00050005" ∷ "0101010080007fff" ∷ "0108010000030004" ∷ "0301000110010000" ∷ "070300" ∷ [])

-- "a .. table column is itself", "Row bound: a table's rows"
abbrev pub tables : List Entry
tables =
    bounded three 0 0 ((minus 7, minus 2) ∷ (pos 5, pos 5) ∷ [])
    ∷ bounded three 1 1 ((minus 32768, pos 32767) ∷ [])
    ∷ bounded three 2 8 ((pos 3, pos 4) ∷ [])
    ∷ []

-- "sum, difference and product take the hull of the end results"
abbrev pub sums : List Entry
sums =
    -- v1: select a + b, a + a from t
    bounded (pair "03010002100201000001000102010000010000") 1 1 ((pos 7, pos 42) ∷ (minus 6, pos 4) ∷ [])
    ∷ []

-- "difference", with its operands in this order
abbrev pub differences : List Entry
differences =
    -- v1: select a - b, b - a, a - a from t
    bounded (pair "0301000310030100000100010301000101000003010000010000") 1 1
    ((minus 43, minus 8) ∷ (pos 8, pos 43) ∷ (minus 5, pos 5) ∷ [])
    ∷ []

-- t: 1 row, a from 2 to 3, b from -5 to -4, c from -3 to 2, d from -5 to 4. v1: select a * a, b * b, a * b, b * a, c * d, d * c, c * a,
-- c * b from t
abbrev pub multiplied : List ℕ
multiplied =
    over "0101040000020003fffbfffcfffd0002fffb0004"
    "03010008100401000001000004010001010001040100000100010401000101000004010002010003040100030100020401000201000004010002010001"

-- "product": each of the four end products is the least one of some column, and the greatest one of some column
abbrev pub products : List Entry
products =
    bounded multiplied 1 1
    ((pos 4, pos 9) ∷ (pos 16, pos 25) ∷ (minus 15, minus 8) ∷ (minus 15, minus 8) ∷ (minus 12, pos 15) ∷ (minus 12, pos 15)
    ∷ (minus 9, pos 6) ∷ (minus 10, pos 15) ∷ [])
    ∷ []

-- t: 1 row, a from 14 to 26, b from -25 to -15, c from -15 to 14, d from 499 to 500. v1: select round(a, 10), round(b, 10), round(c, 10),
-- round(d, 1000), round(a, 1), round(a, 3) from t
abbrev pub rounded-off : List ℕ
rounded-off =
    over "01010400000e001affe7fff1fff1000e01f301f4"
    "030100061005000a01000005000a01000105000a0100020503e8010003050001010000050003010000"

-- "rounding rounds both ends"
abbrev pub roundings : List Entry
roundings =
    bounded rounded-off 1 1
    ((pos 10, pos 30) ∷ (minus 30, minus 20) ∷ (minus 20, pos 10) ∷ (pos 0, pos 1000) ∷ (pos 14, pos 26) ∷ (pos 15, pos 27) ∷ [])
    ∷ []

-- t: 1 row, a from 1 to 3, b from 7 to 9, c from 2 to 8. v1: select case when true then a else b, case when true then b else a,
-- case when a = 1 then c else a + 2, case when a = 1 then a + 2 else c from t
abbrev pub chosen : List ℕ
chosen =
    over "01010300000100030007000900020008"
    "030100041006100100000100010610010001010000061101000000000101000202010000000002061101000000000102010000000002010002"

-- "06 takes the hull of both branches", whatever the condition
abbrev pub branches : List Entry
branches =
    bounded chosen 1 1 ((pos 1, pos 9) ∷ (pos 1, pos 9) ∷ (pos 2, pos 8) ∷ (pos 2, pos 8) ∷ [])
    ∷ []

-- t: 3 rows, a from 2 to 5, b from -5 to -2, c from -4 to 3. u: 2 rows. A view v2 of both, whose row bound is 6
abbrev pub aggregated : String → List ℕ
aggregated view = lines ("0103030000020005fffbfffefffc0003" ∷ "0102010000000000" ∷ view ∷ "070200" ∷ [])

-- "count is 0 to R .. where R is the row bound"
abbrev pub counts : List Entry
counts =
    -- v2: select count(a), count(7) from t, u
    bounded (aggregated "040200010002101007000100000700000007") 2 6 ((pos 0, pos 6) ∷ (pos 0, pos 6) ∷ [])
    ∷ []

-- "sum is R × min(lo,0) to R × max(hi,0)"
abbrev pub totals : List Entry
totals =
    -- v2: select sum(a), sum(b), sum(c) from t, u
    bounded (aggregated "0402000100031010070101000007010100010701010002") 2 6
    ((pos 0, pos 30) ∷ (minus 30, pos 0) ∷ (minus 24, pos 18) ∷ [])
    ∷ []

-- "min and max keep the range"
abbrev pub extremes : List Entry
extremes =
    -- v2: select min(a), min(b), min(c), max(a), max(b), max(c) from t, u
    bounded (aggregated "0402000100061010070201000007020100010702010002070301000007030100010703010002") 2 6
    ((pos 2, pos 5) ∷ (minus 5, minus 2) ∷ (minus 4, pos 3) ∷ (pos 2, pos 5) ∷ (minus 5, minus 2) ∷ (minus 4, pos 3) ∷ [])
    ∷ []

-- t: 2 rows, a from 1 to 4, b from -6 to 8. v1 (x, a): select b + 100, a from t. v2 (a, s): select a, sum(x) from v1 group by a.
-- v3: select s, a from v2
abbrev pub layered : List ℕ
layered = lines ("0102020000010004fffa0008" ∷ "030100021002010001000064010000" ∷ "0401010102100001100100010701010000"
    ∷ "0301020210010001010000" ∷ "070300" ∷ [])

-- "A column of 03 .. has its select expression's range"
abbrev pub basic-columns : List Entry
basic-columns =
    bounded layered 1 2 ((pos 94, pos 108) ∷ (pos 1, pos 4) ∷ [])
    ∷ bounded layered 3 2 ((pos 0, pos 216) ∷ (pos 1, pos 4) ∷ [])
    ∷ []

-- "A column of .. 04 has its select expression's range"
abbrev pub aggregate-columns : List Entry
aggregate-columns =
    bounded layered 2 2 ((pos 1, pos 4) ∷ (pos 0, pos 216) ∷ [])
    ∷ []

-- t: 3 rows, a from 1 to 3, b from 5 to 9. u: 2 rows, a from 2 to 7, b from 4 to 6. v2: select a, b from t. v3: select a, b from u.
-- A set view v4
abbrev pub united : String → List ℕ
united view = lines ("010302000001000300050009" ∷ "010202000002000700040006" ∷ "0301000210010000010001" ∷ "0301010210010000010001" ∷ view
    ∷ "070400" ∷ [])

-- "Union columns take hulls", and its row bound is "the sum"
abbrev pub unions : List Entry
unions =
    -- v2 union all v3, and v3 union all v2
    bounded (united "050203") 4 5 ((pos 1, pos 7) ∷ (pos 4, pos 9) ∷ [])
    ∷ bounded (united "050302") 4 5 ((pos 1, pos 7) ∷ (pos 4, pos 9) ∷ [])
    ∷ []

-- "intersection keeps the left's", and its row bound is "the smaller"
abbrev pub intersections : List Entry
intersections =
    -- v2 intersect all v3, and v3 intersect all v2
    bounded (united "060203") 4 2 ((pos 1, pos 3) ∷ (pos 5, pos 9) ∷ [])
    ∷ bounded (united "060302") 4 2 ((pos 2, pos 7) ∷ (pos 4, pos 6) ∷ [])
    ∷ []

-- t: 3 rows. u: 2 rows. w: 4 rows. z: 0 rows, a from 5 to 9. A view v4 of some of them
abbrev pub crossed : String → List ℕ
crossed view = lines ("0103010000000000" ∷ "0102010000000000" ∷ "0104010000000000" ∷ "0100010000050009" ∷ view ∷ "070400" ∷ [])

-- "03 and 04, the product over the from list"
abbrev pub from-lists : List Entry
from-lists =
    -- v4: select a from t, u, w
    bounded (crossed "03030001020110010000") 4 24 ((pos 0, pos 0) ∷ [])
    -- v4: select a from t, t
    ∷ bounded (crossed "030200000110010000") 4 9 ((pos 0, pos 0) ∷ [])
    -- v4: select count(a) from t, u, w group by a
    ∷ bounded (crossed "04030001020101100000100700010000") 4 24 ((pos 0, pos 24) ∷ [])
    ∷ []

-- the same with a factor 0: a column keeps its range, and a count and a sum are 0
abbrev pub zero-factors : List Entry
zero-factors =
    -- v4: select z.a from t, z, w
    bounded (crossed "03030003020110010100") 4 0 ((pos 5, pos 9) ∷ [])
    -- v4: select count(z.a), sum(z.a), min(z.a) from t, z
    ∷ bounded (crossed "0402000300031010070001010007010101000702010100") 4 0
    ((pos 0, pos 0) ∷ (pos 0, pos 0) ∷ (pos 5, pos 9) ∷ [])
    ∷ []

-- ---- "every range must lie within -2^31 to 2^31-1": the ends themselves, and one past them; M12 beside these

-- h stands for 32767 * (256 * 256) + 255 * 257, which is 2^31 - 1
abbrev pub upper-end : List Entry
upper-end =
    -- v1: select h from t
    bounded (plain "03010001100204007fff04000100000100040000ff000101") 1 1 ((pos 2147483647, pos 2147483647) ∷ [])
    -- v1: select 32767 * (256 * 256) + 256 * 256 from t
    ∷ refused (plain "03010001100204007fff0400010000010004000100000100") 9 2
    -- v1: select h - -1 from t
    ∷ refused (plain "0301000110030204007fff04000100000100040000ff00010100ffff") 9 2
    -- v1: select -32768 * (-256 * 256) from t
    ∷ refused (plain "0301000110040080000400ff00000100") 9 2
    ∷ []

-- l stands for -32768 * (256 * 256), which is -2^31
abbrev pub lower-end : List Entry
lower-end =
    -- v1: select l from t
    bounded (plain "03010001100400800004000100000100") 1 1 ((minus 2147483648, minus 2147483648) ∷ [])
    -- v1: select l - 1 from t
    ∷ refused (plain "0301000110030400800004000100000100000001") 9 2
    -- v1: select l + -1 from t
    ∷ refused (plain "030100011002040080000400010000010000ffff") 9 2
    ∷ []

-- rounding carries an end out of 32 bits
abbrev pub rounded-ends : List Entry
rounded-ends =
    -- v1: select round(h - 3, 10) from t, and round(h - 2, 10)
    bounded (plain "030100011005000a030204007fff04000100000100040000ff000101000003") 1 1
    ((pos 2147483640, pos 2147483640) ∷ [])
    ∷ refused (plain "030100011005000a030204007fff04000100000100040000ff000101000002") 9 2
    -- v1: select round(l + 4, 10) from t, and round(l + 3, 10)
    ∷ bounded (plain "030100011005000a020400800004000100000100000004") 1 1 ((minus 2147483640, minus 2147483640) ∷ [])
    ∷ refused (plain "030100011005000a020400800004000100000100000003") 9 2
    ∷ []

-- sums of 64 rows
abbrev pub summed-ends : List Entry
summed-ends =
    -- v1: select sum(32767 * 1024 + 1023) from t, t, and sum(256 * 256 * 512)
    bounded (eight "040200000001101007010204007fff0004000003ff") 1 64 ((pos 0, pos 2147483584) ∷ [])
    ∷ refused (eight "040200000001101007010404000100000100000200") 9 2
    -- v1: select sum(-32768 * 1024) from t, t, and sum(-32768 * 1024 - 1)
    ∷ bounded (eight "0402000000011010070104008000000400") 1 64 ((minus 2147483648, pos 0) ∷ [])
    ∷ refused (eight "040200000001101007010304008000000400000001") 9 2
    ∷ []

-- "Every expression has a range", also inside one whose own range would do, in a condition and in the argument of count
abbrev pub ranges-inside : List Entry
ranges-inside =
    -- v1: select 0 * (32767 * (256 * 256) + 256 * 256) from t
    refused (plain "0301000110040000000204007fff0400010000010004000100000100") 9 2
    -- v1: select case when true then 0 else l - 1 from t
    ∷ refused (plain "03010001100610000000030400800004000100000100000001") 9 2
    -- v1: select case when 0 < l - 1 then 0 else 1 from t
    ∷ refused (plain "03010001100612000000030400800004000100000100000001000000000001") 9 2
    -- v1: select a from t where 0 < l - 1
    ∷ refused (plain "0301000112000000030400800004000100000100000001010000") 9 2
    -- v1: select count(1) from t having 0 < l - 1
    ∷ refused (plain "040100000110120000000304008000040001000001000000010700000001") 9 2
    -- v1: select count(32767 * (256 * 256) + 256 * 256) from t
    ∷ refused (plain "0401000001101007000204007fff0400010000010004000100000100") 9 2
    ∷ []

-- ---- "Each is at most 64": the bound itself, and one past it; M11 beside these

-- t: 8 rows. u: 4 rows. w: 1 row. z: 0 rows. Views and a goal
abbrev pub stacked : List String → List ℕ
stacked views = lines ("0108010000000000" ∷ "0104010000000000" ∷ "0101010000000000" ∷ "0100010000000000" ∷ views)

-- "union, the sum"
abbrev pub united-rows : List Entry
united-rows =
    -- v4: select a from t, u. v5: select a from w. v6: v4 union all v4. Then v7: v6 union all v5
    bounded (stacked ("030200010110010000" ∷ "0301020110010000" ∷ "050404" ∷ "070600" ∷ [])) 6 64 ((pos 0, pos 0) ∷ [])
    ∷ refused (stacked ("030200010110010000" ∷ "0301020110010000" ∷ "050404" ∷ "050605" ∷ "070700" ∷ [])) 8 8
    ∷ []

-- aggregate views have the same bound, and a factor 0 makes it 0
abbrev pub combined-rows : List Entry
combined-rows =
    -- v4: select count(1) from t, t. The same from t, t, u
    bounded (stacked ("04020000000110100700000001" ∷ "070400" ∷ [])) 4 64 ((pos 0, pos 64) ∷ [])
    ∷ refused (stacked ("0403000001000110100700000001" ∷ "070400" ∷ [])) 8 5
    -- v4: select 1 from t, t, z
    ∷ bounded (stacked ("03030000030110000001" ∷ "070400" ∷ [])) 4 0 ((pos 1, pos 1) ∷ [])
    ∷ []

-- ---- every token: what it is worth, by the algebra. M3 is beside 05, and M8 and M9 beside 07

-- t: 1 row, a is 7 and b is -3
abbrev pub seven : String → List ℕ
seven view = over "0101020000070007fffdfffd" view

-- t: 3 rows, a from -1 to 1. Candidate 5 has the rows -1, 0 and 1
abbrev pub signs : String → List ℕ
signs view = over "01030100ffff0001" view

-- t: 4 rows, a and b from 0 to 1. Candidate 27 has the rows 0 0, 0 1, 1 0 and 1 1
abbrev pub bits : String → List ℕ
bits view = over "010402000000000100000001" view

-- "00 constant (two bytes)"
abbrev pub token-00 : List Entry
token-00 =
    -- v1: select 0, 258, -1, 32767, -32768 from t
    viewed (plain "030100051000000000010200ffff007fff008000") 0 1
    ((pos 0 ∷ pos 258 ∷ minus 1 ∷ pos 32767 ∷ minus 32768 ∷ []) ∷ [])
    ∷ []

-- "01 from item, column"
abbrev pub token-01 : List Entry
token-01 =
    -- t: 1 row, a is 1 and b is 2. u: 1 row, a is 3 and b is 4. v2: select t.b, u.a, t.a, u.b from t, u
    viewed (lines ("010102000001000100020002" ∷ "010102000003000300040004" ∷ "030200010410010001010100010000010101" ∷ "070200" ∷ [])) 0 2
    ((pos 2 ∷ pos 3 ∷ pos 1 ∷ pos 4 ∷ []) ∷ [])
    ∷ []

-- "02 sum"
abbrev pub token-02 : List Entry
token-02 =
    -- v1: select a + b, b + b, a + 7 from t
    viewed (seven "0301000310020100000100010201000101000102010000000007") 0 1 ((pos 4 ∷ minus 6 ∷ pos 14 ∷ []) ∷ [])
    ∷ []

-- "03 difference"
abbrev pub token-03 : List Entry
token-03 =
    -- v1: select a - b, b - a, a - 7 from t
    viewed (seven "0301000310030100000100010301000101000003010000000007") 0 1 ((pos 10 ∷ minus 10 ∷ pos 0 ∷ []) ∷ [])
    ∷ []

-- "04 product of two"
abbrev pub token-04 : List Entry
token-04 =
    -- v1: select a * b, b * b, a * 7 from t
    viewed (seven "0301000310040100000100010401000101000104010000000007") 0 1 ((minus 21 ∷ pos 9 ∷ pos 49 ∷ []) ∷ [])
    ∷ []

-- "05 step m .. and an expression: the nearest multiple of m, halves away from zero"
abbrev pub token-05 : List Entry
token-05 =
    -- v1: select round(4, 3), round(5, 3), round(-4, 3), round(-5, 3), round(499, 1000), round(500, 1000), round(-500, 1000),
    -- round(7, 1) from t
    viewed (plain "030100081005000300000405000300000505000300fffc05000300fffb0503e80001f30503e80001f40503e800fe0c050001000007") 0 1
    ((pos 3 ∷ pos 6 ∷ minus 3 ∷ minus 6 ∷ pos 0 ∷ pos 1000 ∷ minus 1000 ∷ pos 7 ∷ []) ∷ [])
    ∷ []

-- "06 a condition and two expressions: the first if it holds, else the second"
abbrev pub token-06 : List Entry
token-06 =
    -- v1: select case when a < 0 then a else a + 10 from t
    viewed (signs "030100011006120100000000000100000201000000000a") 5 1
    ((minus 1 ∷ []) ∷ (pos 10 ∷ []) ∷ (pos 11 ∷ []) ∷ [])
    ∷ []

-- "10 true"
abbrev pub token-10 : List Entry
token-10 =
    -- v1: select a from t where true
    viewed (signs "0301000110010000") 5 1 ((minus 1 ∷ []) ∷ (pos 0 ∷ []) ∷ (pos 1 ∷ []) ∷ [])
    ∷ []

-- "11 equal"
abbrev pub token-11 : List Entry
token-11 =
    -- v1: select a from t where a = 0
    viewed (signs "0301000111010000000000010000") 5 1 ((pos 0 ∷ []) ∷ [])
    ∷ []

-- "12 less"
abbrev pub token-12 : List Entry
token-12 =
    -- v1: select a from t where a < 0, and where 0 < a
    viewed (signs "0301000112010000000000010000") 5 1 ((minus 1 ∷ []) ∷ [])
    ∷ viewed (signs "0301000112000000010000010000") 5 1 ((pos 1 ∷ []) ∷ [])
    ∷ []

-- "13 less or equal"
abbrev pub token-13 : List Entry
token-13 =
    -- v1: select a from t where a <= 0, and where 0 <= a
    viewed (signs "0301000113010000000000010000") 5 1 ((minus 1 ∷ []) ∷ (pos 0 ∷ []) ∷ [])
    ∷ viewed (signs "0301000113000000010000010000") 5 1 ((pos 0 ∷ []) ∷ (pos 1 ∷ []) ∷ [])
    ∷ []

-- "14 not"
abbrev pub token-14 : List Entry
token-14 =
    -- v1: select a from t where not a < 0, and where not a = 0
    viewed (signs "030100011412010000000000010000") 5 1 ((pos 0 ∷ []) ∷ (pos 1 ∷ []) ∷ [])
    ∷ viewed (signs "030100011411010000000000010000") 5 1 ((minus 1 ∷ []) ∷ (pos 1 ∷ []) ∷ [])
    ∷ []

-- "15 and"
abbrev pub token-15 : List Entry
token-15 =
    -- v1: select a, b from t where a = 1 and b = 1
    viewed (bits "03010002151101000000000111010001000001010000010001") 27 1 ((pos 1 ∷ pos 1 ∷ []) ∷ [])
    ∷ []

-- "16 or"
abbrev pub token-16 : List Entry
token-16 =
    -- v1: select a, b from t where a = 1 or b = 1
    viewed (bits "03010002161101000000000111010001000001010000010001") 27 1
    ((pos 0 ∷ pos 1 ∷ []) ∷ (pos 1 ∷ pos 0 ∷ []) ∷ (pos 1 ∷ pos 1 ∷ []) ∷ [])
    ∷ []

-- ---- every aggregate, over two groups

-- t: 6 rows, g from 1 to 2 and a from 2 to 9. Candidate d30972 in hexadecimal, a digit for each row, has the rows 2 7, 1 5, 1 2, 2 3, 1 9
-- and 1 4, in this order
abbrev pub groups : String → List ℕ
groups view = over "010602000001000200020009" view

-- "07 aggregate (0 count ..) and an expression"
abbrev pub aggregate-0 : List Entry
aggregate-0 =
    -- v1: select g, count(a) from t group by g
    viewed (groups "0401000102100000100100000700010001") 0xd30972 1 ((pos 2 ∷ pos 2 ∷ []) ∷ (pos 1 ∷ pos 4 ∷ []) ∷ [])
    ∷ []

-- "1 sum"
abbrev pub aggregate-1 : List Entry
aggregate-1 =
    -- v1: select g, sum(a) from t group by g
    viewed (groups "0401000102100000100100000701010001") 0xd30972 1 ((pos 2 ∷ pos 10 ∷ []) ∷ (pos 1 ∷ pos 20 ∷ []) ∷ [])
    ∷ []

-- "2 min"
abbrev pub aggregate-2 : List Entry
aggregate-2 =
    -- v1: select g, min(a) from t group by g
    viewed (groups "0401000102100000100100000702010001") 0xd30972 1 ((pos 2 ∷ pos 3 ∷ []) ∷ (pos 1 ∷ pos 2 ∷ []) ∷ [])
    ∷ []

-- "3 max"
abbrev pub aggregate-3 : List Entry
aggregate-3 =
    -- v1: select g, max(a) from t group by g
    viewed (groups "0401000102100000100100000703010001") 0xd30972 1 ((pos 2 ∷ pos 7 ∷ []) ∷ (pos 1 ∷ pos 9 ∷ []) ∷ [])
    ∷ []

-- ---- the order of rows

-- "combinations of from rows, the first relation slowest"
abbrev pub combination-order : List Entry
combination-order =
    -- t: 2 rows, a from 1 to 2. u: 2 rows, a from 3 to 4. v2: select t.a, u.a from t, u. Candidate 5 has the rows 1, 2 and 3, 4
    viewed (lines ("0102010000010002" ∷ "0102010000030004" ∷ "030200010210010000010100" ∷ "070200" ∷ [])) 5 2
    ((pos 1 ∷ pos 3 ∷ []) ∷ (pos 1 ∷ pos 4 ∷ []) ∷ (pos 2 ∷ pos 3 ∷ []) ∷ (pos 2 ∷ pos 4 ∷ []) ∷ [])
    ∷ []

-- t: 3 rows, u: 2 rows, both with a from 1 to 2. v2: select a from t. v3: select a from u. A set view v4. Candidate 21 has the rows 2, 1, 2
-- and 1, 2
abbrev pub ordered : String → List ℕ
ordered view = lines ("0103010000010002" ∷ "0102010000010002" ∷ "0301000110010000" ∷ "0301010110010000" ∷ view ∷ "070400" ∷ [])

-- "left rows first", "the earliest such rows of the left"
abbrev pub set-order : List Entry
set-order =
    -- v2 union all v3, v2 intersect all v3, v3 intersect all v2
    viewed (ordered "050203") 21 4 ((pos 2 ∷ []) ∷ (pos 1 ∷ []) ∷ (pos 2 ∷ []) ∷ (pos 1 ∷ []) ∷ (pos 2 ∷ []) ∷ [])
    ∷ viewed (ordered "060203") 21 4 ((pos 2 ∷ []) ∷ (pos 1 ∷ []) ∷ [])
    ∷ viewed (ordered "060302") 21 4 ((pos 1 ∷ []) ∷ (pos 2 ∷ []) ∷ [])
    ∷ []

-- ---- "passes over no case: from its start up to its k, its next or, at "no case", N"

-- M1 with another v2, so that 9 alone is a case. v2: select a from v1 where a < 10
abbrev pub single : List ℕ
single = lines ("010101000000000c" ∷ "0301000112000008010000010000" ∷ "030101011201000000000a010000" ∷ "070200" ∷ [])

-- "no case" from a later start does not hold for the whole file (proofs/Misreadings)
abbrev pub later-starts : List Entry
later-starts =
    looked single 0 13 (Answer.case 9) (pos 9 ∷ [])
    ∷ looked single 10 3 Answer.no_case []
    ∷ []

-- ---- all of them

-- the entries of each operation, token and aggregate
abbrev pub samples : List (List Entry)
samples =
    constants ∷ tables ∷ sums ∷ differences ∷ products ∷ roundings ∷ branches ∷ counts ∷ totals ∷ extremes ∷ basic-columns
    ∷ aggregate-columns ∷ unions ∷ intersections ∷ from-lists ∷ zero-factors ∷ upper-end ∷ lower-end ∷ rounded-ends ∷ summed-ends
    ∷ ranges-inside ∷ united-rows ∷ combined-rows ∷ token-00 ∷ token-01 ∷ token-02 ∷ token-03 ∷ token-04 ∷ token-05 ∷ token-06
    ∷ token-10 ∷ token-11 ∷ token-12 ∷ token-13 ∷ token-14 ∷ token-15 ∷ token-16 ∷ aggregate-0 ∷ aggregate-1 ∷ aggregate-2
    ∷ aggregate-3 ∷ combination-order ∷ set-order ∷ later-starts ∷ []
