-- The number of each refusal. Assumes nothing: these are definitions, and they compute.
use Rattle.std.specs.Prelude.{ℕ, ◌+◌, ◌*◌}
use Rattle.text.specs.declared.refusal.Refusal.{Refusal}
use Rattle.text.specs.declared.refusal.Reason.{Reason}
use Rattle.text.specs.declared.refusal.Reason.TheVariants.{Size, Line, Order, Form, Limit, Reference, Aggregate, RowBound, Range, Candidates, WorkArea, Instance, Start}

-- "A refusal returns its number": 1 and 2 of a text, 3 to 9 of a frame, 10 of the amounts, 11 to 13 of a call
abbrev pub number_of : Reason → ℕ
number_of Size = 1
number_of Line = 2
number_of Order = 3
number_of Form = 4
number_of Limit = 5
number_of Reference = 6
number_of Aggregate = 7
number_of RowBound = 8
number_of Range = 9
number_of Candidates = 10
number_of WorkArea = 11
number_of Instance = 12
number_of Start = 13

-- the number and the line
abbrev pub numbers_of : Refusal → ℕ × ℕ
numbers_of r = (number_of r.reason, r.line)

-- the number above the line, which has two bytes
abbrev pub packed_refusal : Refusal → ℕ
packed_refusal r = number_of r.reason * 65536 + r.line
