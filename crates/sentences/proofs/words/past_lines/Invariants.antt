-- `sentences::words::past_lines` meets its contract. Assumes nothing.
use mathlib.Core.Path.{◌≡◌}
use Prim.Native.Nat.{◌-◌}
use Rattle.sentences.specs.Pieces.{past_lines}
use Rattle.sentences.proofs.words.past_lines.Given as goal

-- what is left out so far, and as many lines as are still to come
abbrev pub invariant-loop : goal.invariant-loop
invariant-loop l = past_lines (l.k - l.counter) l.rest ≡ past_lines l.k l.fn.text
