-- `sentences::buffer::Buffer::extend` meets its contract. Assumes nothing.
use Rattle.std.specs.Prelude.{◌≡◌, ◌++◌, take}
use Rattle.sentences.proofs.buffer.Buffer.extend.Given as goal

abbrev pub invariant-loop-i : goal.invariant-loop-i
invariant-loop-i g l = l.self ≡ l.initial.self ++ take l.i l.fn.text
