-- What reading the input comes to. Which bytes are read no contract can say: that is the operating system's. Assumes nothing: these are
-- definitions.
use Rattle.std.specs.Prelude.{◌≡◌, ℕ, zero, suc, ◌+◌, ◌<◌, min, Result, Ok, Err}
use Rattle.input.specs.declared.Input.{Input}
use Rattle.input.specs.declared.Input.TheVariants.{More, End}

-- what a read answers that came behind `done` bytes in a buffer of `room`: an error is a failure and no end, 0 is the end, and any other
-- number is so many bytes more, never beyond the buffer
unfoldable pub input_of : {E : Type 0} → Result ℕ E → ℕ → ℕ → Result Input E
input_of (Err e) done room = Err e
input_of (Ok zero) done room = Ok (End done)
input_of (Ok (suc k)) done room = Ok (More (min (done + suc k) room))

-- what reading into a buffer of `room` bytes comes to: the whole input, which leaves room; a full buffer; or a failure, of which nothing
-- is used
abbrev pub Reads : {E : Type 0} → ℕ → Result Input E → Type 0
Reads room (Ok (More n)) = n ≡ room
Reads room (Ok (End n)) = n < room
Reads room (Err e) = Unit {0}
