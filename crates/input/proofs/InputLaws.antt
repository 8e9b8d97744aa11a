-- What the answer of a read comes to, and how reading goes on. Assumes nothing.
use mathlib.Core.Path.{◌≡◌, refl}
use mathlib.Core.List.{List}
use mathlib.Core.Logic.{◌⊎◌, inl, inr}
use Prim.Native.Nat.{ℕ, zero, suc, ◌+◌, ◌-◌, ◌≤◌, ◌<◌, min}
use native.Mathlib.Omega.{arith}
use borrow.Rule.Slice.PartMut.{mid_of, put_mid, same_len_mid}
use lib.ListN.{length}
use Rattle.std.specs.Prelude.{Result, Ok, Err}
use Rattle.input.specs.Input.{input_of, Reads}
use Rattle.input.specs.declared.Input.{Input}
use Rattle.input.specs.declared.Input.TheVariants.{More, End}

module _ {E : Type 0} where
  -- more bytes bring reading on, and stay in the buffer
  pub read-on : (got : Result ℕ E) {done room n : ℕ} {i : Input} → Ok i ≡ input_of got done room → i ≡ More n → done < room → (done < n) × (n ≤ room)
  unfolding input_of
  read-on (Ok zero) e f h = absurd (cc)
  read-on (Ok (suc k)) {done} {room} {n} e f h = let m : n ≡ min (done + suc k) room = cc in (omega arith, omega arith)
  read-on (Err x) e f h = absurd (cc)

  -- the end is what reading comes to
  pub read-ended : (got : Result ℕ E) {done room size : ℕ} {i : Input} → Ok i ≡ input_of got done room → ((n : ℕ) → i ≡ More n → ⊥) → done < room → size ≡ room → Reads {E = E} size (Ok i)
  unfolding input_of
  read-ended got {i = More n} e o h s = absurd (o n refl)
  read-ended (Ok zero) {done} {i = End n} e o h s = let m : n ≡ done = cc in omega arith
  read-ended (Ok (suc k)) {i = End n} e o h s = absurd (cc)
  read-ended (Err x) {i = End n} e o h s = absurd (cc)

  -- what is read lies in the buffer
  pub read-within : {r : Result Input E} {n : ℕ} (room : ℕ) → Reads room r → (r ≡ Ok (More n)) ⊎ (r ≡ Ok (End n)) → n ≤ room
  read-within {r} {n} room h (inl e) = let k : n ≡ room = rw e at h in omega arith
  read-within {r} {n} room h (inr e) = let k : n < room = rw e at h in omega arith

-- a part of a buffer, written, leaves its length
pub same-room : (done : ℕ) (text part : List ℕ) → length part ≡ length (mid_of done (length text - done) text)
    → length (put_mid done (length text - done) text part) ≡ length text
same-room done text part p = same_len_mid done (length text - done) text part p
