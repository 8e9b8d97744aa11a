-- The output in a lent buffer: what the function's answer says to its caller. Assumes nothing.
use mathlib.Core.Path.{◌≡◌, sym, ap, ◌∙◌}
use mathlib.Core.Bool.{Bool, false, cond}
use mathlib.Core.List.{List, ◌++◌}
use Prim.Native.Nat.{ℕ, ◌≤◌, ◌<◌}
use native.Mathlib.Omega.{arith}
use borrow.Author.Tests.{le-ltb, lt-ltb}
use lib.Dec.{ltb}
use lib.ListN.{length, take, drop, length-append, length-drop}
use lib.Seq.{take_at}
use Rattle.value.proofs.Decides.{by-test}
use Rattle.language.specs.OutputOf.{output_of, output_room, Printed}

-- a list at the front of a buffer, or nothing and the answer 0: what a caller reads there
module _ (o out : List ℕ) {out' : List ℕ} {r : ℕ} (b : Bool) (n : r ≡ cond b 0 (length o)) (l : out' ≡ cond b out (o ++ drop (length o) out)) where
  pub front-whole : b ≡ false → take r out' ≡ o
  front-whole e = ap (take r) (rw e at l) ∙ take_at o (drop (length o) out) r (sym (rw e at n))

  pub front-within : length out' ≡ length out → r ≤ length out'
  front-within same =
      by-test b (λ e. omega (arith, rw e at n))
      (λ e. omega (arith, rw e at n, rw e at (ap length l), length-append o (drop (length o) out), length-drop (length o) out, same))

module _ (text out : List ℕ) where
  pub printed-short : length out < output_room → Printed text out 0 out
  printed-short h = record { length-is = rw (lt-ltb (length out) output_room h); left = rw (lt-ltb (length out) output_room h) }

  -- with that room the bytes in front are the output
  pub printed-whole : {out' : List ℕ} {r : ℕ} → Printed text out r out' → output_room ≤ length out → take r out' ≡ output_of text
  printed-whole p h = front-whole (output_of text) out (ltb (length out) output_room) p.length-is p.left (le-ltb (length out) output_room h)

  -- what a caller of the function needs to read the output
  pub printed-within : {out' : List ℕ} {r : ℕ} → Printed text out r out' → length out' ≡ length out → r ≤ length out'
  printed-within p same = front-within (output_of text) out (ltb (length out) output_room) p.length-is p.left same
