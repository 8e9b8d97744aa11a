-- What the functions leave in a lent buffer, and answer. Assumes nothing: these are definitions.
use Rattle.std.specs.Prelude.{◌≡◌, cond, List, ◌++◌, ℕ, ltb, length, drop}

-- a text at the front of a buffer, and its length; without room for it nothing changes, and the answer is 0
pub record Put (text out : List ℕ) (r : ℕ) (out' : List ℕ) : Type 0 where
  pub length-is : r ≡ cond (ltb (length out) (length text)) 0 (length text)
  pub left : out' ≡ cond (ltb (length out) (length text)) out (text ++ drop (length text) out)
