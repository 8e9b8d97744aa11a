-- `text::pair_at` meets its contract. Assumes nothing.
use native.Mathlib.Omega.{arith}
use mathlib.Core.Path.{sym, ap₂, ◌∙◌}
use Prim.Native.Nat.{ℕ, ◌+◌, ◌*◌}
use lib.ListN.{length-drop}
use Rattle.text.specs.Pair.{PairRead}
use Rattle.text.proofs.Digits.{pair-short, pair-high, pair-low, pair-both}
use Rattle.text.proofs.pair_at.Goals as goal

pub returns-then-text-at-lt2 : goal.returns-then-text-at-lt2
returns-then-text-at-lt2 c = sym (pair-short _ (simp length-drop (omega arith)))

pub returns-then-high-ge16 : goal.returns-then-high-ge16
returns-then-high-ge16 c = sym (pair-high c.args.text.now c.args.at (omega arith) (omega arith))

pub returns-then-low-ge16 : goal.returns-then-low-ge16
returns-then-low-ge16 c = sym (pair-low c.args.text.now c.args.at (omega arith) (omega arith) (omega arith))

pub returns : goal.returns
returns c =
    ap₂ (λ (h l : ℕ). PairRead.byte (16 * h + l)) c.digit_of-high.ensures c.digit_of-low.ensures
    ∙ sym (pair-both c.args.text.now c.args.at (omega arith) (omega arith) (omega arith))
