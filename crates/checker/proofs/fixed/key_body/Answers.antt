-- `checker::fixed::key_body` meets its contract. Assumes nothing.
use mathlib.Core.Path.{◌∙◌, ap₂}
use Prim.Native.Nat.{ℕ}
use Rattle.checker.specs.FixedFaults.{key_pairs, pairing, key_body}
use Rattle.checker.proofs.FaultLaws.{chain-stop, chain-go}
use Rattle.checker.proofs.fixed.key_body.Goals as goal

pub returns-in_err-key_pairs : goal.returns-in_err-key_pairs
unfolding key_body
returns-in_err-key_pairs c = chain-stop _ _ _ c.from_residual.ensures.1
    (c.in_err-key_pairs.ensures ∙ ap₂ (λ (a b : ℕ). key_pairs c.args.frame.now a b c.args.n) c.width_of-c.ensures c.width_of-p.ensures)

pub returns : goal.returns
unfolding key_body
returns c = chain-go
    (c.in_ok-key_pairs.ensures ∙ ap₂ (λ (a b : ℕ). key_pairs c.args.frame.now a b c.args.n) c.width_of-c.ensures c.width_of-p.ensures)
    (c.pairing_fault.ensures ∙ ap₂ (λ (a b : ℕ). pairing c.args.frame.now c.args.n 0 a b) c.width_of-p.ensures c.mask_of.ensures)
