-- `checker::view_bytes::relations` meets its contract. Assumes nothing.
use mathlib.Core.Path.{◌∙◌}
use Prim.Native.Nat.{◌+◌}
use native.Mathlib.Omega.{arith}
use Rattle.std.proofs.Common.{rules}
use Rattle.language.specs.Reading.{byte_if}
use Rattle.checker.specs.Faults.{fault_at, under}
use Rattle.checker.proofs.FaultLaws.{among-bytes}
use Rattle.checker.proofs.view_bytes.relations.Goals as goal

pub returns : goal.returns
returns c =
    c.repeated.ensures (λ i. fault_at c.args.frame.now (2 + i) (byte_if 6 (under c.args.count))) (λ i l r p. search rules)
    ∙ among-bytes 6 (under c.args.count) (λ e. omega arith) c.args.frame.now 2 c.args.n
