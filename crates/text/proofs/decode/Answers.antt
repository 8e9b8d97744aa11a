-- `text::decode` meets its contract. Assumes nothing.
use native.Mathlib.Omega.{arith}
use mathlib.Core.Path.{ap}
use Rattle.text.specs.Refusals.{number_of}
use Rattle.text.specs.declared.refusal.Refusal.{Refusal}
use Rattle.text.proofs.Refusals.{empty-refused, long-refused, lines-within}
use Rattle.text.proofs.decode.Goals as goal

pub returns-then-text-eq0 : goal.returns-then-text-eq0
returns-then-text-eq0 c = rw (empty-refused c.args.text.now (omega arith)) (record { number = ap (λ (r : Refusal). number_of r.reason) c.at.ensures; line = ap (λ (r : Refusal). r.line) c.at.ensures })

pub returns-then-text-gt8192 : goal.returns-then-text-gt8192
returns-then-text-gt8192 c = rw (long-refused c.args.text.now (omega arith)) (record { number = ap (λ (r : Refusal). number_of r.reason) c.at-then-text-gt8192.ensures; line = ap (λ (r : Refusal). r.line) c.at-then-text-gt8192.ensures })

pub returns : goal.returns
returns c = rw (lines-within c.args.text.now (omega arith) (omega arith)) c.lines_of.ensures
