-- `value::integer::near` meets its contract. Assumes nothing.
use mathlib.Core.Path.{sym}
use native.Mathlib.Omega.{arith}
use native.Mathlib.Nat.{mul-zero, mod-lt, div-le_self}
use Rattle.value.proofs.Rounding.{nearest-down, nearest-up, nearest-most}
use Rattle.value.proofs.integer.near.Goals as goal

pub returns-then-m-eq0 : goal.returns-then-m-eq0
returns-then-m-eq0 c = rw c.if-m-eq0.true (sym (mul-zero _))

pub overflow_mul-n : goal.overflow_mul-n
overflow_mul-n c = omega (arith, mod-lt c.args.n {m = c.args.m} (omega arith))

pub overflow_mul-result : goal.overflow_mul-result
overflow_mul-result c = let e = nearest-down c.args.m c.args.n (rw c.from-k.ensures at c.if-n-k.true) in omega (arith, nearest-most c.args.m c.args.n)

pub overflow_add-result : goal.overflow_add-result
overflow_add-result c = omega (arith, div-le_self c.args.n c.args.m)

pub overflow_mul-result-else-n-k : goal.overflow_mul-result-else-n-k
overflow_mul-result-else-n-k c = let e = nearest-up c.args.m c.args.n (rw c.from-k.ensures at c.if-n-k.false) in omega (arith, nearest-most c.args.m c.args.n)

pub returns-then-n-k : goal.returns-then-n-k
returns-then-n-k c = rw c.from-k.ensures (sym (nearest-down c.args.m c.args.n (rw c.from-k.ensures at c.if-n-k.true)))

pub returns-else-n-k : goal.returns-else-n-k
returns-else-n-k c = rw c.from-k.ensures (sym (nearest-up c.args.m c.args.n (rw c.from-k.ensures at c.if-n-k.false)))
