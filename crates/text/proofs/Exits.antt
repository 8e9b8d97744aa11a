-- The exit of a `?` that keeps the error. Assumes nothing.
use mathlib.Core.Path.{◌≡◌, ◌∙◌, ap}
use Rattle.std.specs.Result.{IsErr, IsErrAnd}
use Rattle.std.proofs.Common.{Result, Err}
use Rattle.std.proofs.lemmas.Result.{err_from_is_err_and}

-- the result that the exit gives
pub exit_is : {T E : Type 0} (r : Result T E) {e : E} → IsErrAnd r (λ x. x ≡ e) → r ≡ Err e
exit_is r {e} h = let p = err_from_is_err_and r h in p.1 ∙ ap Err p.2
