-- `checker::plan::walk` meets its contract. Assumes nothing.
use mathlib.Core.Path.{◌≡◌}
use Prim.Native.Nat.{ℕ, ◌-◌, ◌≤◌}
use mathlib.Core.List.{List}
use lib.ListN.{length}
use Rattle.text.specs.Answers.{pack}
use Rattle.language.specs.Draft.{empty}
use Rattle.checker.specs.Standing.{DraftIn, start_progress}
use Rattle.checker.proofs.WalkLaws.{Left}
use Rattle.checker.proofs.plan.walk.Given as goal

abbrev pub invariant-loop-at : goal.invariant-loop-at
invariant-loop-at l = (length l.relations ≡ length l.initial.relations) × (l.line ≤ l.at)
    × ((fs : List (List ℕ)) → l.packed ≡ pack fs → DraftIn empty start_progress l.initial.relations → Left l.packed l.s l.relations l.at l.line fs)

abbrev pub decreases-loop-at : goal.decreases-loop-at
decreases-loop-at l = length l.packed - l.at
