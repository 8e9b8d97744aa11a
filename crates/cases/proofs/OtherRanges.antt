-- What is promised of a file in memory holds where other ranges stand there, too. Assumes nothing.
use mathlib.Core.Path.{◌≡◌}
use mathlib.Core.Bool.{Bool}
use mathlib.Core.List.{List}
use Prim.Native.Nat.{ℕ, ◌+◌}
use lib.IntN.{ℤ}
use lib.ListN.{length}
use Rattle.meaning.specs.Syntax.{File, Goal, Database}
use Rattle.meaning.specs.Valid.{Shaped}
use Rattle.meaning.specs.Decided.{valid, is_case}
use Rattle.catalog.specs.FileIn.{Source, source_from, FileIn, FileLaid, SameButRanges, goal_of}
use Rattle.catalog.specs.declared.outline.Outline.{Outline}
use Rattle.catalog.specs.declared.plan.Goal.{Goal as GoalHere}
use Rattle.catalog.specs.declared.relation.Relation.{Relation}
use Rattle.catalog.proofs.FileLaws.{laid, relaid}
use Rattle.cases.specs.declared.needs.Needs.{Needs}
use Rattle.cases.specs.Needs.{GoalIn, Covers, NeedsWith, NeedsOf}
use Rattle.cases.specs.TablesIn.{TablesIn}
use Rattle.cases.specs.Validity.{IsValid}
use Rattle.cases.specs.Judgement.{Memory, Known, Ready, Evaluates, IsCase}

module _ {F : File} {bytes : List ℕ} {rs rs' : List Relation} {o : Outline} (M : FileIn F (source_from bytes rs o)) (same : SameButRanges rs rs') where
  abbrev other : Source
  other = source_from bytes rs' o

  there : FileLaid F other
  there = relaid same (laid M)

  pub covers : {g : GoalHere} {needs : Needs} → NeedsOf other g needs → GoalIn F (goal_of g) → Covers F (goal_of g) needs
  covers N = N.covers there

  pub covers-with : {first needs : Needs} {g : GoalHere} → NeedsWith other first g needs → GoalIn F (goal_of g) → Covers F (goal_of g) needs
  covers-with N = N.covers there

  pub is-valid : {counts : List ℕ} {work : List ℤ} {r : Bool} → IsValid other counts work r → {d : Database} → Shaped F d → TablesIn F d counts work → r ≡ valid F d
  is-valid V = V.is-valid there

  pub known : {needs : Needs} {memory memory' : Memory} → Evaluates other needs memory memory' → {g : Goal} {d : Database} → Ready F g d needs memory
      → Known F d needs memory' (length F.tables + length F.views)
  known E = E.known there

  pub case : {needs : Needs} {g : GoalHere} {memory memory' : Memory} {r : Bool} → IsCase other needs g memory r memory' → {d : Database}
      → Ready F (goal_of g) d needs memory → r ≡ is_case F (goal_of g) d
  case J = J.case there
