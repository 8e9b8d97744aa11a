-- The kinds of frames, by the number that a frame begins with. Assumes nothing: these are definitions, and they compute.
use Rattle.std.specs.Prelude.{Bool, true, false, cond, Option, Some, None, ℕ, eqb}
use Rattle.meaning.specs.Syntax as syntax
use Rattle.language.specs.Written.{set_kind}
use Rattle.catalog.specs.declared.kind.ViewKind.{ViewKind}
use Rattle.catalog.specs.declared.kind.SetOperation.{SetOperation}
use Rattle.catalog.specs.declared.kind.Kind.{Kind}

-- whether a view groups its rows
abbrev pub groups_rows : ViewKind → Bool
groups_rows ViewKind.Basic = false
groups_rows ViewKind.Aggregate = true

-- the operation of a set view
abbrev pub operation_of : SetOperation → syntax.SetOperation
operation_of SetOperation.Union = syntax.SetOperation.union
operation_of SetOperation.Intersection = syntax.SetOperation.intersection

-- "01 table, 02 foreign key, 03 basic view, 04 aggregate view, 05 union, 06 intersection, 07 goal"
abbrev pub number_of : Kind → ℕ
number_of Kind.Table = 1
number_of Kind.ForeignKey = 2
number_of (Kind.View ViewKind.Basic) = 3
number_of (Kind.View ViewKind.Aggregate) = 4
number_of (Kind.Set op) = set_kind (operation_of op)
number_of Kind.Goal = 7

-- the kind of a number
abbrev pub kind_at : ℕ → Option Kind
kind_at n =
    cond (eqb n 1) (Some Kind.Table)
    (cond (eqb n 2) (Some Kind.ForeignKey)
    (cond (eqb n 3) (Some (Kind.View ViewKind.Basic))
    (cond (eqb n 4) (Some (Kind.View ViewKind.Aggregate))
    (cond (eqb n 5) (Some (Kind.Set SetOperation.Union))
    (cond (eqb n 6) (Some (Kind.Set SetOperation.Intersection))
    (cond (eqb n 7) (Some Kind.Goal) None))))))
