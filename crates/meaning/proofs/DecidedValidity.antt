-- A database is valid exactly when `valid` says so. Assumes nothing.
use mathlib.Core.Logic.{◌≢◌, ◌⊎◌, inl, inr, ⊎_elim}
use mathlib.Core.Bool.{Bool, true, false}
use mathlib.Core.List.{List, [], ◌∷◌}
use lib.Dec.{T}
use lib.ListN.{length, get_or}
use Rattle.value.specs.Value.{Value, value_test}
use Rattle.value.proofs.Decides.{Decides, and-dec, by-dec, eqb-dec, imp-dec, not-dec, or-dec, test-dec}
use Rattle.value.proofs.Values.{within-dec}
use Rattle.meaning.specs.Evaluation.{missing}
use Rattle.meaning.specs.Lists.{each}
use Rattle.meaning.specs.Syntax.{Database, File, ForeignKey, Pair, Row, Table}
use Rattle.meaning.specs.Valid.{Agrees, Differ, ForeignKeyHolds, InRange, KeyHolds, Shaped, Valid}
use Rattle.meaning.specs.Decided.{agrees, differ, foreign_key_holds, in_range, key_holds, valid}
use Rattle.meaning.proofs.DecidedLists.{NotNil, T-dec, all-dec, any-dec, each-dec, no-dec, pairwise-dec}

-- ---- two rows that differ in a key column
differ-some : {ks : List Bool} {μ ν : Row} → Differ ks μ ν → NotNil ks × NotNil μ × NotNil ν
differ-some (Differ.here n) = (tt, tt, tt)
differ-some (Differ.there d) = (tt, tt, tt)

differ-cons : (k : Bool) {ks : List Bool} {μ ν : Row} {x y : Value} → (T k × (x ≢ y)) ⊎ Differ ks μ ν → Differ (k ∷ ks) (x ∷ μ) (y ∷ ν)
differ-cons true = ⊎_elim (λ h. Differ.here h.1) Differ.there
differ-cons false = ⊎_elim (λ h. absurd h.0) Differ.there

cons-differ : {k : Bool} {ks : List Bool} {μ ν : Row} {x y : Value} → Differ (k ∷ ks) (x ∷ μ) (y ∷ ν) → (T k × (x ≢ y)) ⊎ Differ ks μ ν
cons-differ (Differ.here n) = inl (tt, n)
cons-differ (Differ.there d) = inr d

differ-dec : (ks : List Bool) (μ ν : Row) → Decides (differ ks μ ν) (Differ ks μ ν)
differ-dec [] μ ν = no-dec (λ h. (differ-some h).0)
differ-dec (k ∷ ks) [] ν = no-dec (λ h. (differ-some h).1)
differ-dec (k ∷ ks) (x ∷ μ) [] = no-dec (λ h. (differ-some h).2)
differ-dec (k ∷ ks) (x ∷ μ) (y ∷ ν) =
    by-dec (differ-cons k) cons-differ (or-dec (and-dec (T-dec k) (not-dec (test-dec value_test x y))) (differ-dec ks μ ν))

-- ---- the parts of validity
in_range-dec : (t : Table) (R : List Row) → Decides (in_range t R) (InRange t R)
in_range-dec t R =
    by-dec (λ h. record { rows = h.0; values = h.1 }) (λ i. (i.rows, i.values))
    (and-dec (eqb-dec (length R) t.rows) (all-dec (each-dec within-dec t.columns) R))

pub shaped-dec : (F : File) (d : Database) → Decides (each in_range F.tables d) (Shaped F d)
shaped-dec F d = each-dec in_range-dec F.tables d

key_dec : (t : Table) (R : List Row) → Decides (key_holds t R) (KeyHolds t R)
key_dec t R =
    by-dec (λ h. record { apart = h }) (λ k. k.apart) (imp-dec (any-dec T-dec t.key) (pairwise-dec (differ-dec t.key) R))

agrees-dec : (ps : List Pair) (μ ν : Row) → Decides (agrees ps μ ν) (Agrees ps μ ν)
agrees-dec ps μ ν = all-dec (λ p. test-dec value_test (get_or μ p.child missing) (get_or ν p.parent missing)) ps

foreign-dec : (d : Database) (k : ForeignKey) → Decides (foreign_key_holds d k) (ForeignKeyHolds d k)
foreign-dec d k =
    by-dec (λ h. record { parents = h }) (λ f. f.parents)
    (all-dec (λ μ. any-dec (agrees-dec k.pairs μ) (get_or d k.parent [])) (get_or d k.child []))

pub valid-dec : (F : File) (d : Database) → Decides (valid F d) (Valid F d)
unfolding valid
valid-dec F d =
    by-dec (λ h. record { shaped = h.0; primary = h.1.0; foreign = h.1.1 }) (λ v. (v.shaped, (v.primary, v.foreign)))
    (and-dec (shaped-dec F d) (and-dec (each-dec key_dec F.tables d) (all-dec (foreign-dec d) F.keys)))
