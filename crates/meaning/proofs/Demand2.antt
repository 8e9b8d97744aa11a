-- Demand 2: "Each view's rows, counted as a bag, are those of the Extended Relational Algebra, and a database is a positive or negative
-- case exactly by Definitions 1 to 4." Assumes nothing.
use mathlib.Core.Path.{◌≡◌, sym, ◌∙◌}
use mathlib.Core.Logic.{◌↔◌}
use mathlib.Core.Bool.{true}
use mathlib.Core.List.{List}
use Prim.Native.Nat.{ℕ, ◌+◌, ◌<◌}
use lib.ListN.{length}
use Rattle.value.specs.Bag.{count}
use Rattle.value.proofs.Decides.{Decides, dec-true, true-dec}
use Rattle.meaning.specs.Algebra.{Bag, MeaningOf, SameTables}
use Rattle.meaning.specs.Bounds.{well_formed}
use Rattle.meaning.specs.Cases.{Case}
use Rattle.meaning.specs.Decided.{is_case}
use Rattle.meaning.specs.Evaluation.{row_test}
use Rattle.meaning.specs.Rows.{rows}
use Rattle.meaning.specs.Syntax.{Database, File, Row}
use Rattle.meaning.proofs.DecidedCases.{file-dec}
use Rattle.meaning.proofs.DecidedLists.{each-length, ltb-dec}
use Rattle.meaning.proofs.Relations.{meaning-rows, means-rows, rows-permuted}
use Rattle.meaning.proofs.RowOrder.{case-order}
use Rattle.meaning.proofs.WellFormed.{rules}

-- of every well-formed file and every database, a bag is the meaning of a relation exactly when each row occurs in it as often as in the
-- rows given
abbrev pub Views : (File → Database → ℕ → List Row) → Type 0
Views rows = (F : File) → well_formed F ≡ true → (d : Database) (v : ℕ) (B : Bag) → v < length d + length F.views
    → MeaningOf F d v B ↔ ((μ : Row) → count row_test μ B ≡ count row_test μ (rows F d v))

-- the rows in the document's order are such
pub views : Views rows
unfolding MeaningOf
views F w d v B h = ((λ m. (means-rows F w d v B h m).at), λ e. (rows F d, meaning-rows F w d, record { at = λ μ. sym (e μ) }))

-- of a well-formed file any database is a case of its goal by the paper's definitions exactly when `is_case` says so
pub cases : (F : File) → well_formed F ≡ true → (d : Database) → Decides (is_case F F.goal d) (Case F d F.goal)
cases F w d = file-dec F w F.goal (dec-true (ltb-dec _ _) (rules F w).goal) d

-- permuting the rows of tables permutes the rows of views
pub order : (F : File) → well_formed F ≡ true → (d d' : Database) → SameTables d d' → (v : ℕ) → v < length d + length F.views
    → (μ : Row) → count row_test μ (rows F d v) ≡ count row_test μ (rows F d' v)
order F w d d' s v h = (rows-permuted F w d d' s v h).at

-- and changes no case
pub order-case : (F : File) → well_formed F ≡ true → (d d' : Database) → SameTables d d' → Case F d F.goal → Case F d' F.goal
order-case F w d d' s c =
    let n : length d ≡ length F.tables = each-length c.valid.shaped in
    let g : F.goal.view < length d + length F.views = rw n (dec-true (ltb-dec _ _) (rules F w).goal) in
    dec-true (cases F w d') (sym (case-order d d' s F w F.goal g) ∙ true-dec (cases F w d) c)
