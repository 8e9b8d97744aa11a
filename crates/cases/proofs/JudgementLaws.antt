-- The loop over the views, and whether a database is a case. Assumes nothing.
use mathlib.Core.Path.{◌≡◌, refl, sym, ap, ap₂, ◌∙◌}
use mathlib.Core.Bool.{Bool, true, false, ◌&&◌, ◌||◌, cond, true≢false}
use mathlib.Core.List.{List}
use Prim.Native.Nat.{ℕ, suc, ◌+◌, ◌≤◌, ◌<◌}
use native.Mathlib.Omega.{arith}
use lib.Dec.{ltb, eqb}
use lib.IntN.{ℤ}
use lib.ListN.{length, get_or, set, length-set}
use lib.Seq.{get_or-set_same, get_or-set_other}
use Rattle.value.specs.Bag.{tick}
use Rattle.value.proofs.Decides.{by-test, and_parts}
use Rattle.value.proofs.Bags.{tick-one}
use Rattle.meaning.specs.Lists.{Each, is_pos, any}
use Rattle.meaning.specs.Syntax.{Table, Goal, File, Database}
use Rattle.meaning.specs.Rows.{rows}
use Rattle.meaning.specs.Bounds.{schemas}
use Rattle.meaning.specs.Valid.{InRange}
use Rattle.meaning.specs.Decided.{valid, has_row, some_row, negative, wanted, is_case}
use Rattle.meaning.proofs.DecidedLists.{each-length}
use Rattle.meaning.proofs.Relations.{rows-table}
use Rattle.catalog.specs.Frames.{frame_in}
use Rattle.catalog.specs.FileIn.{Source, FileLaid, goal_of}
use Rattle.catalog.specs.declared.outline.Outline.{Outline}
use Rattle.catalog.specs.declared.plan.Goal.{Goal as GoalHere}
use Rattle.catalog.proofs.FileLaws.{columns-laid}
use Rattle.catalog.specs.declared.relation.Relation.{Relation}
use Rattle.store.specs.Rows.{rows_in}
use Rattle.store.proofs.RowLaws.{rows-length, only_same, only-more, only_wider}
use Rattle.views.proofs.Copying.{apart-same}
use Rattle.views.proofs.Rooms.{positive}
use Rattle.cases.specs.declared.needs.Needs.{Needs}
use Rattle.cases.specs.Needs.{Needed, Asked}
use Rattle.cases.specs.Relations.{columns_of, ViewRows, IsRefuted}
use Rattle.cases.specs.Validity.{IsValid}
use Rattle.cases.specs.Judgement.{Memory, memory_from, SignNoted, RowsNoted, Known, Ready, ViewIn, OnlyViews, Evaluates, IsWanted, judged_further, IsCase}
use Rattle.cases.proofs.FlagLaws.{no_flag}
use Rattle.cases.proofs.Turns.{turn-known}

-- ---- notes

module _ {frame : List ℕ} {needs : Needs} {memory : Memory} {v : ℕ} where
  pub sign-unasked : {b : Bool} {k : ℕ} → b ≡ get_or needs.signs k false → k ≡ v → b ≡ false → SignNoted frame needs memory v memory.signs memory.work
  sign-unasked e k h = record {
    apart = apart-same v memory.work;
    size = refl;
    others = λ i n. refl;
    noted = λ f l. absurd (no_flag (rw k at e) h f);
  }

  pub sign-noted : {r : Bool} {work' : List ℤ} {signs' : List ℕ} {b : ℕ} → IsRefuted frame memory.counts memory.signs memory.work v r work' → b ≡ tick r 0
      → signs' ≡ set memory.signs v b → SignNoted frame needs memory v signs' work'
  sign-noted {r} {b = b} R q e = record {
    apart = R.apart;
    size = rw e (length-set memory.signs v b);
    others = λ i n. rw e (get_or-set_other memory.signs v i b 0 n);
    noted = λ f l. (r, R, rw e (get_or-set_same memory.signs v b 0 l) ∙ q ∙ tick-one r);
  }

module _ {frame : List ℕ} {relations : List Relation} {needs : Needs} {counts : List ℕ} {work : List ℤ} {v : ℕ} where
  pub rows-unneeded : {b : Bool} → b ≡ get_or needs.rows v false → b ≡ false → RowsNoted frame relations needs counts work v counts work
  rows-unneeded e h = record {
    apart = apart-same v work;
    size = refl;
    others = λ i n. refl;
    noted = λ f l. absurd (no_flag e h f);
  }

  pub rows-noted : {n : ℕ} {work' : List ℤ} {counts' : List ℕ} → ViewRows frame relations counts work v n work' → counts' ≡ set counts v n
      → RowsNoted frame relations needs counts work v counts' work'
  rows-noted {n} {work'} A e = record {
    apart = A.apart;
    size = rw e (length-set counts v n);
    others = λ i h. rw e (get_or-set_other counts v i n 0 h);
    noted = λ f l. rw (e, get_or-set_same counts v n 0 l) A;
  }

-- ---- the loop

-- the views before v are worked out
pub record Turned (source : Source) (needs : Needs) (memory memory' : Memory) (v : ℕ) : Type 0 where
  pub first : source.outline.tables ≤ v
  pub kept : OnlyViews source.outline memory memory'
  pub known : {F : File} {g : Goal} {d : Database} → FileLaid F source → Ready F g d needs memory → Known F d needs memory' v

kept_same : (o : Outline) (memory : Memory) → OnlyViews o memory memory
kept_same o memory = record { counts-size = refl; signs-size = refl; cells = only_same memory.work; counts = λ i h. refl; signs = λ i h. refl }

-- the tables are known
tables-known : {F : File} {g : Goal} {d : Database} {source : Source} {needs : Needs} {memory : Memory} → FileLaid F source → Ready F g d needs memory
    → (v : ℕ) → v ≤ length F.tables → Known F d needs memory v
tables-known {F} {d = d} {memory = memory} G R v h = record {
  rows-known = λ i l f.
      let there : i < length F.tables = omega arith in
      ap (λ w. rows_in memory.work i w (get_or memory.counts i 0)) (sym (G.widths i) ∙ columns-laid G i there) ∙ R.tables.table i there
      ∙ sym (rows-table F d i (omega (arith, each-length R.shaped)));
  signs-known = λ i t l f. absurd (omega arith);
}

module _ {source : Source} {needs : Needs} {memory : Memory} where
  pub turned_none : Turned source needs memory memory source.outline.tables
  turned_none = record {
    first = omega arith;
    kept = kept_same source.outline memory;
    known = λ G R. tables-known G R source.outline.tables (omega (arith, G.tables));
  }

  pub turned_more : {memory₁ : Memory} {v : ℕ} {frame : List ℕ} → Turned source needs memory memory₁ v → v < source.outline.relations
      → frame ≡ frame_in source.bytes source.relations v → {signs₂ : List ℕ} {work₂ : List ℤ} → SignNoted frame needs memory₁ v signs₂ work₂
      → {counts₂ : List ℕ} {work₃ : List ℤ} → RowsNoted frame source.relations needs memory₁.counts work₂ v counts₂ work₃
      → Turned source needs memory (memory_from counts₂ signs₂ work₃) (v + 1)
  turned_more {v = v} T l here S N =
      let own : (r : ℕ) → r ≡ v → ViewIn source.outline r = λ r e. (omega (arith, T.first), omega arith) in
      record {
        first = omega (arith, T.first);
        kept = record {
          counts-size = N.size ∙ T.kept.counts-size;
          signs-size = S.size ∙ T.kept.signs-size;
          cells = only-more T.kept.cells (only-more (only_wider own S.apart.only) (only_wider own N.apart.only));
          counts = λ i h. N.others i (λ e. h (own i e)) ∙ T.kept.counts i h;
          signs = λ i h. S.others i (λ e. h (own i e)) ∙ T.kept.signs i h;
        };
        known = λ G R.
            let n : v + 1 ≡ suc v = omega arith in
            rw n (turn-known G R.covers R.shaped v (T.known G R) (omega (arith, R.whole, T.kept.cells.size)) (omega (arith, T.kept.counts-size, R.counts-size))
            (omega (arith, T.kept.signs-size, R.signs-size)) (omega (arith, T.first, G.tables)) (omega (arith, G.relations)) here S N);
      }

  pub turned-all : {memory₁ : Memory} {v : ℕ} → Turned source needs memory memory₁ v → source.outline.relations ≤ v → Evaluates source needs memory memory₁
  turned-all T h = record {
    kept = T.kept;
    known = λ {F} G R. let K = T.known G R in record {
      rows-known = λ i l f. K.rows-known i (omega (arith, G.relations)) f;
      signs-known = λ i t l f. K.signs-known i t (omega (arith, G.relations)) f;
    };
  }

-- ---- what is wanted

module _ {g : GoalHere} {counts signs : List ℕ} where
  pub wanted-sign : g.negative ≡ true → {b : ℕ} → b ≡ get_or signs g.view 0 → IsWanted g counts signs (eqb b 1)
  wanted-sign n e = record {
    by_rows = λ m. absurd (true≢false (sym n ∙ m));
    by_sign = λ m. ap (λ k. eqb k 1) e;
  }

  pub wanted-rows : g.negative ≡ false → {b : ℕ} → b ≡ get_or counts g.view 0 → IsWanted g counts signs (ltb 0 b)
  wanted-rows n {b} e = record {
    by_rows = λ m. positive b ∙ ap is_pos e;
    by_sign = λ m. absurd (true≢false (sym m ∙ n));
  }

-- a sign is 1 or 0
one-sign : (b : Bool) → eqb (cond b 1 0) 1 ≡ b
one-sign true = refl
one-sign false = refl

-- ---- the case

module _ (F : File) (g : Goal) (d : Database) where
  no_row : any has_row d ≡ false → false ≡ is_case F g d
  unfolding is_case some_row
  no_row h = rw h (by-test (valid F d) (λ e. rw e) (λ e. rw e))

  not_valid : valid F d ≡ false → false ≡ is_case F g d
  unfolding is_case
  not_valid h = rw h

  is-wanted : valid F d ≡ true → any has_row d ≡ true → {r : Bool} → r ≡ wanted F d g → r ≡ is_case F g d
  unfolding is_case some_row
  is-wanted v h e = rw (v, h) e

-- "some table has a row" by the row counts of the file
filled-rows : {ts : List Table} {d : Database} → Each InRange ts d → any has_row d ≡ any (λ t. is_pos t.rows) ts
filled-rows Each.nil = refl
filled-rows (Each.cons p ps) = ap₂ ◌||◌ (ap is_pos p.rows) (filled-rows ps)

module _ {source : Source} {needs : Needs} {g : GoalHere} {memory : Memory} where
  -- a database with no rows, or one that is not valid, is no case
  pub case-empty : source.outline.filled ≡ false → IsCase source needs g memory false memory
  case-empty h = record {
    early = λ _. (refl, refl);
    late = λ t. let z : judged_further source memory ≡ false = rw h in absurd (true≢false (sym t ∙ z));
    kept = kept_same source.outline memory;
    case = λ {F} {d} G R. no_row F (goal_of g) d (filled-rows R.shaped ∙ sym G.filled ∙ h);
  }

  pub case-invalid : {b : Bool} → IsValid source memory.counts memory.work b → b ≡ false → IsCase source needs g memory false memory
  case-invalid ok h = record {
    early = λ _. (refl, refl);
    late = λ t. absurd (true≢false (sym (and_parts source.outline.filled _ t).1 ∙ sym ok.here ∙ h));
    kept = kept_same source.outline memory;
    case = λ {F} {d} G R. not_valid F (goal_of g) d (sym (ok.is-valid G R.shaped R.tables) ∙ h);
  }

  -- with rows and keys that hold, by what is wanted of the views that are known
  pub case-known : {F : File} {d : Database} {memory' : Memory} {b r : Bool} → FileLaid F source → Ready F (goal_of g) d needs memory → source.outline.filled ≡ true
      → b ≡ valid F d → b ≡ true → Known F d needs memory' (length F.tables + length F.views) → IsWanted g memory'.counts memory'.signs r
      → r ≡ is_case F (goal_of g) d
  case-known {F} {d} {memory'} {r = r} G R f v h K X = is-wanted F (goal_of g) d (sym v ∙ h) (filled-rows R.shaped ∙ sym G.filled ∙ f) wanted-is
    where
      wanted-is : r ≡ wanted F d (goal_of g)
      wanted-is =
          let v = g.view in
          let first = R.covers.view.behind in
          let last = R.covers.view.before in
          let n = get_or memory'.counts v 0 in
          let A = negative F d (suc v) v in
          let B = has_row (rows F d v) in
          by-test g.negative
          (λ e. let flag : Asked needs v = rw e at R.covers.goal in
          X.by_sign e ∙ ap (λ k. eqb k 1) (K.signs-known v first last flag) ∙ one-sign A ∙ sym (ap (λ b. cond b A B) e))
          (λ e. let flag : Needed needs v = rw e at R.covers.goal in
          let size : n ≡ length (rows F d v) = sym (rows-length memory'.work v (columns_of (schemas F) v) n) ∙ ap length (K.rows-known v last flag) in
          X.by_rows e ∙ ap is_pos size ∙ sym (ap (λ b. cond b A B) e))

  pub case-valid : {b r : Bool} {memory' : Memory} → source.outline.filled ≡ true → IsValid source memory.counts memory.work b → b ≡ true
      → Evaluates source needs memory memory' → IsWanted g memory'.counts memory'.signs r → IsCase source needs g memory r memory'
  case-valid f ok h E X = record {
    early = λ t. let z : judged_further source memory ≡ true = ap₂ (λ (a b : Bool). a && b) f (sym ok.here ∙ h) in absurd (true≢false (sym z ∙ t));
    late = λ _. (E, X);
    kept = E.kept;
    case = λ {F} {d} G R. case-known G R f (ok.is-valid G R.shaped R.tables) h (E.known G R) X;
  }
