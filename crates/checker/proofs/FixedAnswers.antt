-- What the code answers is what it promises: the first of the faults that it joins, for every draft that the relations and counts stand for.
-- Assumes nothing.
use mathlib.Core.Path.{◌≡◌, sym, ap, ap₂, ◌∙◌}
use mathlib.Core.List.{List}
use Prim.Native.Nat.{ℕ, ◌≤◌, ◌<◌, min}
use native.Mathlib.Omega.{arith}
use lib.ListN.{get_or}
use borrow.Author.Tests.{eq-eqb, ne_eqb, le-leb, lt-leb}
use Rattle.meaning.specs.Syntax.{SetOperation}
use Rattle.meaning.specs.Bounds.{set_bound}
use Rattle.language.specs.Reading.{byte_if}
use Rattle.language.specs.Frames.{ending}
use Rattle.catalog.specs.Relations.{width_at, bound_at}
use Rattle.checker.specs.Faults.{fault_at, first, within, from_under}
use Rattle.checker.specs.FixedFaults.{table_head, table_columns, key_head, key_pairs, key_body, set_bytes, set_rules, TableFault, KeyFault, SetFault, GoalFault}
use Rattle.checker.proofs.FieldLaws.{first-assoc, first_three}
use Rattle.checker.proofs.FixedLaws.{table-law, key-law, set-law, goal-law}
use Rattle.catalog.specs.declared.relation.Relation.{Relation}

module _ (frame : List ℕ) where
  -- of n columns
  pub table-answer : {n h b r : ℕ} → n ≡ get_or frame 2 0 → h ≡ table_head frame n → b ≡ table_columns frame n → r ≡ first h b → TableFault frame r
  unfolding table_head table_columns
  table-answer e p q s = record { at = λ d. s ∙ ap₂ first p q ∙ first_three _ _ _ _ ∙ rw e (sym (table-law d frame)) }

  module _ (tables : ℕ) where
    -- of n pairs, between two tables
    pub key-answer : (relations : List Relation) {child parent n h b r : ℕ} → child ≡ get_or frame 1 0 → parent ≡ get_or frame 2 0 → n ≡ get_or frame 3 0
        → h ≡ key_head frame tables → b ≡ key_body frame relations child parent n → r ≡ first h b → KeyFault frame relations tables r
    unfolding key_head key_pairs key_body
    key-answer relations i j e p q s = record {
      here = s ∙ ap₂ first p (q ∙ rw (i, j, e));
      at = λ d known fit t.
          s ∙ ap₂ first p q ∙ first_three _ _ _ _ ∙ ap (first _) (ap (first _) (ap (first _) (sym (first-assoc _ _ _)))) ∙ rw (i, j, e, t) (sym (key-law known frame fit));
    }

    module _ (count : ℕ) where
      pub set-answer : (relations : List Relation) (op : SetOperation) {i j b s r : ℕ} → i ≡ get_or frame 1 0 → j ≡ get_or frame 2 0
          → b ≡ set_bytes frame tables count → s ≡ set_rules op relations i j → r ≡ first b s → SetFault frame relations tables count op r
      unfolding set_bytes
      set-answer relations op i j p q e = record { here = e ∙ ap₂ first p (q ∙ ap₂ (set_rules op relations) i j); at = λ d known t n. e ∙ ap₂ first p q ∙ first_three _ _ _ _ ∙ rw (i, j, t, n) (sym (set-law known frame op)) }

      pub goal-answer : {r : ℕ} → r ≡ first (fault_at frame 1 (byte_if 6 (from_under tables count)))
          (first (fault_at frame 2 (byte_if 5 (within 0 1))) (fault_at frame 3 (ending {A = ℕ} 3)))
          → GoalFault frame tables count r
      goal-answer e = record { here = e; at = λ d t k. e ∙ rw (t, k) (sym (goal-law d frame)) }

-- ---- the rules on a set view, by its row bound that is at most 255

module _ (op : SetOperation) (relations : List Relation) (i j : ℕ) {v w : ℕ} (a : v ≡ width_at relations i) (b : w ≡ width_at relations j) where
  pub rules-unequal : (v ≡ w → ⊥) → 6 ≡ set_rules op relations i j
  unfolding set_rules
  rules-unequal h = rw (ne_eqb (width_at relations i) (width_at relations j) (λ e. h (a ∙ e ∙ sym b)))

  module _ {n : ℕ} (e : v ≡ w) (m : n ≡ min (set_bound op (bound_at relations i) (bound_at relations j)) 255) where
    pub rules-small : n ≤ 64 → 0 ≡ set_rules op relations i j
    unfolding set_rules
    rules-small h = rw (eq-eqb (width_at relations i) (width_at relations j) (sym a ∙ e ∙ b), le-leb (set_bound op (bound_at relations i) (bound_at relations j)) 64 (omega (arith, m, h)))

    pub rules-large : 64 < n → 8 ≡ set_rules op relations i j
    unfolding set_rules
    rules-large h = rw (eq-eqb (width_at relations i) (width_at relations j) (sym a ∙ e ∙ b), lt-leb (set_bound op (bound_at relations i) (bound_at relations j)) 64 (omega (arith, m, h)))
