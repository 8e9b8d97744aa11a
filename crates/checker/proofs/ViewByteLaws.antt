-- The faults of the bytes of a view, part by part.
--     times-then                   bytes of one test, and what follows them
--     fault-next, fault-stop       what follows a part that ended, and one that did not
--     Left                         a repetition, as a loop goes through it
--     times-skip                   where a repetition ends
--     select-next .. groups-stop   the parts behind the counts
-- Assumes nothing.
use Rattle.language.proofs.Turns.{count-schemas}
use Rattle.meaning.proofs.Listed.{map-listed}
use Rattle.meaning.specs.Bounds.{Schema, no_schema}
use mathlib.Core.Path.{◌≡◌, refl, sym, ap, subst, ◌∙◌}
use mathlib.Core.Bool.{Bool}
use mathlib.Core.List.{List, [], ◌∷◌, map}
use Prim.Native.Nat.{ℕ, zero, suc, ◌+◌, ◌-◌, ◌≤◌, ◌<◌}
use native.Mathlib.Omega.{arith}
use lib.Dec.{ltb, leb}
use lib.ListN.{length, get_or, drop, take}
use borrow.Author.Tests.{leb-true, leb-false}
use Rattle.value.proofs.Decides.{by-test, and_parts}
use Rattle.value.proofs.Places.{from_byte}
use Rattle.language.specs.Reading.{Read, Reader, done, and_then, ◌>>=◌, byte_if, place, Open, read_e, read_c, open_items}
use Rattle.meaning.proofs.Elements.{all-given, map_same}
use Rattle.std.specs.Prelude.{Result, Ok, Err}
use Rattle.text.specs.declared.refusal.Reason.{Reason}
use Rattle.prefix.specs.Skipped.{FormEnd, skip_of, skip_told, skipped}
use Rattle.prefix.proofs.Ends.{Ends, Field, ends-done, ends_more, ends-bind, field-if, field-bind, field_e, field_c}
use Rattle.prefix.proofs.Skips.{Landed, lands, field-lands, then-more, then-stop, next-is, level-done, level-bind, level-at}
use Rattle.catalog.specs.Relations.{width_at}
use Rattle.catalog.specs.Frames.{froms_in}
use Rattle.catalog.specs.Items.{bytes_at, open_in}
use Rattle.catalog.proofs.ItemLaws.{bytes-length}
use Rattle.language.specs.Draft.{Draft, width, schemas_of, relation_count}
use Rattle.language.specs.Frames.{repeated, ending, place_field}
use Rattle.checker.specs.Faults.{fault_of, fault_at, first, under, within}
use Rattle.checker.specs.Catalogued.{Catalogued}
use Rattle.checker.specs.ViewFaults.{froms_under, select_end, condition_select, where_groups, Times}
use Rattle.checker.proofs.FieldLaws.{first-assoc, first-none, first_some, byte-then, byte-wrong, byte-missing, end-any}
use Rattle.checker.proofs.FixedLaws.{width-known}
use Rattle.meaning.specs.Syntax.{Expr}
use Rattle.catalog.specs.declared.relation.Relation.{Relation}

-- ---- the first of several faults

first-zero : (a b : ℕ) → first a b ≡ 0 → a ≡ 0
first-zero zero b h = refl
first-zero (suc a) b h = sym (first_some (suc a) b (λ k. omega arith)) ∙ h

second-zero : (a b : ℕ) → first a b ≡ 0 → b ≡ 0
second-zero a b h = sym (ap (λ x. first x b) (first-zero a b h) ∙ first-none b) ∙ h

-- ---- readers with the same faults, what they read aside

pub record Alike {A B : Type 0} (r : Reader A) (s : Reader B) : Type 0 where
  pub same : (bs : List ℕ) → fault_of (r bs) ≡ fault_of (s bs)

pub alike_at : {A B : Type 0} {r : Reader A} {s : Reader B} (frame : List ℕ) (at : ℕ) → Alike r s → fault_at frame at r ≡ fault_at frame at s
unfolding fault_at
alike_at frame at l = l.same (drop at frame)

alike-done : {A B : Type 0} (m : Reader A) (f : A → B) → Alike (m >>= λ a. done (f a)) m
alike-done {A} m f = record { same = λ bs. go (m bs) }
  where
    go : (x : Read A) → fault_of (and_then x (λ a. done (f a))) ≡ fault_of x
    go (Read.ok a rest) = refl
    go (Read.refused n) = refl

pub alike-bind : {A B C : Type 0} (m : Reader A) {f : A → Reader B} {g : A → Reader C} → ((a : A) → Alike (f a) (g a)) → Alike (m >>= f) (m >>= g)
alike-bind {A} m {f} {g} h = record { same = λ bs. go (m bs) }
  where
    go : (x : Read A) → fault_of (and_then x f) ≡ fault_of (and_then x g)
    go (Read.ok a rest) = (h a).same rest
    go (Read.refused n) = refl

alike-assoc : {A B C : Type 0} (m : Reader A) (f : A → Reader B) (g : B → Reader C) → Alike ((m >>= f) >>= g) (m >>= λ a. f a >>= g)
alike-assoc {A} m f g = record { same = λ bs. go (m bs) }
  where
    go : (x : Read A) → fault_of (and_then (and_then x f) g) ≡ fault_of (and_then x (λ a. f a >>= g))
    go (Read.ok a rest) = refl
    go (Read.refused n) = refl

pub alike_end : {A B : Type 0} (x : A) (y : B) → Alike (ending x) (ending y)
alike_end x y = record { same = go }
  where
    go : (bs : List ℕ) → fault_of (ending x bs) ≡ fault_of (ending y bs)
    go [] = refl
    go (b ∷ bs) = refl

-- ---- bytes of one test

module _ (frame : List ℕ) (n : ℕ) (p : ℕ → Bool) (z : n ≡ 0 → ⊥) where
  pub times-first : (at k : ℕ) → fault_at frame at (repeated (suc k) (byte_if n p)) ≡ first (fault_at frame at (byte_if n p)) (fault_at frame (at + 1) (repeated k (byte_if n p)))
  times-first at k =
      byte-then frame at n p (λ x. repeated k (byte_if n p) >>= λ xs. done (x ∷ xs)) z
      ∙ ap (first (fault_at frame at (byte_if n p))) (alike_at frame (at + 1) (alike-done (repeated k (byte_if n p)) (λ xs. get_or frame at 0 ∷ xs)))

  -- without a fault they are all there
  pub times-bytes : (k at : ℕ) → fault_at frame at (repeated k (byte_if n p)) ≡ 0 → bytes_at frame at k ≡ take k (drop at frame)
  unfolding bytes_at
  times-bytes zero at h = refl
  times-bytes (suc k) at h =
      let e = sym (times-first at k) ∙ h in
      let a = first-zero _ _ e in
      let l : at < length frame = by-test (leb (length frame) at)
      (λ t. let q = byte-missing frame at n p (leb-true _ _ t) in absurd (omega arith))
      (λ t. leb-false _ _ t) in
      rw (from_byte frame at l, times-bytes k (at + 1) (second-zero _ _ e))

  pub times-then : {B : Type 0} (k at : ℕ) (f : List ℕ → Reader B)
      → fault_at frame at (repeated k (byte_if n p) >>= f) ≡ first (fault_at frame at (repeated k (byte_if n p))) (fault_at frame (at + k) (f (bytes_at frame at k)))
  unfolding fault_at bytes_at
  times-then zero at f = let e : at + 0 ≡ at = omega arith in rw e (sym (first-none _))
  times-then (suc k) at f =
      let b = get_or frame at 0 in
      let m = byte_if n p in
      let more = repeated k m in
      let e : at + 1 + k ≡ at + suc k = omega arith in
      alike_at frame at (alike-assoc m (λ x. more >>= λ xs. done (x ∷ xs)) f)
      ∙ byte-then frame at n p (λ x. (more >>= λ xs. done (x ∷ xs)) >>= f) z
      ∙ ap (first (fault_at frame at m))
      (alike_at frame (at + 1) (alike-assoc more (λ xs. done (b ∷ xs)) f) ∙ times-then k (at + 1) (λ xs. f (b ∷ xs)))
      ∙ first-assoc (fault_at frame at m) (fault_at frame (at + 1) more) (fault_at frame (at + 1 + k) (f (b ∷ bytes_at frame (at + 1) k)))
      ∙ ap (λ a. first a (fault_at frame (at + 1 + k) (f (b ∷ bytes_at frame (at + 1) k)))) (sym (times-first at k))
      ∙ ap (λ j. first (fault_at frame at (repeated (suc k) m)) (fault_at frame j (f (b ∷ bytes_at frame (at + 1) k)))) e

-- ---- the from list

module _ (frame : List ℕ) (count : ℕ) where
  pub froms-fault : fault_at frame 1 (froms_under count) ≡ first (fault_at frame 1 (byte_if 5 (within 1 3))) (fault_at frame 2 (repeated (get_or frame 1 0) (byte_if 6 (under count))))
  froms-fault = byte-then frame 1 5 (within 1 3) (λ n. repeated n (byte_if 6 (under count))) (λ e. omega arith)

  pub froms-are : {n a b r : ℕ} → n ≡ get_or frame 1 0 → a ≡ fault_at frame 1 (byte_if 5 (within 1 3)) → b ≡ fault_at frame 2 (repeated n (byte_if 6 (under count)))
      → r ≡ first a b → r ≡ fault_at frame 1 (froms_under count)
  froms-are x y z w = let l = froms-fault in cc

  -- a from list without a fault has at most three items
  pub froms-few : fault_at frame 1 (froms_under count) ≡ 0 → get_or frame 1 0 ≤ 3
  froms-few h =
      let e = first-zero _ _ (sym froms-fault ∙ h) in
      by-test (leb (length frame) 1)
      (λ l. let q = byte-missing frame 1 5 (within 1 3) (leb-true _ _ l) in absurd (omega arith))
      (λ l. by-test (within 1 3 (get_or frame 1 0))
      (λ t. leb-true _ _ (and_parts (leb 1 (get_or frame 1 0)) _ t).1)
      (λ t. let q = byte-wrong frame 1 5 (within 1 3) (leb-false _ _ l) t in absurd (omega arith)))

  -- it is in the frame
  pub froms-there : fault_at frame 1 (froms_under count) ≡ 0 → bytes_at frame 2 (get_or frame 1 0) ≡ froms_in frame
  unfolding froms_in
  froms-there h = times-bytes frame 6 (under count) (λ e. omega arith) (get_or frame 1 0) 2 (second-zero _ _ (sym froms-fault ∙ h))

  pub froms-six : fault_at frame 1 (froms_under count) ≡ 0 → length (froms_in frame) ≤ 6
  froms-six h =
      let l = bytes-length frame 2 (get_or frame 1 0) in
      let e = ap length (froms-there h) in
      omega (arith, froms-few h)

  pub froms-then : {B : Type 0} (f : List ℕ → Reader B)
      → fault_at frame 1 (froms_under count >>= f) ≡ first (fault_at frame 1 (froms_under count)) (fault_at frame (get_or frame 1 0 + 2) (f (bytes_at frame 2 (get_or frame 1 0))))
  froms-then f =
      let n = get_or frame 1 0 in
      let r = byte_if 6 (under count) in
      let z : (k : ℕ) → suc k ≡ 0 → ⊥ = λ k e. omega arith in
      let e : 2 + n ≡ n + 2 = omega arith in
      alike_at frame 1 (alike-assoc (byte_if 5 (within 1 3)) (λ k. repeated k r) f)
      ∙ byte-then frame 1 5 (within 1 3) (λ k. repeated k r >>= f) (z 4)
      ∙ ap (first (fault_at frame 1 (byte_if 5 (within 1 3)))) (times-then frame 6 (under count) (z 5) n 2 f)
      ∙ first-assoc (fault_at frame 1 (byte_if 5 (within 1 3))) (fault_at frame 2 (repeated n r)) (fault_at frame (2 + n) (f (bytes_at frame 2 n)))
      ∙ ap (λ a. first a (fault_at frame (2 + n) (f (bytes_at frame 2 n)))) (sym froms-fault)
      ∙ ap (λ j. first (fault_at frame 1 (froms_under count)) (fault_at frame j (f (bytes_at frame 2 n)))) e

-- ---- the widths of the from items

pub widths-are : {d : Draft} {relations : List Relation} → Catalogued d relations → (fs : List ℕ) → map (width d) fs ≡ map (width_at relations) fs
widths-are {d} {relations} c fs = map_same (width d) (width_at relations) (all-given (width-known c) fs)

-- what is open over them
pub opens-are : {d : Draft} {relations : List Relation} → Catalogued d relations → {n : ℕ} → relation_count d ≡ n → (fs : List ℕ)
    → open_items (schemas_of d) fs ≡ open_in relations n fs
opens-are {d} {relations} c {n} e fs =
    rw (widths-are c fs, map-listed (λ (s : Schema). length s.ranges) (schemas_of d) no_schema (width_at relations) n (count-schemas d ∙ e) (λ i h. width-known c i))

-- ---- what follows a part

module _ (frame : List ℕ) where
  pub fault-stop : {A B : Type 0} (m : Reader A) (f : A → Reader B) (at n : ℕ) {r : FormEnd} → r ≡ skipped frame at m → r ≡ FormEnd.refused n → fault_at frame at (m >>= f) ≡ n
  unfolding skipped fault_at
  fault-stop {A} m f at n e k = go (m (drop at frame)) (sym e ∙ k)
    where
      go : (x : Read A) → skip_of frame x ≡ FormEnd.refused n → fault_of (and_then x f) ≡ n
      go (Read.ok a rest) q = let z : ◌≡◌ {A = ℕ} 0 1 = cc in absurd (omega arith)
      go (Read.refused j) q = cc

  pub fault-next : {A B : Type 0} {m : Reader A} {at n : ℕ} (l : Landed frame m at n) (f : A → Reader B) {v : ℕ}
      → ((a : A) → fault_at frame n (f a) ≡ v) → fault_at frame at (m >>= f) ≡ v
  unfolding fault_at
  fault-next l f h = ap (λ x. fault_of (and_then x f)) l.reads ∙ h l.what

-- ---- a repetition

ends-times : {A : Type 0} {m : Reader A} → Ends m → (n : ℕ) → Ends (repeated n m)
ends-times e zero = ends-done []
ends-times e (suc n) = ends_more e (ends-times e n)

-- n calls from `at` on, of which those behind the first k start at `next`
pub record Left (call : ℕ → Result ℕ Reason → Type 0) (at n next k : ℕ) : Type 0 where
  pub rest : (r : Result ℕ Reason) → Times call next (n - k) r → Times call at n r

pub left-all : {call : ℕ → Result ℕ Reason → Type 0} (at n : ℕ) → Left call at n at 0
left-all {call} at n = let l : n - 0 ≡ n = omega arith in record { rest = λ r t. subst (λ j. Times call at j r) l t }

module _ {call : ℕ → Result ℕ Reason → Type 0} {at n next k : ℕ} (i : Left call at n next k) where
  pub left-more : {e : ℕ} → k < n → call next (Ok e) → Left call at n e (k + 1)
  left-more h p =
      let l : suc (n - (k + 1)) ≡ n - k = omega arith in
      record { rest = λ r t. i.rest r (subst (λ j. Times call next j r) l (Times.more p t)) }

  pub left-stop : {e : Reason} → k < n → call next (Err e) → Times call at n (Err e)
  left-stop {e} h p =
      let l : suc (n - (k + 1)) ≡ n - k = omega arith in
      i.rest (Err e) (subst (λ j. Times call next j (Err e)) l (Times.stop p))

  pub left-none : n ≤ k → Times call at n (Ok next)
  left-none h = let l : 0 ≡ n - k = omega arith in i.rest (Ok next) (subst (λ j. Times call next j (Ok next)) l Times.none)

module _ {A : Type 0} (frame : List ℕ) {m : Reader A} (s : Field m) (at n : ℕ) where
  pub repeat-lands : {next : ℕ} {r : FormEnd} → at ≤ length frame → r ≡ skipped frame at (repeated n m) → r ≡ FormEnd.next next → Landed frame (repeated n m) at next
  repeat-lands h p q = lands frame (ends-times s.ends n) at _ h (sym p ∙ q)

-- each call ends where the reader ends, and so do all of them
pub times-skip : {A : Type 0} (frame : List ℕ) {m : Reader A} → Field m → {call : ℕ → Result ℕ Reason → Type 0}
    → ((at : ℕ) (r : Result ℕ Reason) → call at r → skip_told r ≡ skipped frame at m)
    → {at n : ℕ} {r : Result ℕ Reason} → at ≤ length frame → Times call at n r → skip_told r ≡ skipped frame at (repeated n m)
times-skip frame s says {at} h Times.none = sym (next-is frame (done []) at at h refl)
times-skip frame {m} s says {at} h (Times.more {next = next} {n = n} p t) =
    let e : FormEnd.next next ≡ skipped frame at m = says at _ p in
    times-skip frame s says (field-lands frame s at next (sym e)).inside t ∙ sym (then-more frame s at e refl (repeated n m))
times-skip frame {m} s says {at} h (Times.stop p) = sym (then-stop frame m _ at _ (says at _ p) refl)

-- ---- a grouping column: the place of an expression, read as a place

pub place-skips : (frame cols : List ℕ) (at : ℕ) → skipped frame at (place cols) ≡ skipped frame at (place_field cols)
place-skips frame cols at = level-at frame at (level-bind (byte_if 6 (λ i. ltb i (length cols))) (λ i. record {
  same = λ f bs.
      (level-done (column i) (Expr.column i)).same f bs ∙ sym ((level-done (column i) (λ c. record { item = i; column = c })).same f bs);
}))
  where
    column : ℕ → Reader ℕ
    column i = byte_if 6 (λ c. ltb c (get_or cols i 0))

pub place-field : (cols : List ℕ) → Field (place_field cols)
place-field cols =
    field-bind (field-if 6 (λ i. ltb i (length cols))) (λ i. ends-bind (field-if 6 (λ c. ltb c (get_or cols i 0))).ends (λ c. ends-done (record { item = i; column = c })))

-- ---- a condition, grouping columns, expressions, the end

module _ (frame : List ℕ) (o : Open) (at : ℕ) where
  module _ (m : ℕ) {n : ℕ} {r : FormEnd} (p : r ≡ skipped frame at (repeated m (read_e o))) where
    pub select-next : {v : ℕ} → at ≤ length frame → r ≡ FormEnd.next n → v ≡ fault_at frame n (ending n) → v ≡ fault_at frame at (select_end o m)
    unfolding select_end
    select-next h q e = e ∙ sym (fault-next frame (repeat-lands frame (field_e o) at m h p q) (λ es. ending es) (λ es. end-any frame n es n))

    pub select-stop : r ≡ FormEnd.refused n → n ≡ fault_at frame at (select_end o m)
    unfolding select_end
    select-stop q = sym (fault-stop frame (repeated m (read_e o)) (λ es. ending es) at n p q)

  module _ {n : ℕ} {r : FormEnd} (p : r ≡ skipped frame at (read_c o)) where
    landed : r ≡ FormEnd.next n → Landed frame (read_c o) at n
    landed q = field-lands frame (field_c o) at n (sym p ∙ q)

    pub condition-inside : r ≡ FormEnd.next n → n ≤ length frame
    condition-inside q = (landed q).inside

    module _ (m : ℕ) where
      pub condition-next : {v : ℕ} → r ≡ FormEnd.next n → v ≡ fault_at frame n (select_end o m) → v ≡ fault_at frame at (condition_select o m)
      unfolding condition_select
      condition-next q e = e ∙ sym (fault-next frame (landed q) (λ w. select_end o m) (λ w. refl))

      pub condition-stop : r ≡ FormEnd.refused n → n ≡ fault_at frame at (condition_select o m)
      unfolding condition_select
      condition-stop q = sym (fault-stop frame (read_c o) (λ w. select_end o m) at n p q)

      module _ (g : ℕ) where
        pub where-stop : r ≡ FormEnd.refused n → n ≡ fault_at frame at (where_groups o g m)
        unfolding where_groups
        where-stop q = sym (fault-stop frame (read_c o) (λ w. repeated g (place_field o.widths) >>= λ gs. condition_select o m) at n p q)

        module _ {s : FormEnd} (q : r ≡ FormEnd.next n) (t : s ≡ skipped frame n (repeated g (place_field o.widths))) where
          at_places : fault_at frame at (where_groups o g m) ≡ fault_at frame n (repeated g (place_field o.widths) >>= λ gs. condition_select o m)
          unfolding where_groups
          at_places = fault-next frame (landed q) (λ w. repeated g (place_field o.widths) >>= λ gs. condition_select o m) (λ w. refl)

          pub groups-next : {k v : ℕ} → s ≡ FormEnd.next k → v ≡ fault_at frame k (condition_select o m) → v ≡ fault_at frame at (where_groups o g m)
          groups-next u e =
              e ∙ sym (at_places ∙ fault-next frame (repeat-lands frame (place-field o.widths) n g (landed q).inside t u) (λ gs. condition_select o m) (λ gs. refl))

          pub groups-stop : {k : ℕ} → s ≡ FormEnd.refused k → k ≡ fault_at frame at (where_groups o g m)
          groups-stop u = sym (at_places ∙ fault-stop frame (repeated g (place_field o.widths)) (λ gs. condition_select o m) n _ t u)
