-- The walk over packed frames.
--     Left    the frames that are left, and the draft that those before them make
-- Assumes nothing.
use mathlib.Core.Path.{◌≡◌, refl, sym, ap, ap₂, subst, ◌∙◌}
use mathlib.Core.List.{List, [], ◌∷◌, ◌++◌, append_assoc}
use Prim.Native.Nat.{ℕ, zero, suc, ◌+◌, ◌-◌, ◌≤◌, ◌<◌}
use native.Mathlib.Numerals.{add-one}
use native.Mathlib.Omega.{arith}
use lib.Dec.{eqb}
use lib.ListN.{length, get_or, drop, length-drop, drop_of_length-le}
use borrow.Author.Tests.{eqb-true, eqb-false}
use Rattle.value.proofs.Decides.{by-test}
use Rattle.value.proofs.Places.{byte-here}
use Rattle.text.specs.Answers.{pack}
use Rattle.language.specs.Draft.{Draft, empty}
use Rattle.language.specs.Check.{Checked, check_frame, Reached, onward, reach}
use Rattle.catalog.specs.Relations.{put_start}
use Rattle.catalog.specs.Frames.{frame_at}
use Rattle.catalog.proofs.RelationLaws.{start-there, start-other, start-known, known-same, known-more}
use Rattle.catalog.proofs.FrameLaws.{pack-cons, frame_here}
use Rattle.checker.specs.Catalogued.{checked_fault}
use Rattle.checker.specs.Standing.{DraftIn, Stepped, start_progress}
use Rattle.checker.specs.Plans.{WalkedTo, start_from, frame_number, put_starts, StartsPut}
use Rattle.checker.specs.declared.state.Progress.{Progress}
use Rattle.std.proofs.Common.{Result, Ok, Err}
use Rattle.text.specs.Refusals.{number_of}
use Rattle.text.specs.declared.refusal.Reason.{Reason}
use Rattle.text.specs.declared.refusal.Refusal.{Refusal}
use Rattle.checker.specs.Faults.{fault_told}
use Rattle.checker.proofs.FaultLaws.{number-some}
use Rattle.language.proofs.Steps.{Looked, looked}
use Rattle.catalog.specs.declared.relation.Relation.{Relation}

no : {A : Type 0} → ◌≡◌ {A = ℕ} 0 1 → A
no z = absurd (omega arith)

-- ---- the frame at a place

-- f is the first of the frames that are left
record Head (packed : List ℕ) (at : ℕ) (f : List ℕ) (rest : List (List ℕ)) : Type 0 where
  others : List (List ℕ)
  split : rest ≡ f ∷ others
  next : drop (at + 1 + length f) packed ≡ pack others

head_of : (packed : List ℕ) (at : ℕ) (f : List ℕ) (rest : List (List ℕ)) → at < length packed → f ≡ frame_at packed at → drop at packed ≡ pack rest
    → Head packed at f rest
unfolding pack
head_of packed at f [] h is e = absurd (omega (arith, ap length e, length-drop at packed))
head_of packed at f (g ∷ fs) h is e =
    let (here, next) = frame_here packed at g (pack fs) e in
    let same : f ≡ g = is ∙ here in
    record { others = fs; split = ap (λ (x : List ℕ). x ∷ fs) (sym same); next = ap (λ (x : List ℕ). drop (at + 1 + length x) packed) same ∙ next }

-- ---- one turn of the walk

pub record Left (packed : List ℕ) (s : Progress) (rs : List Relation) (at line : ℕ) (fs : List (List ℕ)) : Type 0 where
  pub rest : List (List ℕ)
  pub draft : Draft
  pub bytes : drop at packed ≡ pack rest
  pub same : reach fs empty 1 ≡ reach rest draft (suc line)
  pub held : DraftIn draft s rs

-- a draft with no fault goes on
next_of : {d : Draft} {f : List ℕ} {c : Checked} → Looked d f c → checked_fault c ≡ 0 → (e : Draft) × (c ≡ Checked.next e)
next_of (Looked.fault l h) z = absurd (omega arith)
next_of (Looked.next {i} t) z = (_, refl)

fault-of : (c : Checked) {n : ℕ} → n ≡ checked_fault c → (n ≡ 0 → ⊥) → c ≡ Checked.fault n
fault-of (Checked.fault m) e z = ap Checked.fault (sym e)
fault-of (Checked.next d) e z = absurd (z e)

module _ (packed : List ℕ) (s : Progress) (rs : List Relation) (at line : ℕ) (fs : List (List ℕ)) (h : Left packed s rs at line fs) where
  module _ (k : at < length packed) (f : List ℕ) (is : f ≡ frame_at packed at) where
    front : Head packed at f h.rest
    front = head_of packed at f h.rest k is h.bytes

    -- the rest of the walk
    onwards : Checked → Reached
    onwards = onward (λ e. reach front.others e (suc (suc line))) (suc line)

    first_step : reach fs empty 1 ≡ onwards (check_frame h.draft f)
    unfolding reach onwards
    first_step = h.same ∙ ap (λ r. reach r h.draft (suc line)) front.split

    module _ (rs' : List Relation) (r : Result Progress Reason) (t : Stepped f s rs rs' r) where
      pub walk-stops : (e : Reason) → r ≡ Err e → (x : Refusal) → x ≡ record { reason = e; line = line + 1 } → WalkedTo (reach fs empty 1) (Err x) rs'
      unfolding onwards
      walk-stops e p x q =
          let c : check_frame h.draft f ≡ Checked.fault (number_of e) = fault-of (check_frame h.draft f) (sym (ap fault_told p) ∙ t.fault h.draft h.held) (number-some e) in
          let a : reach fs empty 1 ≡ Reached.stopped (number_of e) (suc line) = first_step ∙ ap onwards c in
          rw a (ap (λ (y : Refusal). number_of y.reason) q, ap (λ (y : Refusal). y.line) q ∙ omega arith)

      pub walk-goes : (u : Progress) → r ≡ Ok u → Left packed u rs' (at + 1 + length f) (line + 1) fs
      unfolding onwards
      walk-goes u p =
          let (e, c) = next_of (looked h.draft f) (sym (t.fault h.draft h.held) ∙ ap fault_told p) in
          let n : suc (suc line) ≡ suc (line + 1) = omega arith in
          record {
            rest = front.others;
            draft = e;
            bytes = front.next;
            same = first_step ∙ ap onwards c ∙ ap (reach front.others e) n;
            held = t.next h.draft e u p h.held c;
          }

  over : length packed ≤ at → h.rest ≡ []
  unfolding pack
  over k = go h.rest (sym (drop_of_length-le packed k) ∙ h.bytes)
    where
      go : (r : List (List ℕ)) → [] ≡ pack r → r ≡ []
      go [] e = refl
      go (f ∷ fs) e = no cc

  pub walk_ends : length packed ≤ at → WalkedTo (reach fs empty 1) (Ok s) rs
  unfolding reach
  walk_ends k =
      let e : reach fs empty 1 ≡ Reached.came h.draft = h.same ∙ ap (λ r. reach r h.draft (suc line)) (over k) in
      rw e h.held

pub walk_begins : (packed : List ℕ) (rs : List Relation) (s : Progress) → s ≡ start_progress → (fs : List (List ℕ)) → packed ≡ pack fs → DraftIn empty start_progress rs
    → Left packed s rs 0 0 fs
walk_begins packed rs s e fs p h =
    record { rest = fs; draft = empty; bytes = p; same = refl; held = subst (λ (x : Progress). DraftIn empty x rs) (sym e) h }

-- ---- where frames begin

-- behind n of the frames that are left; the bytes may go on behind them
pub start_back : (bytes tail : List ℕ) (n at : ℕ) (rest : List (List ℕ)) → drop at bytes ≡ pack rest ++ tail → n ≤ length rest
    → drop (start_from bytes at n) bytes ≡ pack (drop n rest) ++ tail
unfolding start_from
start_back bytes tail zero at rest e h = e
start_back bytes tail (suc n) at [] e h = absurd (omega arith)
start_back bytes tail (suc n) at (f ∷ fs) e h =
    let here : drop at bytes ≡ length f ∷ f ++ (pack fs ++ tail) =
    e ∙ ap (λ (l : List ℕ). l ++ tail) (pack-cons f fs) ∙ ap (λ (l : List ℕ). length f ∷ l) (append_assoc f (pack fs) tail) in
    let i : at + get_or bytes at 0 + 1 ≡ at + 1 + length f = omega (arith, (byte-here bytes at here).0) in
    ap (λ j. drop (start_from bytes j n) bytes) i ∙ start_back bytes tail n (at + 1 + length f) fs (frame_here bytes at f (pack fs ++ tail) here).1 (omega arith)

pub starts_none : (packed : List ℕ) (tables keys : ℕ) (rs : List Relation) → StartsPut packed tables keys 0 rs rs
unfolding put_starts
starts_none packed tables keys rs = record { relations-are = refl; known = known-same rs; there = λ r h. absurd (omega arith) }

pub starts_more : (packed : List ℕ) (tables keys n : ℕ) (rs rs₁ rs₂ : List Relation) (x y : ℕ) → StartsPut packed tables keys n rs rs₁
    → y ≡ frame_number tables keys n → x ≡ start_from packed 0 y → rs₂ ≡ put_start rs₁ n x → StartsPut packed tables keys (n + 1) rs rs₂
unfolding put_starts
starts_more packed tables keys n rs rs₁ rs₂ x y s f e p =
    let here : x ≡ start_from packed 0 (frame_number tables keys n) = e ∙ ap (start_from packed 0) f in
    record {
      relations-are = rw (add-one n) (p ∙ ap₂ (λ (l : List Relation) (at : ℕ). put_start l n at) s.relations-are here);
      known = rw p (known-more s.known (start-known rs₁ n x));
      there = λ r h z. by-test (eqb r n)
          (λ t. let q : r ≡ n = eqb-true r n t in rw (q, p) (start-there rs₁ n x (omega (arith, z, q, s.known.size)) ∙ here))
          (λ t. rw p (start-other rs₁ n x r (eqb-false r n t)) ∙ s.there r (omega (arith, eqb-false r n t)) z);
    }

-- frame k behind a place, and no more of n
pub start-turn : (packed : List ℕ) (at n k : ℕ) → k < n → start_from packed (at + get_or packed at 0 + 1) (n - (k + 1)) ≡ start_from packed at (n - k)
unfolding start_from
start-turn packed at n k h = let e : n - k ≡ suc (n - (k + 1)) = omega arith in rw e

pub start-end : (packed : List ℕ) (at n k : ℕ) → n ≤ k → at ≡ start_from packed at (n - k)
unfolding start_from
start-end packed at n k h = let e : n - k ≡ 0 = omega arith in rw e
