-- What one frame does, from what its parts do.
--     turned-refused, turned-done     a frame of one kind whose turn has come
--     stepped-empty, stepped-turn, stepped-body    any frame
-- Assumes nothing.
use mathlib.Core.Path.{◌≡◌, refl, sym, ap, ap₂, subst, ◌∙◌}
use mathlib.Core.Bool.{true}
use mathlib.Core.List.{List, [], ◌∷◌}
use mathlib.Core.Logic.{inl, inr, ⊎_elim}
use Prim.Native.Nat.{ℕ, ◌<◌}
use native.Mathlib.Omega.{arith}
use lib.ListN.{length, get_or, set, drop, length-set}
use lib.Seq.{set_out}
use Rattle.language.specs.Reading.{Read}
use Rattle.language.specs.Draft.{Draft, Item, added, in_order, has_room}
use Rattle.language.specs.Frames.{frame, whole_fault}
use Rattle.language.specs.Check.{Checked, check_frame, read_checked}
use Rattle.checker.specs.Catalogued.{Catalogued, checked_fault, body_fault}
use Rattle.catalog.specs.Relations.{relation_at, start_at}
use Rattle.catalog.proofs.RelationLaws.{put-there, put-other}
use Rattle.meaning.proofs.Stacks.{by-lt}
use Rattle.checker.specs.ViewFaults.{own_kind}
use Rattle.catalog.specs.Kinds.{groups_rows, kind_at, number_of as kind_number}
use Rattle.catalog.specs.declared.kind.Kind.{Kind}
use Rattle.catalog.specs.declared.kind.ViewKind.{ViewKind}
use Rattle.catalog.proofs.KindNumbers.{kind-number}
use Rattle.checker.specs.Standing.{Counts, DraftIn, OnlyRelation, Turned, Stepped, turn_fault}
use Rattle.checker.specs.declared.state.Progress.{Progress}
use Rattle.std.proofs.Common.{Result, Ok, Err, Some}
use Rattle.text.specs.Refusals.{number_of}
use Rattle.text.specs.declared.refusal.Reason.{Reason}
use Rattle.text.specs.declared.refusal.Reason.TheVariants.{Form}
use Rattle.checker.specs.Faults.{fault_told}
use Rattle.checker.proofs.FaultLaws.{number-some}
use Rattle.checker.proofs.FitLaws.{fits_next}
use Rattle.checker.proofs.StandingLaws.{turn-passed, turn-refused}
use Rattle.language.proofs.Steps.{Taken, Looked, looked, whole-zero}
use Rattle.catalog.specs.declared.relation.Relation.{Relation}

-- ---- what a frame that is taken adds

taken_of : {d : Draft} {f : List ℕ} {c : Checked} {e : Draft} → Looked d f c → c ≡ Checked.next e → (i : Item) × Taken d f i × (added d i ≡ e)
taken_of (Looked.fault l h) q = let z : ◌≡◌ {A = ℕ} 0 1 = cc in absurd (omega arith)
taken_of (Looked.next {i} t) q = (i, t, cc)

reads_same : (d : Draft) (k j : ℕ) (bs cs : List ℕ) (m : Read Item) → k ∷ bs ≡ j ∷ cs → frame d j cs ≡ m → frame d k bs ≡ m
reads_same d k j bs cs m e r = let p : k ≡ j = cc in let q : bs ≡ cs = cc in ap₂ (frame d) p q ∙ r

-- ---- which relations may change

pub only_none : {r : ℕ} {rs : List Relation} → OnlyRelation r rs rs
only_none = record { size = refl; others = λ i n. refl; place = inr refl }

-- whatever relation is stored
pub only-stored : (r : ℕ) (x : Relation) (rs : List Relation)
    → (length (set rs r x) ≡ length rs) × ((i : ℕ) → (i ≡ r → ⊥) → relation_at (set rs r x) i ≡ relation_at rs i)
only-stored r x rs = (length-set rs r x, λ i n. put-other rs r i x n)

-- one whose frame has no place yet
pub only-entered : (r : ℕ) (x : Relation) (rs : List Relation) → x.start ≡ 0 → OnlyRelation r rs (set rs r x)
only-entered r x rs z = record {
  size = (only-stored r x rs).0;
  others = (only-stored r x rs).1;
  place = by-lt r (length rs)
      (λ _ l. inl (ap (λ (y : Relation). y.start) (put-there rs r x l) ∙ z))
      (λ _ l. inr (ap (λ ys. start_at ys r) (set_out rs r x l)));
}

-- one change and then another
pub only-more : {r : ℕ} {a b c : List Relation} → OnlyRelation r a b → OnlyRelation r b c → OnlyRelation r a c
only-more p q = record {
  size = q.size ∙ p.size;
  others = λ i n. q.others i n ∙ p.others i n;
  place = ⊎_elim inl (λ e. ⊎_elim (λ z. inl (e ∙ z)) (λ z. inr (e ∙ z)) p.place) q.place;
}

-- n is the fault of the frame's body
abbrev pub Found : ℕ → List ℕ → Progress → List Relation → ℕ → Type 0
Found k f s relations n = (d : Draft) → DraftIn d s relations → in_order d k ≡ true → has_room d k ≡ true → n ≡ body_fault d (frame d k) f

-- an answer that refuses, and one that does not
module _ {k : ℕ} {f : List ℕ} {s : Progress} {relations : List Relation} where
  pub turned-refused : (r : Result Progress Reason) (e : Reason) → r ≡ Err e → Found k f s relations (number_of e) → Turned k f s relations relations r
  turned-refused r e p found = record { only = only_none; kept = λ n q. refl; fault = λ d h o q. ap fault_told p ∙ found d h o q; next = λ d i t w. absurd (cc) }

  pub turned-done : {relations' : List Relation} (s' : Progress) → OnlyRelation s.relations relations relations' → Found k f s relations 0
      → ((d : Draft) (i : Item) → DraftIn d s relations → in_order d k ≡ true → has_room d k ≡ true → frame d k (drop 1 f) ≡ Read.ok i []
      → whole_fault d i ≡ 0 → Counts (added d i) s' × Catalogued (added d i) relations')
      → Turned k f s relations relations' (Ok s')
  turned-done {relations'} s' only found next = record {
    only = only;
    kept = λ n q. absurd (cc);
    fault = found;
    next = λ d i t w h o q reads whole. let e : s' ≡ t = cc in subst (λ (x : Progress). Counts (added d i) x × Catalogued (added d i) relations') e (next d i h o q reads whole);
  }

-- ---- any frame

module _ {f : List ℕ} {s : Progress} {relations : List Relation} where
  stopped : (r : Result Progress Reason) (e : Reason) → r ≡ Err e → ((d : Draft) → DraftIn d s relations → check_frame d f ≡ Checked.fault (number_of e))
      → Stepped f s relations relations r
  stopped r e p c = record { only = only_none; kept = λ n q. refl; fault = λ d h. ap fault_told p ∙ sym (ap checked_fault (c d h)); next = λ d g t w. absurd (cc) }

  pub stepped-empty : length f ≡ 0 → Stepped f s relations relations (Err Form)
  unfolding check_frame
  stepped-empty e = stopped (Err Form) Form refl (λ d h. at f e d)
    where
      at : (f : List ℕ) → length f ≡ 0 → (d : Draft) → check_frame d f ≡ Checked.fault 4
      at [] e d = refl
      at (x ∷ xs) e d = absurd (omega arith)

-- a frame is its kind and its bytes
cut : (f : List ℕ) → 0 < length f → f ≡ get_or f 0 0 ∷ drop 1 f
cut [] h = absurd (omega arith)
cut (x ∷ xs) h = refl

body-checked : (f : List ℕ) → 0 < length f → (d : Draft) → in_order d (get_or f 0 0) ≡ true → has_room d (get_or f 0 0) ≡ true
    → check_frame d f ≡ read_checked d (frame d (get_or f 0 0) (drop 1 f))
unfolding check_frame
body-checked f some d o r = ap (check_frame d) (cut f some) ∙ rw (o, r)

module _ {f : List ℕ} {s : Progress} {relations : List Relation} (some : 0 < length f) where
  pub stepped-turn : (r : Result Progress Reason) (e : Reason) → r ≡ Err e → number_of e ≡ turn_fault s (get_or f 0 0) → Stepped f s relations relations r
  stepped-turn r e p q = stopped r e p
      (λ d h. ap (check_frame d) (cut f some) ∙ turn-refused h.counts (get_or f 0 0) (drop 1 f) (λ z. number-some e (q ∙ z)) ∙ ap Checked.fault (sym q))

  pub stepped-body : (relations' : List Relation) (r : Result Progress Reason) → 0 ≡ turn_fault s (get_or f 0 0)
      → Turned (get_or f 0 0) f s relations relations' r → Stepped f s relations relations' r
  unfolding body_fault
  stepped-body relations' r z t = record {
    only = t.only;
    kept = t.kept;
    fault = λ d h.
        let p = turn-passed h.counts (get_or f 0 0) (sym z) in
        t.fault d h p.0 p.1 ∙ ap checked_fault (sym (body-checked f some d p.0 p.1));
    next = λ d g u w h q.
        let k = get_or f 0 0 in
        let p = turn-passed h.counts k (sym z) in
        let (i, taken, same) = taken_of (looked d f) q in
        let reads : frame d k (drop 1 f) ≡ Read.ok i [] = reads_same d k taken.kind (drop 1 f) taken.bytes (Read.ok i []) (sym (cut f some) ∙ taken.cut) taken.reads in
        let (counts, catalogued) = t.next d i u w h p.0 p.1 reads (whole-zero d i taken.whole) in
        record {
          counts = subst (λ (x : Draft). Counts x u) same counts;
          catalogued = subst (λ (x : Draft). Catalogued x relations') same catalogued;
          fits = fits_next d g f h.fits q;
        };
  }

-- ---- any kind

pub turned_same : {f : List ℕ} {s : Progress} {relations relations' : List Relation} {r : Result Progress Reason} {k j : ℕ} → k ≡ j
    → Turned j f s relations relations' r → Turned k f s relations relations' r
turned_same {f} {s} {relations} {relations'} {r} e t = subst (λ (i : ℕ). Turned i f s relations relations' r) (sym e) t

-- the kind of a number
pub turned_kind : {f : List ℕ} {s : Progress} {relations relations' : List Relation} {r : Result Progress Reason} (k : ℕ) (x : Kind) → kind_at k ≡ Some x
    → Turned (kind_number x) f s relations relations' r → Turned k f s relations relations' r
turned_kind k x e t = turned_same (kind-number k x e) t

own-number : (x : ViewKind) → own_kind (groups_rows x) ≡ kind_number (Kind.View x)
own-number ViewKind.Basic = refl
own-number ViewKind.Aggregate = refl

pub turned-view : {f : List ℕ} {s : Progress} {relations relations' : List Relation} {r : Result Progress Reason} {k : Kind} (x : ViewKind) → k ≡ Kind.View x
    → Turned (own_kind (groups_rows x)) f s relations relations' r → Turned (kind_number k) f s relations relations' r
turned-view x e t = turned_same (ap kind_number e ∙ sym (own-number x)) t
