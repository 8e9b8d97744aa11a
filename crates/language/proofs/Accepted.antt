-- What an accepted outcome says.
--     accepted-candidates    N is at most 2^24
--     accepted-well_formed    the file is one that the theorems of meaning are about
--     drafted                of frames of bytes: the draft is legal, and they are its frames
--     accepted-legal         the file is legal
--     accepted-written       and the frames are those of the file
-- Assumes nothing.
use mathlib.Core.Path.{◌≡◌, refl, sym, ap, subst, ◌∙◌}
use mathlib.Core.Bool.{Bool, true}
use mathlib.Core.List.{List, [], ◌∷◌, ◌++◌, map, map-append, append_assoc, append-nil}
use mathlib.Core.Option.{Option, none, some}
use Prim.Native.Nat.{ℕ, ◌≤◌}
use borrow.Author.Tests.{lt-ltb}
use Rattle.value.specs.Bag.{All}
use Rattle.value.proofs.Decides.{and_both}
use Rattle.meaning.specs.Lists.{stack_all}
use Rattle.meaning.specs.Syntax.{Table, ForeignKey, View, Goal, File}
use Rattle.meaning.specs.Bounds.{Schema, view_schema, ordered, earlier, same_width, aggregates_fit, bounded, ranges_fit, well_formed}
use Rattle.meaning.specs.Candidates.{candidates}
use Rattle.meaning.proofs.Elements.{all-given}
use Rattle.language.proofs.Readers.{Byte}
use Rattle.language.specs.Draft.{Draft, Item, empty, added, file_at}
use Rattle.language.specs.Check.{Outcome, Reached, candidate_limit, reach, check_all}
use Rattle.language.specs.Legal.{LegalTable, LegalKey, LegalView, EveryView, Legal}
use Rattle.language.specs.Written.{table_bytes, key_bytes, view_bytes, goal_bytes, file_frames}
use Rattle.language.proofs.FairFrames.{all_true}
use Rattle.language.proofs.Folds.{fold-kept, Ended, accepted-came, Kept, kept-empty, Obeys, kept_step}
use Rattle.language.proofs.Steps.{ViewRules, Lawful, Taken, step-bytes}
use Rattle.language.proofs.Turns.{item_bytes, Turn}

-- ---- without regard to bytes

abbrev WellTable : Table → Type 0
WellTable t = ordered t ≡ true

abbrev WellKey : List Table → ForeignKey → Type 0
WellKey ts k = Unit {0}

record WellView (t : ℕ) (ss : List Schema) (q : View) : Type 0 where
  names : earlier ss q ≡ true
  rules : ViewRules ss q

abbrev WellDraft : Draft → Type 0
WellDraft d = Kept WellTable WellKey WellView d

well-obeys : (d : Draft) (f : List ℕ) (i : Item) → Taken d f i → Obeys WellTable WellKey WellView d i
well-obeys d f (Item.table x) t = t.well
well-obeys d f (Item.key x) t = tt
well-obeys d f (Item.view x) t = record { names = t.well; rules = t.whole }
well-obeys d f (Item.goal x) t = t.well

module _ (fs : List (List ℕ)) (F : File) (a : check_all fs ≡ Outcome.accepted F) where
  well-end : (d : Draft) × WellDraft d × Ended d F
  well-end =
      let (d, q, n) = accepted-came fs F a in
      let k : WellDraft d = fold-kept (λ f. Unit {0}) (λ d _. WellDraft d)
      (λ d f i _ _ t k. kept_step WellTable WellKey WellView d i k t.turn (well-obeys d f i t))
      fs empty 1 [] d (all-given (λ f. tt) fs) (kept-empty WellTable WellKey WellView) q in
      (d, k, n)

  pub accepted-candidates : candidates F ≤ candidate_limit
  accepted-candidates = let (d, k, n) = well-end in n.number

every_true : {P : List Schema → View → Type 0} (p : List Schema → View → Bool) → ((ss : List Schema) (q : View) → P ss q → p ss q ≡ true)
    → {qs : List View} {ss : List Schema} → EveryView P qs ss → stack_all view_schema p qs ss ≡ true
every_true p f EveryView.none = refl
every_true p f (EveryView.more {q = q} {ss = ss} h hs) = and_both (f ss q h) (every_true p f hs)

well-file : (d : Draft) (g : Goal) → WellDraft d → d.goal ≡ some g → well_formed (file_at d g) ≡ true
unfolding well_formed
well-file d g k e =
    and_both (all_true ordered k.tables)
    (and_both (every_true earlier (λ ss q h. h.names) k.views)
    (and_both (every_true same_width (λ ss q h. h.rules.width) k.views)
    (and_both (every_true aggregates_fit (λ ss q h. h.rules.aggregates) k.views)
    (and_both (every_true bounded (λ ss q h. h.rules.bound) k.views)
    (and_both (every_true ranges_fit (λ ss q h. h.rules.ranges) k.views)
    (lt-ltb g.view _ (k.goal g e).before))))))

pub accepted-well_formed : (fs : List (List ℕ)) (F : File) → check_all fs ≡ Outcome.accepted F → well_formed F ≡ true
accepted-well_formed fs F a =
    let (d, k, n) = well-end fs F a in
    subst (λ (G : File). well_formed G ≡ true) n.file (well-file d n.goal k n.named)

-- ---- of bytes

abbrev pub LegalDraft : Draft → Type 0
LegalDraft d = Kept LegalTable LegalKey LegalView d

pub lawful-obeys : (d : Draft) (i : Item) → Lawful d i → Obeys LegalTable LegalKey LegalView d i
lawful-obeys d (Item.table x) h = h
lawful-obeys d (Item.key x) h = h
lawful-obeys d (Item.view x) h = h
lawful-obeys d (Item.goal x) h = h

pub legal-file : (d : Draft) (g : Goal) → LegalDraft d → d.goal ≡ some g → candidates (file_at d g) ≤ candidate_limit → Legal (file_at d g)
legal-file d g k e n =
    record {
      relation_count = k.relations;
      key_count = k.key_count;
      tables = k.tables;
      keys = k.keys;
      views = k.views;
      goal = k.goal g e;
      number = n;
    }

-- ---- the frames of a draft

abbrev pub goal_frames : Option Goal → List (List ℕ)
goal_frames none = []
goal_frames (some g) = goal_bytes g ∷ []

abbrev pub draft_frames : Draft → List (List ℕ)
draft_frames d = map table_bytes d.tables ++ map key_bytes d.keys ++ map view_bytes d.views ++ goal_frames d.goal

-- a frame in its turn stands last
pub frames-added : (d : Draft) (i : Item) → Turn d i → draft_frames (added d i) ≡ draft_frames d ++ (item_bytes i ∷ [])
frames-added d (Item.table t) u = rw (u.keys, u.views, u.goal) (simp (map-append, append-nil))
frames-added d (Item.key k) u = rw (u.views, u.goal) (simp (map-append, append-nil, append_assoc))
frames-added d (Item.view q) u = rw u.goal (simp (map-append, append-nil, append_assoc))
frames-added d (Item.goal g) u = rw u (simp (append-nil))

-- those of a draft with its goal are those of the file
pub draft-file : (d : Draft) (g : Goal) → d.goal ≡ some g → draft_frames d ≡ file_frames (file_at d g)
unfolding file_frames
draft-file d g e = rw e

-- a legal draft, and its frames
pub record Drafted (d : Draft) (fs : List (List ℕ)) : Type 0 where
  pub legal : LegalDraft d
  pub frames : fs ≡ draft_frames d

drafted-on : (d : Draft) (f : List ℕ) (i : Item) (before : List (List ℕ)) → All Byte f → Taken d f i → Drafted d before → Drafted (added d i) (before ++ (f ∷ []))
drafted-on d f i before b t w =
    let (is, lawful) = step-bytes d f i b t in
    record {
      legal = kept_step LegalTable LegalKey LegalView d i w.legal t.turn (lawful-obeys d i lawful);
      frames = ap (λ (x : List (List ℕ)). x ++ (f ∷ [])) w.frames ∙ ap (λ (x : List ℕ). draft_frames d ++ (x ∷ [])) is ∙ sym (frames-added d i t.turn);
    }

pub drafted : (fs : List (List ℕ)) (d : Draft) → All (All Byte) fs → reach fs empty 1 ≡ Reached.came d → Drafted d fs
drafted fs d all q =
    fold-kept (All Byte) Drafted drafted-on fs empty 1 [] d all (record { legal = kept-empty LegalTable LegalKey LegalView; frames = refl }) q

module _ (fs : List (List ℕ)) (F : File) (all : All (All Byte) fs) (a : check_all fs ≡ Outcome.accepted F) where
  pub accepted-legal : Legal F
  accepted-legal =
      let (d, q, n) = accepted-came fs F a in
      subst Legal n.file
      (legal-file d n.goal (drafted fs d all q).legal n.named (subst (λ (G : File). candidates G ≤ candidate_limit) (sym n.file) n.number))

  pub accepted-written : fs ≡ file_frames F
  accepted-written =
      let (d, q, n) = accepted-came fs F a in
      (drafted fs d all q).frames ∙ draft-file d n.goal n.named ∙ ap file_frames n.file
