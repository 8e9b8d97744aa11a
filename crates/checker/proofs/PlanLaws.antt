-- A text and the plan of its file.
--     plan-refused, plan-stopped, plan-without-goal, plan-too-large, plan-done    the ways that a check ends
-- Assumes nothing.
use mathlib.Core.Path.{◌≡◌, refl, sym, ap, ap₂, subst, ◌∙◌}
use mathlib.Core.Bool.{Bool, true, false, cond}
use mathlib.Core.List.{List, ◌++◌}
use mathlib.Core.Option.{Option, none, some}
use Prim.Native.Nat.{ℕ, ◌≤◌, ◌<◌}
use native.Mathlib.Omega.{arith}
use lib.Dec.{leb}
use lib.ListN.{length, get_or, take, drop, replicate, take-append-drop}
use borrow.Author.Tests.{le-leb, lt-leb, leb-true, leb-false}
use Rattle.value.proofs.Decides.{by-test}
use Rattle.value.specs.Bag.{All}
use Rattle.value.proofs.Places.{get_d-all}
use Rattle.value.proofs.Values.{all_map}
use Rattle.text.specs.Text.{frames_of, Lines}
use Rattle.text.specs.Answers.{pack, Holds, Decoded}
use Rattle.text.specs.declared.Frames.{Frames}
use Rattle.text.proofs.Laws.{only-such}
use Rattle.text.proofs.Callers.{accepted, refused_as, used-fits, used-length}
use Rattle.meaning.specs.Syntax.{Table, ForeignKey, View, Goal}
use Rattle.meaning.specs.Bounds.{Schema}
use Rattle.meaning.specs.Candidates.{candidates}
use Rattle.meaning.proofs.Relations.{query-split}
use Rattle.language.specs.Draft.{Draft, empty, file_at, stage}
use Rattle.language.specs.Check.{Reached, candidate_limit, finished, reach, concluded, Outcome}
use Rattle.language.specs.FileOf.{outcome_of, file_of}
use Rattle.language.specs.Written.{file_frames}
use Rattle.language.proofs.Readers.{Byte}
use Rattle.language.proofs.Accepted.{LegalDraft, legal-file, draft-file, Drafted, drafted}
use Rattle.language.proofs.Turns.{draft, stage-views}
use Rattle.catalog.specs.Relations.{no_relation, start_at}
use Rattle.catalog.specs.Frames.{frame_at}
use Rattle.catalog.specs.FileIn.{TablesKnown, source_from, FileIn, goal_of}
use Rattle.catalog.specs.declared.plan.Plan.{Plan}
use Rattle.catalog.proofs.FileLaws.{table-schema, tables-in}
use Rattle.catalog.proofs.RelationLaws.{schema-kept, mask-kept}
use Rattle.checker.specs.CandidateCount.{within_limit, CandidatesOf}
use Rattle.checker.specs.Standing.{DraftIn, start_progress, stage_number}
use Rattle.checker.specs.Plans.{WalkedTo, Walks, start_from, frame_number, PlanFrom, Plans, PlansWhole}
use Rattle.std.proofs.Common.{Option as OptionHere, Some, None, Result, Ok, Err}
use Rattle.text.specs.declared.refusal.Refusal.{Refusal}
use Rattle.text.specs.declared.refusal.Reason.TheVariants.{Order, Candidates}
use Rattle.checker.specs.declared.state.Progress.{Progress}
use Rattle.checker.specs.declared.state.Stage.{Stage}
use Rattle.checker.specs.declared.state.Stage.TheVariants.{Tables, Keys, Views, Goal as GoalStage, Ended}
use Rattle.checker.proofs.EntryLaws.{none-entered}
use Rattle.checker.proofs.FitLaws.{fits-empty}
use Rattle.checker.proofs.StandingLaws.{counts-empty}
use Rattle.checker.proofs.FileInLaws.{view-there, keys-there}
use Rattle.catalog.specs.declared.relation.Relation.{Relation}

-- ---- the goal of a draft

goal-none : (ts : List Table) (ks : List ForeignKey) (qs : List View) (o : Option Goal) → (stage (draft ts ks qs o) ≡ 5 → ⊥) → o ≡ none
goal-none ts ks qs none h = refl
goal-none ts ks qs (some g) h = absurd (h refl)

goal-some : (ts : List Table) (ks : List ForeignKey) (qs : List View) (o : Option Goal) → stage (draft ts ks qs o) ≡ 5 → (g : Goal) × (o ≡ some g)
goal-some ts ks qs none h = absurd (omega (arith, stage-views ts ks qs))
goal-some ts ks qs (some g) h = (g, refl)

-- a draft with its goal: what its number of candidates decides
finished-some : (d : Draft) (g : Goal) → d.goal ≡ some g → (c : Bool) → leb (candidates (file_at d g)) candidate_limit ≡ c
    → finished d d.goal ≡ cond c (Outcome.accepted (file_at d g)) (Outcome.refused 10 0)
finished-some d g e c t = rw (e, t)

-- the last stage by its number
ended : (t : Stage) → stage_number t ≡ 5 → t ≡ Ended
ended Tables e = absurd (omega arith)
ended Keys e = absurd (omega arith)
ended Views e = absurd (omega arith)
ended GoalStage e = absurd (omega arith)
ended Ended e = refl

-- a number that is not too large, and one that is
limit-some : (n k : ℕ) → within_limit n ≡ Some k → (k ≡ n) × (n ≤ candidate_limit)
unfolding within_limit
limit-some n k e = by-test (leb n candidate_limit)
    (λ t. let q : Some n ≡ Some k = rw t at e in (cc, leb-true n candidate_limit t))
    (λ t. let q : None ≡ Some k = rw t at e in absurd (cc))

limit-none : (n : ℕ) → within_limit n ≡ None → candidate_limit < n
unfolding within_limit
limit-none n e = by-test (leb n candidate_limit)
    (λ t. let q : Some n ≡ None = rw t at e in absurd (cc))
    (λ t. leb-false n candidate_limit t)

-- ---- the ways that a check ends

pub plan-refused : (text : List ℕ) (p : Result Plan Refusal) (x : Refusal) → p ≡ Err x → Decoded (frames_of text) (Err x) → Plans (file_of text) p
unfolding file_of
plan-refused text p x a d = rw (refused_as text x d, a) (refl, refl)

module _ (text : List ℕ) (r : Frames) (fs : List (List ℕ)) (e : frames_of text ≡ Lines.frames fs) (h : Holds fs r) (relations : List Relation) where
  outcome : file_of text ≡ concluded (reach fs empty 1)
  unfolding file_of
  outcome = ap outcome_of e

  pub plan-stopped : (p : Result Plan Refusal) (x : Refusal) → WalkedTo (reach fs empty 1) (Err x) relations → p ≡ Err x → Plans (file_of text) p
  plan-stopped p x t a = rw (outcome, a) (go (reach fs empty 1) t)
    where
      go : (y : Reached) → WalkedTo y (Err x) relations → Plans (concluded y) (Err x)
      go (Reached.stopped n l) q = q
      go (Reached.came d) q = absurd q

  module _ (s : Progress) (t : WalkedTo (reach fs empty 1) (Ok s) relations) where
    came-to : (d : Draft) × (reach fs empty 1 ≡ Reached.came d) × DraftIn d s relations
    came-to = go (reach fs empty 1) refl t
      where
        go : (x : Reached) → reach fs empty 1 ≡ x → WalkedTo x (Ok s) relations → (d : Draft) × (reach fs empty 1 ≡ Reached.came d) × DraftIn d s relations
        go (Reached.stopped n l) q y = absurd y
        go (Reached.came d) q y = (d, q, y)

    pub plan-without-goal : (x : Refusal) → (s.stage ≡ Ended → ⊥) → x ≡ record { reason = Order; line = 0 } → Plans (file_of text) (Err x)
    plan-without-goal x nz a =
        let (d, q, held) = came-to in
        let g : d.goal ≡ none = goal-none d.tables d.keys d.views d.goal (λ x. nz (ended s.stage (held.counts.stage_is ∙ x))) in
        let o : file_of text ≡ Outcome.refused 3 0 = outcome ∙ ap concluded q ∙ ap (finished d) g in
        rw (o, a) (refl, refl)

    -- the draft with its goal, and its number of candidates
    record Ready (n : OptionHere ℕ) : Type 0 where
      draft-is : Draft
      goal-is : Goal
      named : draft-is.goal ≡ some goal-is
      concluded-is : file_of text ≡ finished draft-is draft-is.goal
      held : DraftIn draft-is s relations
      legal : LegalDraft draft-is
      frames-are : fs ≡ file_frames (file_at draft-is goal-is)
      number_is : n ≡ within_limit (candidates (file_at draft-is goal-is))

    ready : (n : OptionHere ℕ) → s.stage ≡ Ended → CandidatesOf relations s.tables n → Ready n
    unfolding candidates
    ready n five c =
        let (d, q, held) = came-to in
        let (g, named) = goal-some d.tables d.keys d.views d.goal (sym held.counts.stage_is ∙ ap stage_number five) in
        let (_, good) = only-such text fs e in
        let bytes : All (All Byte) fs = all_map (λ f x. x.bytes) good in
        let wr : Drafted d fs = drafted fs d bytes q in
        let tables : TablesKnown d.tables relations =
        tables-in wr.legal.tables (λ t l. held.catalogued.schemas t ∙ table-schema (file_at d g) t l) in
        record {
          draft-is = d;
          goal-is = g;
          named = named;
          concluded-is = outcome ∙ ap concluded q;
          held = held;
          legal = wr.legal;
          frames-are = wr.frames ∙ draft-file d g named;
          number_is = c.counted d.tables tables held.counts.tables;
        }

    file-in : {m : OptionHere ℕ} {n : ℕ} (k : Ready m) (p : Plan) → PlanFrom r.bytes s relations n p → candidates (file_at k.draft-is k.goal-is) ≤ candidate_limit
        → FileIn (file_at k.draft-is k.goal-is) (source_from r.bytes p.relations p.outline)
    file-in k p P few =
        let F = file_at k.draft-is k.goal-is in
        let counts = k.held.counts in
        let known = k.held.catalogued in
        let o = P.outline in
        let L = legal-file k.draft-is k.goal-is k.legal k.named few in
        let tail = drop r.used r.bytes in
        let whole : r.bytes ≡ pack (file_frames F) ++ tail =
        sym (take-append-drop r.used r.bytes) ∙ ap (λ (l : List ℕ). l ++ tail) (h.packed ∙ ap pack k.frames-are) in
        record {
          legal = L;
          sized = P.starts.known.size ∙ known.size;
          tables = o.tables ∙ counts.tables;
          keys = o.keys ∙ counts.keys;
          relations = o.relations ∙ counts.relations;
          views = λ v q e.
              let (_, _, l) = query-split (length F.tables) F v q e in
              let is = view-there F r.bytes tail whole v q e in
              let same : start_from r.bytes 0 (frame_number s.tables s.keys v) ≡ start_from r.bytes 0 (frame_number (length F.tables) (length F.keys) v) =
              ap₂ (λ (m n : ℕ). start_from r.bytes 0 (frame_number m n v)) counts.tables counts.keys in
              let at : start_at p.relations v ≡ start_from r.bytes 0 (frame_number (length F.tables) (length F.keys) v) =
              P.starts.there v (omega (arith, l, L.relation_count)) (omega (arith, l, L.relation_count, known.size)) ∙ same in
              ap (frame_at r.bytes) at ∙ is;
          foreign =
              let (rest, e) = keys-there F r.bytes tail whole in
              (rest, ap (λ i. drop i r.bytes) (o.foreign ∙ ap (start_from r.bytes 0) counts.tables) ∙ e);
          known = λ i. schema-kept P.starts.known i ∙ known.schemas i;
          masks = λ i l. mask-kept P.starts.known i ∙ known.masks i l;
          filled = o.filled.some-row F (sym counts.tables) (λ i. ap (λ (x : Schema). x.bound) (known.schemas i));
        }

    pub plan-too-large : (x : Refusal) → s.stage ≡ Ended → CandidatesOf relations s.tables None → x ≡ record { reason = Candidates; line = 0 } → Plans (file_of text) (Err x)
    plan-too-large x five c a =
        let k = ready None five c in
        let N = candidates (file_at k.draft-is k.goal-is) in
        let above : candidate_limit < N = limit-none N (sym k.number_is) in
        let o : file_of text ≡ Outcome.refused 10 0 = k.concluded-is ∙ finished-some k.draft-is k.goal-is k.named false (lt-leb N candidate_limit above) in
        rw (o, a) (refl, refl)

    pub plan-done : (n : ℕ) (p : Plan) → PlanFrom r.bytes s relations n p → s.stage ≡ Ended → CandidatesOf relations s.tables (Some n) → Plans (file_of text) (Ok p)
    plan-done n p P five c =
        let k = ready (Some n) five c in
        let d = k.draft-is in
        let g = k.goal-is in
        let N = candidates (file_at d g) in
        let (same, below) = limit-some N n (sym k.number_is) in
        let o : file_of text ≡ Outcome.accepted (file_at d g) = k.concluded-is ∙ finished-some d g k.named true (le-leb N candidate_limit below) in
        let goal = k.held.counts.goal g k.named in
        rw o (record {
          file = rw P.bytes-are (file-in k p P below);
          goal = ap goal_of P.goal ∙ ap₂ (λ (v : ℕ) (b : Bool). record { view = v; negative = b }) goal.0 goal.1;
          candidates-are = P.candidates-are ∙ same;
        })

-- ---- in the code's words

-- nothing is known before the first frame
pub held_start : (x : Relation) → x ≡ no_relation → DraftIn empty start_progress (replicate 16 x)
held_start x e = record {
  counts = counts-empty;
  catalogued = none-entered (replicate 16 x) refl (λ i. subst (λ y. get_or (replicate 16 y) i no_relation ≡ no_relation) (sym e) (get_d-all 16 i no_relation));
  fits = fits-empty;
}

module _ (bytes : List ℕ) (s : Progress) (relations : List Relation) where
  pub whole-without-goal : (x : Refusal) → (s.stage ≡ Ended → ⊥) → x ≡ record { reason = Order; line = 0 } → PlansWhole bytes s relations (Err x)
  whole-without-goal x nz a = record { plans = λ text fs r e h b t. plan-without-goal text r fs e h relations s t x nz a }

  pub whole-too-large : (x : Refusal) → s.stage ≡ Ended → CandidatesOf relations s.tables None → x ≡ record { reason = Candidates; line = 0 } → PlansWhole bytes s relations (Err x)
  whole-too-large x five c a = record { plans = λ text fs r e h b t. plan-too-large text r fs e h relations s t x five c a }

  pub whole-done : (p : Plan) {n : ℕ} → s.stage ≡ Ended → CandidatesOf relations s.tables (Some n) → PlanFrom bytes s relations n p → PlansWhole bytes s relations (Ok p)
  whole-done p {n} five c P = record {
    plans = λ text fs r e h b t. plan-done text r fs e h relations s t n p (subst (λ (x : List ℕ). PlanFrom x s relations n p) (sym b) P) five c;
  }

module _ (text : List ℕ) (r : Frames) (dec : Decoded (frames_of text) (Ok r)) where
  pub used-inside : r.used ≤ length r.bytes
  used-inside = let (fs, e, h) = accepted text r dec in omega (arith, used-fits h, h.wide)

  pub used-taken : r.used ≡ length (take r.used r.bytes)
  used-taken = let (fs, e, h) = accepted text r dec in sym (used-length h)

  pub used-small : length (take r.used r.bytes) ≤ 5462
  used-small = let (fs, e, h) = accepted text r dec in omega (arith, used-fits h, used-length h)

  module _ (x : Relation) (none-is : x ≡ no_relation) {relations : List Relation} where
    pub way-stopped : (p : Result Plan Refusal) (y : Refusal) → Walks (take r.used r.bytes) (replicate 16 x) (Err y) relations → p ≡ Err y → Plans (file_of text) p
    way-stopped p y k a = let (fs, e, h) = accepted text r dec in plan-stopped text r fs e h relations p y (k.walked fs h.packed (held_start x none-is)) a

    pub way-whole : {s : Progress} (p : Result Plan Refusal) → Walks (take r.used r.bytes) (replicate 16 x) (Ok s) relations
        → PlansWhole r.bytes s relations p → Plans (file_of text) p
    way-whole p k c = let (fs, e, h) = accepted text r dec in c.plans text fs r e h refl (k.walked fs h.packed (held_start x none-is))
