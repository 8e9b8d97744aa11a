-- Legal files and accepted frames.
--     legal-accepted      the frames of a legal file are accepted, and as that file
--     accepted-exactly    frames of bytes are accepted as F where F is legal and they are its frames, and nowhere else
--     legal-once          no two legal files have the same frames
--     legal-well_formed    a legal file is one that the theorems of meaning are about
-- Assumes nothing.
use mathlib.Core.Path.{◌≡◌, refl, ap, ◌∙◌}
use mathlib.Core.Bool.{true}
use mathlib.Core.List.{List, [], ◌∷◌, ◌++◌, map, append-nil}
use mathlib.Core.Logic.{◌↔◌}
use mathlib.Core.Option.{none}
use Prim.Native.Nat.{ℕ, suc, ◌+◌, ◌≤◌}
use native.Mathlib.Omega.{arith}
use lib.ListN.{length}
use lib.Seq.{append_snoc}
use borrow.Author.Tests.{lt-ltb, le-leb}
use Rattle.value.specs.Bag.{All}
use Rattle.meaning.specs.Lists.{stack}
use Rattle.meaning.specs.Syntax.{Table, ForeignKey, View, File}
use Rattle.meaning.specs.Bounds.{table_schema, view_schema, well_formed}
use Rattle.meaning.specs.Candidates.{candidates}
use Rattle.language.proofs.Readers.{Byte}
use Rattle.meaning.proofs.Stacks.{length-snoc, stack-append}
use Rattle.language.specs.Draft.{Draft, Item, added, relation_count, stage}
use Rattle.language.specs.Check.{Outcome, Checked, candidate_limit, check_frame, reach, concluded, check_all}
use Rattle.language.specs.Legal.{LegalTable, LegalKey, LegalView, EveryView, Legal}
use Rattle.language.specs.Written.{table_bytes, key_bytes, view_bytes, goal_bytes, file_frames}
use Rattle.language.proofs.Accepted.{accepted-well_formed, accepted-legal, accepted-written}
use Rattle.language.proofs.SoundFrames.{regroup}
use Rattle.language.proofs.Steps.{step_back}
use Rattle.language.proofs.Turns.{draft, stage-keys, stage-views}

-- from this draft the frames are accepted as F, whatever line they begin at
abbrev Accepts : List (List ℕ) → Draft → File → Type 0
Accepts fs d F = (l : ℕ) → concluded (reach fs d l) ≡ Outcome.accepted F

next-frame : (f : List ℕ) (fs : List (List ℕ)) (d e : Draft) (F : File) → check_frame d f ≡ Checked.next e → Accepts fs e F → Accepts (f ∷ fs) d F
unfolding reach
next-frame f fs d e F s a l = rw s (a (suc l))

module _ (rest : List (List ℕ)) (F : File) where
  tables-run : (us ts : List Table) → All LegalTable us → length ts + length us ≤ 16 → Accepts rest (draft (ts ++ us) [] [] none) F
      → Accepts (map table_bytes us ++ rest) (draft ts [] [] none) F
  tables-run [] ts h n a = rw append-nil at a
  tables-run (u ∷ us) ts (All.cons h hs) n a =
      let d = draft ts [] [] none in
      next-frame (table_bytes u) (map table_bytes us ++ rest) d (added d (Item.table u)) F (step_back d (Item.table u) refl (lt-ltb (relation_count d) 16 (omega arith)) h)
      (tables-run us (ts ++ (u ∷ [])) hs (omega (arith, length-snoc ts u)) (rw (append_snoc ts u us) a))

  keys-run : (ts : List Table) (us ks : List ForeignKey) → All (LegalKey ts) us → length ks + length us ≤ 16 → Accepts rest (draft ts (ks ++ us) [] none) F
      → Accepts (map key_bytes us ++ rest) (draft ts ks [] none) F
  keys-run ts [] ks h n a = rw append-nil at a
  keys-run ts (u ∷ us) ks (All.cons h hs) n a =
      let d = draft ts ks [] none in
      next-frame (key_bytes u) (map key_bytes us ++ rest) d (added d (Item.key u)) F
      (step_back d (Item.key u) (le-leb (stage d) 2 (stage-keys ts ks)) (lt-ltb (length ks) 16 (omega arith)) h)
      (keys-run ts us (ks ++ (u ∷ [])) hs (omega (arith, length-snoc ks u)) (rw (append_snoc ks u us) a))

  views-run : (ts : List Table) (ks : List ForeignKey) (us qs : List View) → EveryView (LegalView (length ts)) us (stack view_schema qs (map table_schema ts))
      → length ts + (length qs + length us) ≤ 16 → Accepts rest (draft ts ks (qs ++ us) none) F
      → Accepts (map view_bytes us ++ rest) (draft ts ks qs none) F
  views-run ts ks [] qs h n a = rw append-nil at a
  views-run ts ks (u ∷ us) qs (EveryView.more h hs) n a =
      let d = draft ts ks qs none in
      next-frame (view_bytes u) (map view_bytes us ++ rest) d (added d (Item.view u)) F
      (step_back d (Item.view u) (le-leb (stage d) 3 (stage-views ts ks qs)) (lt-ltb (relation_count d) 16 (omega arith)) h)
      (views-run ts ks us (qs ++ (u ∷ [])) (rw (stack-append view_schema qs (u ∷ []) (map table_schema ts)) hs) (omega (arith, length-snoc qs u)) (rw (append_snoc qs u us) a))

goal-run : (F : File) → Legal F → Accepts (goal_bytes F.goal ∷ []) (draft F.tables F.keys F.views none) F
unfolding reach
goal-run F h =
    let d = draft F.tables F.keys F.views none in
    let s : stage d ≤ 4 = omega (arith, stage-views F.tables F.keys F.views) in
    next-frame (goal_bytes F.goal) [] d (added d (Item.goal F.goal)) F (step_back d (Item.goal F.goal) (le-leb (stage d) 4 s) refl h.goal)
    (λ l. rw (le-leb (candidates F) candidate_limit h.number))

pub legal-accepted : (F : File) → Legal F → check_all (file_frames F) ≡ Outcome.accepted F
unfolding file_frames
legal-accepted F h =
    let ts = F.tables in
    let ks = F.keys in
    let qs = F.views in
    let G = goal_bytes F.goal ∷ [] in
    let Q = map view_bytes qs in
    let K = map key_bytes ks in
    rw (regroup (map table_bytes ts) K Q G)
    (tables-run (K ++ (Q ++ G)) F ts [] h.tables (omega (arith, h.relation_count))
    (keys-run (Q ++ G) F ts ks [] h.keys (omega (arith, h.key_count))
    (views-run G F ts ks qs [] h.views (omega (arith, h.relation_count))
    (goal-run F h))) 1)

pub accepted-exactly : (fs : List (List ℕ)) (F : File) → All (All Byte) fs → (check_all fs ≡ Outcome.accepted F) ↔ (Legal F × (fs ≡ file_frames F))
accepted-exactly fs F b =
    (λ a. (accepted-legal fs F b a, accepted-written fs F b a), λ h. ap check_all h.1 ∙ legal-accepted F h.0)

pub legal-once : (F G : File) → Legal F → Legal G → file_frames F ≡ file_frames G → F ≡ G
legal-once F G f g e = cc (legal-accepted F f, legal-accepted G g, ap check_all e)

pub legal-well_formed : (F : File) → Legal F → well_formed F ≡ true
legal-well_formed F h = accepted-well_formed (file_frames F) F (legal-accepted F h)
