-- Frames in turn: what each frame that is taken keeps, and what an accepted outcome says of the last draft.
--     fold-kept        what every frame keeps holds at the end
--     kept_step        a draft of lawful items stays one
--     accepted-came    accepted frames come to a draft, which has the file
-- Assumes nothing.
use mathlib.Core.Path.{◌≡◌, refl, sym, subst, subst₂}
use mathlib.Core.Bool.{cond}
use mathlib.Core.List.{List, [], ◌∷◌, ◌++◌, map, append_assoc, append-nil}
use mathlib.Core.Option.{Option, none, some}
use Prim.Native.Nat.{ℕ, suc, ◌≤◌}
use native.Mathlib.Omega.{arith}
use lib.Dec.{leb}
use lib.ListN.{length}
use borrow.Author.Tests.{leb-true}
use Rattle.value.specs.Bag.{All}
use Rattle.value.proofs.Decides.{by-test}
use Rattle.meaning.specs.Lists.{stack}
use Rattle.meaning.specs.Syntax.{Table, ForeignKey, View, Goal, File}
use Rattle.meaning.specs.Bounds.{Schema, table_schema, view_schema}
use Rattle.meaning.specs.Candidates.{candidates}
use Rattle.meaning.proofs.Elements.{all_append}
use Rattle.meaning.proofs.Stacks.{length-snoc}
use Rattle.language.specs.Draft.{Draft, Item, empty, added, file_at, relation_count, schemas_of}
use Rattle.language.specs.Check.{Outcome, Checked, Reached, candidate_limit, finished, onward, reach, concluded, check_all}
use Rattle.language.specs.Legal.{NamesView, EveryView}
use Rattle.language.proofs.Steps.{Taken, Looked, looked}
use Rattle.language.proofs.Turns.{Turn}

-- ---- frames in turn

module _ {d : Draft} {f : List ℕ} where
  onward-came : {c : Checked} (further : Draft → Reached) (l : ℕ) (e : Draft) → Looked d f c → onward further l c ≡ Reached.came e
      → (i : Item) × Taken d f i × (further (added d i) ≡ Reached.came e)
  onward-came further l e (Looked.fault h k) q = let z : ◌≡◌ {A = ℕ} 0 1 = cc in absurd (omega arith)
  onward-came further l e (Looked.next {i} t) q = (i, t, q)

-- the first frame is taken, and the others go on from there
first_taken : (f : List ℕ) (fs : List (List ℕ)) (d : Draft) (l : ℕ) (e : Draft) → reach (f ∷ fs) d l ≡ Reached.came e
    → (i : Item) × Taken d f i × (reach fs (added d i) (suc l) ≡ Reached.came e)
unfolding reach
first_taken f fs d l e q = onward-came (λ x. reach fs x (suc l)) l e (looked d f) q

-- of a draft and the frames that gave it
pub fold-kept : (Q : List ℕ → Type 0) (Inv : Draft → List (List ℕ) → Type 0)
    → ((d : Draft) (f : List ℕ) (i : Item) (before : List (List ℕ)) → Q f → Taken d f i → Inv d before → Inv (added d i) (before ++ (f ∷ [])))
    → (fs : List (List ℕ)) (d : Draft) (l : ℕ) (before : List (List ℕ)) (e : Draft) → All Q fs → Inv d before → reach fs d l ≡ Reached.came e
    → Inv e (before ++ fs)
unfolding reach
fold-kept Q Inv step [] d l before e qs inv q = let p : d ≡ e = cc in subst₂ Inv p (sym (append-nil before)) inv
fold-kept Q Inv step (f ∷ fs) d l before e (All.cons h hs) inv q =
    let (i, t, more) = first_taken f fs d l e q in
    subst (Inv e) (append_assoc before (f ∷ []) fs)
    (fold-kept Q Inv step fs (added d i) (suc l) (before ++ (f ∷ [])) e hs (step d f i before h t inv) more)

-- ---- the file at the end

pub record Ended (d : Draft) (F : File) : Type 0 where
  pub goal : Goal
  pub named : d.goal ≡ some goal
  pub file : file_at d goal ≡ F
  pub number : candidates F ≤ candidate_limit

limit-passed : (G F : File) → cond (leb (candidates G) candidate_limit) (Outcome.accepted G) (Outcome.refused 10 0) ≡ Outcome.accepted F
    → (G ≡ F) × (candidates F ≤ candidate_limit)
limit-passed G F e = by-test (leb (candidates G) candidate_limit)
    (λ t. let q : Outcome.accepted G ≡ Outcome.accepted F = rw t at e in
    let p : G ≡ F = cc in
    (p, subst (λ (H : File). candidates H ≤ candidate_limit) p (leb-true (candidates G) candidate_limit t)))
    (λ t. let q : Outcome.refused 10 0 ≡ Outcome.accepted F = rw t at e in let z : ◌≡◌ {A = ℕ} 0 1 = cc in absurd (omega arith))

finished-at : (d : Draft) (F : File) (o : Option Goal) → d.goal ≡ o → finished d o ≡ Outcome.accepted F → Ended d F
finished-at d F none p e = let z : ◌≡◌ {A = ℕ} 0 1 = cc in absurd (omega arith)
finished-at d F (some g) p e =
    let h = limit-passed (file_at d g) F e in
    record { goal = g; named = p; file = h.0; number = h.1 }

-- accepted frames come to a draft, which has the file
pub accepted-came : (fs : List (List ℕ)) (F : File) → check_all fs ≡ Outcome.accepted F → (d : Draft) × (reach fs empty 1 ≡ Reached.came d) × Ended d F
accepted-came fs F e = go (reach fs empty 1) refl e
  where
    go : (x : Reached) → reach fs empty 1 ≡ x → concluded x ≡ Outcome.accepted F → (d : Draft) × (reach fs empty 1 ≡ Reached.came d) × Ended d F
    go (Reached.stopped n l) q a = let z : ◌≡◌ {A = ℕ} 0 1 = cc in absurd (omega arith)
    go (Reached.came d) q a = (d, q, finished-at d F d.goal refl a)

-- ---- what frames keep

pub every-snoc : {P : List Schema → View → Type 0} {qs : List View} {ss : List Schema} {q : View} → EveryView P qs ss
    → P (stack view_schema qs ss) q → EveryView P (qs ++ (q ∷ [])) ss
every-snoc EveryView.none h = EveryView.more h EveryView.none
every-snoc (EveryView.more p ps) h = EveryView.more p (every-snoc ps h)

module _ (P : Table → Type 0) (Q : List Table → ForeignKey → Type 0) (R : ℕ → List Schema → View → Type 0) where
  pub record Kept (d : Draft) : Type 0 where
    pub relations : relation_count d ≤ 16
    pub key_count : length d.keys ≤ 16
    pub tables : All P d.tables
    pub keys : All (Q d.tables) d.keys
    pub views : EveryView (R (length d.tables)) d.views (map table_schema d.tables)
    pub goal : (g : Goal) → d.goal ≡ some g → NamesView (length d.tables) (relation_count d) g.view

  pub kept-empty : Kept empty
  kept-empty =
      record {
        relations = omega arith;
        key_count = omega arith;
        tables = All.nil;
        keys = All.nil;
        views = EveryView.none;
        goal = λ g e. let z : ◌≡◌ {A = ℕ} 0 1 = cc in absurd (omega arith);
      }

  abbrev pub Obeys : Draft → Item → Type 0
  Obeys d (Item.table t) = P t
  Obeys d (Item.key k) = Q d.tables k
  Obeys d (Item.view q) = R (length d.tables) (schemas_of d) q
  Obeys d (Item.goal g) = NamesView (length d.tables) (relation_count d) g.view

  no-goal : {X : Type 0} (o : Option Goal) (g : Goal) → o ≡ none → o ≡ some g → X
  no-goal o g p q = let z : ◌≡◌ {A = ℕ} 0 1 = cc in absurd (omega arith)

  pub kept_step : (d : Draft) (i : Item) → Kept d → Turn d i → Obeys d i → Kept (added d i)
  kept_step d (Item.table t) k u h =
      record {
        relations = omega (arith, u.room, length-snoc d.tables t);
        key_count = k.key_count;
        tables = all_append k.tables (All.cons h All.nil);
        keys = rw u.keys All.nil;
        views = rw u.views EveryView.none;
        goal = λ g e. no-goal d.goal g u.goal e;
      }
  kept_step d (Item.key x) k u h =
      record {
        relations = k.relations;
        key_count = omega (arith, u.room, length-snoc d.keys x);
        tables = k.tables;
        keys = all_append k.keys (All.cons h All.nil);
        views = k.views;
        goal = λ g e. no-goal d.goal g u.goal e;
      }
  kept_step d (Item.view q) k u h =
      record {
        relations = omega (arith, u.room, length-snoc d.views q);
        key_count = k.key_count;
        tables = k.tables;
        keys = k.keys;
        views = every-snoc k.views h;
        goal = λ g e. no-goal d.goal g u.goal e;
      }
  kept_step d (Item.goal x) k u h =
      record {
        relations = k.relations;
        key_count = k.key_count;
        tables = k.tables;
        keys = k.keys;
        views = k.views;
        goal = λ g e. let p : x ≡ g = cc in subst (λ (y : Goal). NamesView (length d.tables) (relation_count d) y.view) p h;
      }
