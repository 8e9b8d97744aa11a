-- The relations that a goal depends on. Assumes nothing.
use mathlib.Core.Path.{◌≡◌, refl, sym, ap, ap₂, subst, ◌∙◌}
use mathlib.Core.Bool.{Bool, true, false, true≢false, ◌&&◌, ◌||◌}
use mathlib.Core.List.{List}
use mathlib.Core.Option.{some}
use Prim.Native.Nat.{ℕ, suc, ◌+◌, ◌-◌, ◌≤◌, ◌<◌}
use native.Mathlib.Omega.{arith}
use lib.Dec.{eqb, ltb, leb}
use lib.ListN.{length, get_or, set}
use borrow.Author.Tests.{eqb-true, eqb-false, lt-ltb, le-leb}
use Rattle.value.specs.Bag.{All}
use Rattle.value.proofs.Decides.{by-test}
use Rattle.value.proofs.Values.{all_map}
use Rattle.meaning.specs.Syntax.{View, File}
use Rattle.meaning.specs.Algebra.{query}
use Rattle.meaning.specs.Bounds.{names}
use Rattle.meaning.proofs.DecidedCases.{Stacked, stacked}
use Rattle.meaning.proofs.DecidedLists.{cons-all}
use Rattle.meaning.proofs.Relations.{query-split}
use Rattle.meaning.proofs.WellFormed.{rules}
use Rattle.meaning.proofs.Stacks.{by-lt, get_elem-some}
use Rattle.language.specs.Legal.{Legal}
use Rattle.language.specs.Written.{view_bytes}
use Rattle.language.proofs.LegalAccepted.{legal-well_formed}
use Rattle.catalog.specs.Frames.{frame_in, front_names, names_in}
use Rattle.catalog.specs.FileIn.{Source, FileLaid, goal_of}
use Rattle.catalog.specs.declared.plan.Goal.{Goal as GoalHere}
use Rattle.catalog.proofs.ViewParts.{view-parts}
use Rattle.cases.specs.declared.needs.Needs.{Needs}
use Rattle.cases.specs.Needs.{GoalIn, Covers, Flag, Needed, Asked, Asks, flags_of, own_conditions, no_needs, goal_needs, with_goal, More, set_flags, named_in, with_rows, with_signs, with_needs, NamesSet, NeedsRows, NeedsSigns, NeedsWith, NeedsOf}
use Rattle.cases.proofs.ViewKinds.{kind-own, kind-set}
use Rattle.cases.proofs.LookedInto.{named-all, named-below, front_below}
use Rattle.cases.proofs.FlagLaws.{more_same, more-more, more-all, no_flag, flag-as, more-put, flag-there}

-- ---- what one view needs

-- none of these is a relation from v on
past-flags : {v k : ℕ} {is : List ℕ} → All (λ i. i < v) is → v ≤ k → All (λ j. k ≡ j → ⊥) is
past-flags l h = all_map (λ j b e. omega arith) l

in-room : {v : ℕ} {is : List ℕ} → v < 16 → All (λ i. i < v) is → All (λ i. i < 16) is
in-room h l = all_map (λ i b. omega arith) l

or_parts : (a b : Bool) → (a || b) ≡ false → (a ≡ false) × (b ≡ false)
or_parts true b e = absurd (true≢false e)
or_parts false b e = (refl, e)

and_right : {a b : Bool} → a ≡ true → (a && b) ≡ false → b ≡ false
and_right h e = rw h at e

yes_flag : {i : ℕ} {flags : List Bool} {b : Bool} → b ≡ get_or flags i false → Flag flags i → b ≡ true
yes_flag e f = e ∙ f.on

-- the flag of a goal, where k is its view
module _ (needs : Needs) {g : GoalHere} {flags : List Bool} {k : ℕ} where
  pub goal-signs : flags ≡ set needs.signs k true → k ≡ g.view → g.negative ≡ true → record { rows = needs.rows; signs = flags } ≡ with_goal g needs
  unfolding with_goal
  goal-signs e h t = rw (e, h, t)

  pub goal-rows : flags ≡ set needs.rows k true → k ≡ g.view → g.negative ≡ false → record { rows = flags; signs = needs.signs } ≡ with_goal g needs
  unfolding with_goal
  goal-rows e h t = rw (e, h, t)

-- by what the flags of view v and the kind of its frame say
module _ {frame : List ℕ} {needs : Needs} {v : ℕ} {needed asked : Bool} (n : needed ≡ get_or needs.rows v false) (a : asked ≡ get_or needs.signs v false) where
  pub rows-set : {flags : List Bool} → (needed || (asked && ltb (get_or frame 0 0) 5)) ≡ true → NamesSet (named_in v frame) needs.rows flags
      → NeedsRows frame needs v (record { rows = flags; signs = needs.signs })
  unfolding with_rows
  rows-set {flags} t s = record {
    here = rw (← n, ← a, t) (ap (λ (l : List Bool). record { rows = l; signs = needs.signs }) s.here);
    more = s.more;
    signs-kept = refl;
    for-rows = λ q d z r l f. all_set q d z r l;
    for-sign = λ q d z r l o f. all_set q d z r l;
    others = λ q d l k h. s.others k (past-flags (named-below v q frame d l) h);
  }
    where
      all_set : (q : View) → frame ≡ view_bytes q → length needs.rows ≡ 16 → v < 16 → All (λ i. i < v) (names q) → All (Flag flags) (names q)
      all_set q d z r l = named-all v frame (s.named z (in-room r (named-below v q frame d l))) q d l

  pub rows-kept : (needed || (asked && ltb (get_or frame 0 0) 5)) ≡ false → NeedsRows frame needs v needs
  unfolding with_rows
  rows-kept t = record {
    here = rw (← n, ← a, t);
    more = more_same needs.rows;
    signs-kept = refl;
    for-rows = λ q d z r l f. absurd (no_flag n (or_parts needed _ t).0 f);
    for-sign = λ q d z r l o f.
        absurd (true≢false (sym (lt-ltb (get_or frame 0 0) 5 (kind-own q d o)) ∙ and_right (yes_flag a f) (or_parts needed _ t).1));
    others = λ q d l k h. refl;
  }

-- where the frame is a view's, the flags of what stands at its front are set
by_front : {frame is : List ℕ} {flags flags' : List Bool} → is ≡ names_in frame → NamesSet is flags flags' → (q : View) → frame ≡ view_bytes q
    → NamesSet (front_names q) flags flags'
by_front {frame} {flags = flags} {flags'} n s q e = subst (λ (l : List ℕ). NamesSet l flags flags') (n ∙ (view-parts q frame e).1) s

-- of a set view that is all that it names
front-all : (q : View) → own_conditions q ≡ false → front_names q ≡ names q
front-all (View.basic fs w es) e = absurd (true≢false e)
front-all (View.grouped fs w gs h es) e = absurd (true≢false e)
front-all (View.set op i j) e = refl

module _ {frame : List ℕ} {needs : Needs} {v : ℕ} {asked : Bool} (a : asked ≡ get_or needs.signs v false) where
  pub signs-set : {is : List ℕ} {flags : List Bool} → (asked && leb 5 (get_or frame 0 0)) ≡ true → is ≡ names_in frame → NamesSet is needs.signs flags
      → NeedsSigns frame needs v (record { rows = needs.rows; signs = flags })
  unfolding with_signs
  signs-set t e s = record {
    here = rw (← a, t) (ap (λ (l : List Bool). record { rows = needs.rows; signs = l }) (s.here ∙ ap (λ (l : List ℕ). set_flags l needs.signs) e));
    more = s.more;
    rows-kept = refl;
    for-sign = λ q d z r l o f. subst (All (Flag _)) (front-all q o) ((by_front e s q d).named z (in-room r (front_below q l)));
    others = λ q d l k h. (by_front e s q d).others k (past-flags (front_below q l) h);
  }

  pub signs-kept : (asked && leb 5 (get_or frame 0 0)) ≡ false → NeedsSigns frame needs v needs
  unfolding with_signs
  signs-kept t = record {
    here = rw (← a, t);
    more = more_same needs.signs;
    rows-kept = refl;
    for-sign = λ q d z r l o f. absurd (true≢false (sym (le-leb 5 (get_or frame 0 0) (kind-set q d o)) ∙ and_right (yes_flag a f) t));
    others = λ q d l k h. refl;
  }

-- ---- all views, from the last down to relation v

pub record From (F : File) (v : ℕ) (needs : Needs) : Type 0 where
  pub rows : (u : ℕ) (q : View) → v ≤ u → query (length F.tables) F u ≡ some q → Needed needs u → All (Needed needs) (names q)
  pub signs : (u : ℕ) (q : View) → v ≤ u → query (length F.tables) F u ≡ some q → Asked needs u → Asks needs q

-- flags of both kinds
pub record Grown (needs needs' : Needs) : Type 0 where
  pub rows : More needs.rows needs'.rows
  pub signs : More needs.signs needs'.signs

grown-rows : {frame : List ℕ} {needs needs' : Needs} {v : ℕ} → NeedsRows frame needs v needs' → Grown needs needs'
grown-rows {needs = needs} x = record { rows = x.more; signs = rw x.signs-kept (more_same needs.signs) }

grown-signs : {frame : List ℕ} {needs needs' : Needs} {v : ℕ} → NeedsSigns frame needs v needs' → Grown needs needs'
grown-signs {needs = needs} y = record { rows = rw y.rows-kept (more_same needs.rows); signs = y.more }

-- by one view
pub grown-next : {frame : List ℕ} {needs needs₁ needs₂ : Needs} {v : ℕ} → NeedsRows frame needs v needs₁ → NeedsSigns frame needs₁ v needs₂ → Grown needs needs₂
grown-next x y = record { rows = more-more x.more (grown-signs y).rows; signs = more-more (grown-rows x).signs y.more }

-- the flags at first, and as they are
pub record Reached (source : Source) (first : Needs) (v : ℕ) (needs : Needs) : Type 0 where
  pub here : let o = source.outline in
      with_needs source.bytes source.relations o.tables (v - o.tables) needs ≡ with_needs source.bytes source.relations o.tables (o.relations - o.tables) first
  pub rows : More first.rows needs.rows
  pub signs : More first.signs needs.signs
  pub from : {F : File} → FileLaid F source → length first.rows ≡ 16 → length first.signs ≡ 16 → From F v needs

asks-more : {needs needs' : Needs} → Grown needs needs' → (q : View) → Asks needs q → Asks needs' q
asks-more n (View.basic fs w es) h = more-all n.rows h
asks-more n (View.grouped fs w gs c es) h = more-all n.rows h
asks-more n (View.set op i j) h = (n.signs.kept i h.0, n.signs.kept j h.1)

-- by the rows that a view's own conditions need, or by its operands' signs
asks-all : {needs : Needs} (q : View) → (own_conditions q ≡ true → All (Needed needs) (names q)) → (own_conditions q ≡ false → All (Asked needs) (names q))
    → Asks needs q
asks-all (View.basic fs w es) f g = f refl
asks-all (View.grouped fs w gs c es) f g = f refl
asks-all (View.set op i j) f g = let (x, h) = cons-all (g refl) in (x, (cons-all h).0)

some_one : {p q : View} → some p ≡ some q → p ≡ q
some_one e = cc

earlier-of : (F : File) → Legal F → Stacked (length F.tables) F
earlier-of F l = stacked F (rules F (legal-well_formed F l)).earlier-views

pub reached-none : (source : Source) (first : Needs) → Reached source first source.outline.relations first
reached-none source first = record {
  here = refl;
  rows = more_same first.rows;
  signs = more_same first.signs;
  from = λ {F} G z y.
      let past : (u : ℕ) (q : View) → source.outline.relations ≤ u → query (length F.tables) F u ≡ some q → ⊥ =
      λ u q h e. let x = query-split (length F.tables) F u q e in omega (arith, x.2, h, G.relations) in
      record { rows = λ u q h e f. absurd (past u q h e); signs = λ u q h e f. absurd (past u q h e) };
}

module _ (source : Source) {v : ℕ} {needs needs₁ needs₂ : Needs} {frame : List ℕ} (h : source.outline.tables < v)
    (l : v ≤ source.outline.relations) (place : frame ≡ frame_in source.bytes source.relations (v - 1))
    (x : NeedsRows frame needs (v - 1) needs₁) (y : NeedsSigns frame needs₁ (v - 1) needs₂) where
  module _ {F : File} (G : FileLaid F source) (room : length needs.rows ≡ 16) (signs-size : length needs.signs ≡ 16) (old : From F v needs) where
    few : v - 1 < 16
    few = omega (arith, h, l, G.relations, G.legal.relation_count)

    -- the view whose turn it is
    turn-of : (q₀ : View) → query (length F.tables) F (v - 1) ≡ some q₀ → From F (v - 1) needs₂
    turn-of q₀ here =
        let T = length F.tables in
        let e : frame ≡ view_bytes q₀ = place ∙ G.views (v - 1) q₀ here in
        let below : All (λ i. i < v - 1) (names q₀) = (earlier-of F G.legal).earlier (v - 1) q₀ here in
        let sign-room : length needs₁.signs ≡ 16 = ap length x.signs-kept ∙ signs-size in
        let was-needed : (u : ℕ) → v - 1 ≤ u → Needed needs₂ u → Needed needs u = λ u s f.
        flag-as u (ap (λ (m : List Bool). get_or m u false) y.rows-kept ∙ x.others q₀ e below u s) f in
        let was-asked-then : (u : ℕ) → v - 1 ≤ u → Asked needs₂ u → Asked needs₁ u = λ u s f. flag-as u (y.others q₀ e below u s) f in
        let was-asked : (u : ℕ) → v - 1 ≤ u → Asked needs₂ u → Asked needs u = λ u s f.
        flag-as u (ap (λ (m : List Bool). get_or m u false) x.signs-kept) (was-asked-then u s f) in
        let self : v - 1 ≤ v - 1 = omega arith in
        let last : Grown needs₁ needs₂ = grown-signs y in
        let rows-here : Needed needs₂ (v - 1) → All (Needed needs₂) (names q₀) = λ f.
        more-all last.rows (x.for-rows q₀ e room few below (was-needed (v - 1) self f)) in
        let signs-here : Asked needs₂ (v - 1) → Asks needs₂ q₀ = λ f.
        asks-all q₀
        (λ c. more-all last.rows (x.for-sign q₀ e room few below c (was-asked (v - 1) self f)))
        (λ c. y.for-sign q₀ e sign-room few below c (was-asked-then (v - 1) self f)) in
        let both : Grown needs needs₂ = grown-next x y in
        record {
          rows = λ u q k d f. by-test (eqb u (v - 1))
              (λ t. let i : u ≡ v - 1 = eqb-true u (v - 1) t in
              let j : q₀ ≡ q = some_one (sym here ∙ ap (query T F) (sym i) ∙ d) in
              subst (λ (z : View). All (Needed needs₂) (names z)) j (rows-here (subst (Needed needs₂) i f)))
              (λ t. more-all both.rows (old.rows u q (omega (arith, k, h, eqb-false u (v - 1) t)) d (was-needed u k f)));
          signs = λ u q k d f. by-test (eqb u (v - 1))
              (λ t. let i : u ≡ v - 1 = eqb-true u (v - 1) t in
              let j : q₀ ≡ q = some_one (sym here ∙ ap (query T F) (sym i) ∙ d) in
              subst (Asks needs₂) j (signs-here (subst (Asked needs₂) i f)))
              (λ t. asks-more both q (old.signs u q (omega (arith, k, h, eqb-false u (v - 1) t)) d (was-asked u k f)));
        }

    -- and that it is there
    pub from-next : From F (v - 1) needs₂
    from-next =
        let T = length F.tables in
        let (q₀, is) = get_elem-some F.views (v - 1 - T) (omega (arith, h, l, G.tables, G.relations)) in
        let here : query T F (v - 1) ≡ some q₀ = by-lt (v - 1) T (λ t k. absurd (omega (arith, h, G.tables))) (λ t k. rw t is) in
        turn-of q₀ here

  -- view v - 1 is the last that is left
  pub needs-left : with_needs source.bytes source.relations source.outline.tables (v - 1 - source.outline.tables) needs₂
      ≡ with_needs source.bytes source.relations source.outline.tables (v - source.outline.tables) needs
  unfolding with_needs
  needs-left =
      let t = source.outline.tables in
      let n = v - 1 - t in
      let s : v - t ≡ suc n = omega arith in
      let u : v - 1 ≡ t + n = omega arith in
      let b = source.bytes in
      let a = source.relations in
      let both : (f : List ℕ) (w : ℕ) → Needs = λ f w. with_signs f (with_rows f needs w) w in
      let done : needs₂ ≡ both (frame_in b a (t + n)) (t + n) =
      y.here ∙ ap (λ l. with_signs frame l (v - 1)) x.here ∙ ap₂ both (place ∙ ap (frame_in b a) u) u in
      ap (with_needs b a t n) done ∙ ap (λ k. with_needs b a t k needs) (sym s)

module _ {source : Source} {first : Needs} {v : ℕ} {needs needs₁ needs₂ : Needs} {frame : List ℕ} (r : Reached source first v needs) (h : source.outline.tables < v)
    (l : v ≤ source.outline.relations) (place : frame ≡ frame_in source.bytes source.relations (v - 1))
    (x : NeedsRows frame needs (v - 1) needs₁) (y : NeedsSigns frame needs₁ (v - 1) needs₂) where
  pub reached-next : Reached source first (v - 1) needs₂
  reached-next =
      let both = grown-next x y in
      record {
        here = needs-left source h l place x y ∙ r.here;
        rows = more-more r.rows both.rows;
        signs = more-more r.signs both.signs;
        from = λ G z w. from-next source h l place x y G (r.rows.size ∙ z) (r.signs.size ∙ w) (r.from G z w);
      }

-- ---- the goal's own flag first

goal-grown : (g : GoalHere) (needs : Needs) → Grown needs (with_goal g needs)
unfolding with_goal
goal-grown g needs = by-test g.negative
    (λ t. rw t (record { rows = more_same needs.rows; signs = more-put needs.signs g.view }))
    (λ t. rw t (record { rows = more-put needs.rows g.view; signs = more_same needs.signs }))

goal-flag : (g : GoalHere) (needs : Needs) → g.view < length needs.rows → g.view < length needs.signs → Flag (flags_of g.negative (with_goal g needs)) g.view
unfolding with_goal
goal-flag g needs h k = by-test g.negative
    (λ t. rw t (flag-there needs.signs g.view k))
    (λ t. rw t (flag-there needs.rows g.view h))

grown-flag : {needs needs' : Needs} {v : ℕ} → Grown needs needs' → (asked : Bool) → Flag (flags_of asked needs) v → Flag (flags_of asked needs') v
grown-flag {v = v} n true f = n.signs.kept v f
grown-flag {v = v} n false f = n.rows.kept v f

-- every view has had its turn
module _ {source : Source} (first : Needs) {g : GoalHere} {v : ℕ} {needs : Needs} (rows-size : length first.rows ≡ 16) (signs-size : length first.signs ≡ 16)
    (h : v ≤ source.outline.tables) (grown : Grown (with_goal g first) needs) where
  pub covered : {F : File} → FileLaid F source → From F v needs → GoalIn F (goal_of g) → Covers F (goal_of g) needs
  covered {F} G f W =
      let few : g.view < 16 = omega (arith, W.before, G.legal.relation_count) in
      let below : (u : ℕ) (q : View) → query (length F.tables) F u ≡ some q → v ≤ u =
      λ u q d. let x = query-split (length F.tables) F u q d in omega (arith, x.0, h, G.tables) in
      record {
        view = W;
        goal = grown-flag grown g.negative (goal-flag g first (omega (arith, few, rows-size)) (omega (arith, few, signs-size)));
        rows = λ u q d k. f.rows u q (below u q d) d k;
        signs = λ u q d k. f.signs u q (below u q d) d k;
      }

pub needs-with-all : {source : Source} {first : Needs} {g : GoalHere} {v : ℕ} {needs : Needs} → length first.rows ≡ 16 → length first.signs ≡ 16
    → v ≤ source.outline.tables → Reached source (with_goal g first) v needs → NeedsWith source first g needs
unfolding with_needs
needs-with-all {source} {first} {g} {v} {needs} rows signs h r =
    let one = goal-grown g first in
    record {
      here =
          let o = source.outline in
          let z : v - o.tables ≡ 0 = omega arith in
          sym (ap (λ k. with_needs source.bytes source.relations o.tables k needs) z) ∙ r.here;
      more-rows = more-more one.rows r.rows;
      more-signs = more-more one.signs r.signs;
      covers = λ {F} G W. covered first rows signs h (record { rows = r.rows; signs = r.signs }) G (r.from G (one.rows.size ∙ rows) (one.signs.size ∙ signs)) W;
    }

-- no flag before that of the goal
pub needs-alone : {source : Source} {g : GoalHere} {needs : Needs} → NeedsWith source no_needs g needs → NeedsOf source g needs
unfolding with_goal goal_needs
needs-alone w = record { here = w.here; covers = w.covers }

-- the same at once
pub needs-all : {source : Source} {g : GoalHere} {v : ℕ} {needs : Needs} → v ≤ source.outline.tables → Reached source (goal_needs g) v needs → NeedsOf source g needs
unfolding with_goal goal_needs
needs-all h r = needs-alone (needs-with-all refl refl h r)
