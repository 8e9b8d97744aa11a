-- Flags that are set: one, and those of the relations that are named. Assumes nothing.
use mathlib.Core.Path.{◌≡◌, refl, sym, ap, subst, ◌∙◌}
use mathlib.Core.Bool.{Bool, true, false, ◌&&◌, true≢false}
use mathlib.Core.List.{List, [], ◌∷◌, ◌++◌}
use Prim.Native.Nat.{ℕ, zero, suc, ◌+◌, ◌≤◌, ◌<◌}
use native.Mathlib.Numerals.{add-one}
use native.Mathlib.Omega.{arith}
use lib.Dec.{ltb, eqb}
use lib.ListN.{length, get_or, set, take, length-set}
use lib.Seq.{take-suc, take_all, get_or-set_same, get_or-set_other}
use borrow.Author.Tests.{eqb-true, eqb-false, eq-eqb, ne_eqb, lt-ltb, le-ltb}
use Rattle.value.specs.Bag.{All}
use Rattle.value.proofs.Decides.{by-test}
use Rattle.value.proofs.Values.{all_map}
use Rattle.meaning.proofs.Elements.{all_append, all-before, all-behind, all_here}
use Rattle.cases.specs.Needs.{Flag, More, set_flags, behind_at, behind_to, NamesSet}

-- ---- flags only grow

pub more_same : (flags : List Bool) → More flags flags
more_same flags = record { size = refl; kept = λ i f. f }

pub more-more : {a b c : List Bool} → More a b → More b c → More a c
more-more p q = record { size = q.size ∙ p.size; kept = λ i f. q.kept i (p.kept i f) }

pub more-all : {flags flags' : List Bool} {is : List ℕ} → More flags flags' → All (Flag flags) is → All (Flag flags') is
more-all h a = all_map (λ i f. h.kept i f) a

-- a flag by what stands at its place
pub flag-as : {flags flags' : List Bool} (i : ℕ) → get_or flags' i false ≡ get_or flags i false → Flag flags' i → Flag flags i
flag-as i e f = record { on = sym e ∙ f.on }

pub no_flag : {i : ℕ} {flags : List Bool} {b : Bool} → b ≡ get_or flags i false → b ≡ false → Flag flags i → ⊥
no_flag e n f = true≢false (sym f.on ∙ sym e ∙ n)

-- ---- one flag

inside : (l : List Bool) (k : ℕ) → get_or l k false ≡ true → k < length l
inside [] k e = absurd (true≢false (sym e))
inside (x ∷ l) zero e = omega arith
inside (x ∷ l) (suc k) e = let h = inside l k e in omega arith

pub more-put : (flags : List Bool) (i : ℕ) → More flags (set flags i true)
more-put flags i = record {
  size = length-set flags i true;
  kept = λ j f. by-test (eqb j i)
      (λ t. let e : j ≡ i = eqb-true j i t in
      record { on = ap (λ k. get_or (set flags i true) k false) e ∙ get_or-set_same flags i true false (inside flags i (ap (λ k. get_or flags k false) (sym e) ∙ f.on)) })
      (λ t. record { on = get_or-set_other flags i j true false (eqb-false j i t) ∙ f.on });
}

pub flag-there : (flags : List Bool) (i : ℕ) → i < length flags → Flag (set flags i true) i
flag-there flags i h = record { on = get_or-set_same flags i true false h }

-- ---- the flags of the relations that are named, one more in each turn

flags-snoc : (is : List ℕ) (b : ℕ) (flags : List Bool) → set_flags (is ++ (b ∷ [])) flags ≡ set (set_flags is flags) b true
unfolding set_flags
flags-snoc [] b flags = refl
flags-snoc (i ∷ is) b flags = flags-snoc is b (set flags i true)

flags-append : (is js : List ℕ) (flags : List Bool) → set_flags (is ++ js) flags ≡ set_flags js (set_flags is flags)
unfolding set_flags
flags-append [] js flags = refl
flags-append (i ∷ is) js flags = flags-append is js (set flags i true)

-- none, and one more
pub flags-none : (flags : List Bool) → NamesSet [] flags flags
unfolding set_flags
flags-none flags = record { here = refl; more = more_same flags; named = λ z h. All.nil; others = λ k h. refl }

names-last : (is : List ℕ) (flags flags' : List Bool) (b : ℕ) → NamesSet is flags flags' → NamesSet (is ++ (b ∷ [])) flags (set flags' b true)
names-last is flags flags' b s =
    let one = more-put flags' b in
    record {
      here = ap (λ (l : List Bool). set l b true) s.here ∙ sym (flags-snoc is b flags);
      more = more-more s.more one;
      named = λ z h.
          let before : All (Flag (set flags' b true)) is = more-all one (s.named z (all-before is (b ∷ []) h)) in
          let few : b < 16 = all_here is b [] h in
          let last : Flag (set flags' b true) b = flag-there flags' b (omega (arith, s.more.size, z, few)) in
          all_append before (All.cons last All.nil);
      others = λ k h. get_or-set_other flags' b k true false (all_here is b [] h) ∙ s.others k (all-before is (b ∷ []) h);
    }

pub names_more : (is : List ℕ) (n : ℕ) (flags flags' flags'' : List Bool) → n < length is → NamesSet (take n is) flags flags'
    → flags'' ≡ set flags' (get_or is n 0) true → NamesSet (take (n + 1) is) flags flags''
names_more is n flags flags' flags'' h s e =
    let k : n + 1 ≡ suc n = omega arith in
    let split : take (n + 1) is ≡ take n is ++ (get_or is n 0 ∷ []) = ap (λ j. take j is) k ∙ take-suc is n 0 h in
    rw (e, split) (names-last (take n is) flags flags' (get_or is n 0) s)

pub names-all : {is : List ℕ} {flags flags' : List Bool} {n : ℕ} → length is ≤ n → NamesSet (take n is) flags flags' → NamesSet is flags flags'
names-all {is} {flags} {flags'} {n} h s = subst (λ (l : List ℕ). NamesSet l flags flags') (take_all n is h) s

-- those of one list, and then those of another
pub names-append : {is js : List ℕ} {flags flags' flags'' : List Bool} → NamesSet is flags flags' → NamesSet js flags' flags'' → NamesSet (is ++ js) flags flags''
names-append {is} {js} {flags} {flags'} {flags''} s t = record {
  here = t.here ∙ ap (set_flags js) s.here ∙ sym (flags-append is js flags);
  more = more-more s.more t.more;
  named = λ z h. all_append (more-all t.more (s.named z (all-before is js h))) (t.named (s.more.size ∙ z) (all-behind is h));
  others = λ k h. t.others k (all-behind is h) ∙ s.others k (all-before is js h);
}

-- ---- the relation behind a byte 17, if there is one

behind-set : (v : ℕ) (frame : List ℕ) (i : ℕ) (flags : List Bool) → NamesSet (behind_at v frame i) flags (set_flags (behind_at v frame i) flags)
unfolding set_flags
behind-set v frame i flags = by-test (eqb (get_or frame i 0) 0x17 && ltb (get_or frame (i + 1) 0) v)
    (λ t. rw t (names-last [] flags flags (get_or frame (i + 1) 0) (flags-none flags)))
    (λ t. rw t (flags-none flags))

-- as the code finds it
module _ (v : ℕ) (frame : List ℕ) (i : ℕ) (flags : List Bool) where
  pub behind-other : {b : ℕ} → b ≡ get_or frame i 0 → (b ≡ 0x17 → ⊥) → flags ≡ set_flags (behind_at v frame i) flags
  unfolding set_flags
  behind-other e n = rw (ne_eqb (get_or frame i 0) 0x17 (λ q. n (e ∙ q)))

  pub behind-later : {r : ℕ} → r ≡ get_or frame (i + 1) 0 → v ≤ r → flags ≡ set_flags (behind_at v frame i) flags
  unfolding set_flags
  behind-later e h = by-test (eqb (get_or frame i 0) 0x17)
      (λ t. rw (t, le-ltb (get_or frame (i + 1) 0) v (rw (← e) h)))
      (λ t. rw t)

  pub behind-here : {b r : ℕ} → b ≡ get_or frame i 0 → b ≡ 0x17 → r ≡ get_or frame (i + 1) 0 → r < v → {flags' : List Bool} → flags' ≡ set flags r true
      → flags' ≡ set_flags (behind_at v frame i) flags
  unfolding set_flags
  behind-here e t d h p = p ∙ rw (eq-eqb (get_or frame i 0) 0x17 (sym e ∙ t), lt-ltb (get_or frame (i + 1) 0) v (rw (← d) h)) (ap (λ (j : ℕ). set flags j true) d)

-- those of one place more
pub behind-none : (v : ℕ) (frame : List ℕ) (flags : List Bool) → NamesSet (behind_to v frame 0) flags flags
unfolding behind_to
behind-none v frame flags = flags-none flags

pub behind_more : (v : ℕ) (frame : List ℕ) (i : ℕ) {flags flags' flags'' : List Bool} → NamesSet (behind_to v frame i) flags flags'
    → flags'' ≡ set_flags (behind_at v frame i) flags' → NamesSet (behind_to v frame (i + 1)) flags flags''
unfolding behind_to
behind_more v frame i {flags} {flags'} {flags''} s e = rw (add-one, e) (names-append s (behind-set v frame i flags'))
