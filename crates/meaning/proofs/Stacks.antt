-- Stacks: what stands at each place of one, over what stands before it, and what a step keeps on two stacks side by side. Assumes nothing.
use mathlib.Core.Path.{◌≡◌, refl, sym, ap, ap₂, ◌∙◌}
use mathlib.Core.Bool.{Bool, true, false, ◌&&◌, cond}
use mathlib.Core.List.{List, [], ◌∷◌, ◌++◌}
use mathlib.Core.Option.{some, none-ne-some}
use Prim.Native.Nat.{ℕ, zero, suc, ◌+◌, ◌<◌, ◌≤◌}
use native.Mathlib.Nat.{add-zero}
use native.Mathlib.Omega.{arith}
use lib.Dec.{ltb}
use lib.ListN.{length, get_or, get_elem?, take, drop, length-append, length-take, take-append-drop, get_or-append, get_or-eq_default}
use lib.Seq.{get_or-append_seam, take-append-le, take_at}
use borrow.Author.Tests.{ltb-true, ltb-false}
use Rattle.value.proofs.Decides.{by-test, and_parts}
use Rattle.meaning.specs.Lists.{Each, stack, stack_all}
use Rattle.meaning.proofs.Elements.{each_append}

-- the two cases of an order, as facts
pub by-lt {ℓ} : (m n : ℕ) {P : Type ℓ} → (ltb m n ≡ true → m < n → P) → (ltb m n ≡ false → n ≤ m → P) → P
by-lt m n y f = by-test (ltb m n) (λ e. y e (ltb-true m n e)) (λ e. f e (ltb-false m n e))

pub get_elem-lt : {A : Type 0} (xs : List A) (k : ℕ) (x : A) → get_elem? xs k ≡ some x → k < length xs
get_elem-lt [] k x e = absurd (none-ne-some x e)
get_elem-lt (y ∷ xs) zero x e = omega arith
get_elem-lt (y ∷ xs) (suc k) x e = let h = get_elem-lt xs k x e in omega arith

pub get_elem-some : {A : Type 0} (xs : List A) (k : ℕ) → k < length xs → (x : A) × (get_elem? xs k ≡ some x)
get_elem-some [] k h = absurd (omega arith)
get_elem-some (y ∷ xs) zero h = (y, refl)
get_elem-some (y ∷ xs) (suc k) h = get_elem-some xs k (omega arith)

pub length-snoc : {A : Type 0} (xs : List A) (x : A) → length (xs ++ (x ∷ [])) ≡ suc (length xs)
length-snoc xs x = length-append xs (x ∷ []) ∙ omega arith

module _ {A B : Type 0} (f : List B → A → B) where
  -- what stands there stays
  pub stack-keeps : (z : B) (xs : List A) (bs : List B) (i : ℕ) → i < length bs → get_or (stack f xs bs) i z ≡ get_or bs i z
  stack-keeps z [] bs i h = refl
  stack-keeps z (x ∷ xs) bs i h =
      let b = f bs x in
      stack-keeps z xs (bs ++ (b ∷ [])) i (rw (length-snoc bs b) (omega arith)) ∙ get_or-append bs (b ∷ []) z i h

  pub stack-take : (xs : List A) (bs : List B) (n : ℕ) → n ≤ length bs → take n (stack f xs bs) ≡ take n bs
  stack-take [] bs n h = refl
  stack-take (x ∷ xs) bs n h =
      let b = f bs x in
      stack-take xs (bs ++ (b ∷ [])) n (rw (length-snoc bs b) (omega arith)) ∙ take-append-le n bs (b ∷ []) h

  -- the element that x gives, over what stands before it
  pub stack_at : (z : B) (xs : List A) (bs : List B) (k : ℕ) (x : A) → get_elem? xs k ≡ some x
      → get_or (stack f xs bs) (length bs + k) z ≡ f (take (length bs + k) (stack f xs bs)) x
  stack_at z [] bs k x e = absurd (none-ne-some x e)
  stack_at z (y ∷ xs) bs zero x e =
      let b = f bs y in
      let yx : y ≡ x = cc in
      let l : length bs < length (bs ++ (b ∷ [])) = rw (length-snoc bs b) (omega arith) in
      rw (add-zero (length bs)) (stack-keeps z xs (bs ++ (b ∷ [])) (length bs) l
      ∙ get_or-append_seam bs b [] z ∙ ap₂ f (sym (stack-take xs (bs ++ (b ∷ [])) (length bs) (omega arith) ∙ take_at bs (b ∷ []) (length bs) refl)) yx)
  stack_at z (y ∷ xs) bs (suc k) x e =
      let b = f bs y in
      let l : length (bs ++ (b ∷ [])) + k ≡ length bs + suc k = rw (length-snoc bs b) (omega arith) in
      rw l at (stack_at z xs (bs ++ (b ∷ [])) k x e)

  pub length-stack : (xs : List A) (bs : List B) → length (stack f xs bs) ≡ length bs + length xs
  length-stack [] bs = omega arith
  length-stack (x ∷ xs) bs = length-stack xs (bs ++ (f bs x ∷ [])) ∙ rw (length-snoc bs (f bs x)) (omega arith)

  -- a test of every element holds of each, over what stands before it
  pub stack_all-at : (p : List B → A → Bool) (xs : List A) (bs : List B) → stack_all f p xs bs ≡ true → (k : ℕ) (x : A) → get_elem? xs k ≡ some x
      → p (take (length bs + k) (stack f xs bs)) x ≡ true
  stack_all-at p [] bs t k x e = absurd (none-ne-some x e)
  stack_all-at p (y ∷ xs) bs t zero x e =
      let b = f bs y in
      let yx : y ≡ x = cc in
      let h = and_parts (p bs y) (stack_all f p xs (bs ++ (b ∷ []))) t in
      let l : length bs ≤ length (bs ++ (b ∷ [])) = rw (length-snoc bs b) (omega arith) in
      rw (add-zero (length bs), stack-take xs (bs ++ (b ∷ [])) (length bs) l, take_at bs (b ∷ []) (length bs) refl, ← yx) h.0
  stack_all-at p (y ∷ xs) bs t (suc k) x e =
      let b = f bs y in
      let l : length (bs ++ (b ∷ [])) + k ≡ length bs + suc k = rw (length-snoc bs b) (omega arith) in
      rw l at (stack_all-at p xs (bs ++ (b ∷ [])) (and_parts (p bs y) (stack_all f p xs (bs ++ (b ∷ []))) t).1 k x e)

  pub stack-append : (xs ys : List A) (bs : List B) → stack f (xs ++ ys) bs ≡ stack f ys (stack f xs bs)
  stack-append [] ys bs = refl
  stack-append (x ∷ xs) ys bs = stack-append xs ys (bs ++ (f bs x ∷ []))

  -- what stands before element k, read from the whole stack
  pub stack-before : (d : B) (xs : List A) (bs : List B) (k : ℕ) → k ≤ length xs → (i : ℕ)
      → get_or (stack f (take k xs) bs) i d ≡ cond (ltb i (length bs + k)) (get_or (stack f xs bs) i d) d
  stack-before d xs bs k h i =
      let before = stack f (take k xs) bs in
      let l : length before ≡ length bs + k = length-stack (take k xs) bs ∙ omega (arith, length-take k xs) in
      let e : stack f xs bs ≡ stack f (drop k xs) before = ap (λ ys. stack f ys bs) (sym (take-append-drop k xs)) ∙ stack-append (take k xs) (drop k xs) bs in
      by-lt i (length bs + k)
      (λ t u. rw (t, e) (sym (stack-keeps d (drop k xs) before i (rw l u))))
      (λ t u. rw t (get_or-eq_default before d (rw l u)))

  -- two rules that hold everywhere hold together
  pub stack-both : (p q : List B → A → Bool) (xs : List A) (bs : List B) → stack_all f p xs bs ≡ true → stack_all f q xs bs ≡ true
      → stack_all f (λ bs x. p bs x && q bs x) xs bs ≡ true
  stack-both p q [] bs h k = refl
  stack-both p q (x ∷ xs) bs h k =
      let bs' = bs ++ (f bs x ∷ []) in
      let (h₁, h₂) = and_parts (p bs x) (stack_all f p xs bs') h in
      let (k₁, k₂) = and_parts (q bs x) (stack_all f q xs bs') k in
      rw (h₁, k₁) (stack-both p q xs bs' h₂ k₂)

-- ---- two stacks over the same elements, side by side

module _ {A B C : Type 0} (f : List B → A → B) (g : List C → A → C) (p : List B → A → Bool) (P : B → C → Type 0) (Q : List C → A → Type 0)
    (step : (bs : List B) (cs : List C) (x : A) → Each P bs cs → p bs x ≡ true → P (f bs x) (g cs x) × Q cs x) where
  -- where the rule holds of every element, the stacks correspond
  pub stacks-each : (xs : List A) (bs : List B) (cs : List C) → stack_all f p xs bs ≡ true → Each P bs cs → Each P (stack f xs bs) (stack g xs cs)
  stacks-each [] bs cs h e = e
  stacks-each (x ∷ xs) bs cs h e =
      let bs' = bs ++ (f bs x ∷ []) in
      let (h₁, h₂) = and_parts (p bs x) (stack_all f p xs bs') h in
      stacks-each xs bs' (cs ++ (g cs x ∷ [])) h₂ (each_append e (Each.cons (step bs cs x e h₁).0 Each.nil))

  -- and of each element the step's other fact holds, over what stands before it
  pub stacks-at : (xs : List A) (bs : List B) (cs : List C) → stack_all f p xs bs ≡ true → Each P bs cs
      → (k : ℕ) (x : A) → get_elem? xs k ≡ some x → Q (stack g (take k xs) cs) x
  stacks-at [] bs cs h e k x at = absurd (none-ne-some x at)
  stacks-at (y ∷ xs) bs cs h e zero x at =
      let (h₁, h₂) = and_parts (p bs y) (stack_all f p xs (bs ++ (f bs y ∷ []))) h in
      let yx : y ≡ x = cc in
      rw yx at (step bs cs y e h₁).1
  stacks-at (y ∷ xs) bs cs h e (suc k) x at =
      let bs' = bs ++ (f bs y ∷ []) in
      let (h₁, h₂) = and_parts (p bs y) (stack_all f p xs bs') h in
      stacks-at xs bs' (cs ++ (g cs y ∷ [])) h₂ (each_append e (Each.cons (step bs cs y e h₁).0 Each.nil)) k x at
