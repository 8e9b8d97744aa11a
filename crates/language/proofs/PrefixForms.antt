-- The facts about prefix forms, for bytes of any length.
--     read_e-step, read_c-step       reading goes by the token, whatever the depth
--     suffix_e, suffix_c             what is left ends the bytes
--     sound_e, sound_c               what is read from bytes is the encoding of a tree in its limits
--     back_e, back_c                 such an encoding reads back as its tree, and the bytes behind it are left
--     inner-there_e, inner-there_c   the relations that it names are there
--     unique_e, unique_c             so no bytes begin with two encodings
-- Assumes nothing.
use mathlib.Core.Path.{◌≡◌, refl, sym, ap, ◌∙◌}
use mathlib.Core.Bool.{true}
use mathlib.Core.List.{List, [], ◌∷◌, ◌++◌, append_assoc}
use Prim.Native.Nat.{ℕ, zero, suc, ◌+◌, ◌*◌, ◌≤◌, ◌<◌}
use native.Mathlib.Nat.{le_refl, div-add-mod'}
use native.Mathlib.Omega.{arith}
use lib.Dec.{ltb, leb}
use lib.IntN.{ℤ, pos}
use lib.ListN.{length, get_or}
use lib.Signed.{◌≤ℤ◌}
use mir.Syntax.{w16}
use mir.Val.{SFits}
use borrow.Author.Tests.{ltb-true, leb-true, ltb-false, lt-ltb, le-leb}
use Rattle.value.specs.Bag.{All}
use Rattle.value.specs.Integer.{low16, high16, signed_of, bytes_z, bits_of, high_byte, low_byte}
use Rattle.value.specs.Value.{Operation, Comparison, Connective, Aggregate, aggregate_at}
use Rattle.value.proofs.Decides.{by-test}
use Rattle.value.proofs.Linear.{diff-parts, ints}
use Rattle.value.proofs.TwosComplement.{bytes_back, high-back, low-back, signed_low, signed_high}
use Rattle.meaning.specs.Syntax.{Expr, Cond}
use Rattle.meaning.specs.Bounds.{inner_e, inner_c}
use Rattle.meaning.proofs.Elements.{all_append}
use Rattle.language.specs.Prefix.{operation_token, comparison_token, connective_token, aggregate_byte, encode_e, encode_c}
use Rattle.language.specs.Reading.{Reader, Open, opened_item, done, ◌>>=◌, choose, place, existing, expressions, conditions, deep_e, deep_c, read_e, read_c, InLimitsE, InLimitsC, Read}
use Rattle.language.proofs.Readers.{Byte, one, Sound, SoundAll, entry, none, sound-done, sound-refuse, sound-bind, sound-either, sound-byte, sound-byte_if, sound-step, sound-table, alike-suffix, Agree, AgreeAll, agree-done, agree-refuse, agree-bind, agree-either, agree-byte, agree-byte_if, agree-step, choose-same, agree-table, agree-empty, agree-deep, read-once, Alike}

-- ---- fields

-- two bytes stand for sixteen bits
module _ (h l : ℕ) (p : Byte h) (q : Byte l) where
  pub constant-limits : (low16 ≤ℤ bytes_z h l) × (bytes_z h l ≤ℤ high16)
  constant-limits =
      let n = h * 256 + l in
      by-test (ltb n 32768)
      (λ t. let b : n < 32768 = ltb-true n 32768 t in rw (signed_low n b) (omega ints, omega ints))
      (λ t. let b : 32768 ≤ n = ltb-false n 32768 t in let d = diff-parts (pos n) (pos 65536) in rw (signed_high n b) (omega ints, omega ints))

  constant-back : 0x00 ∷ h ∷ l ∷ [] ≡ encode_e (Expr.constant (bytes_z h l))
  unfolding encode_e
  constant-back = rw (high-back h l p q, low-back h l p q)

pub constant-fits : (z : ℤ) → low16 ≤ℤ z → z ≤ℤ high16 → SFits w16 z
constant-fits z l h = omega ints

aggregate-back : (n : ℕ) → n ≤ 3 → aggregate_byte (aggregate_at n) ≡ n
aggregate-back zero h = refl
aggregate-back (suc zero) h = refl
aggregate-back (suc (suc zero)) h = refl
aggregate-back (suc (suc (suc n))) h = let z : n ≡ 0 = omega arith in rw z

pub aggregate-at : (op : Aggregate) → (leb (aggregate_byte op) 3 ≡ true) × (aggregate_at (aggregate_byte op) ≡ op)
aggregate-at Aggregate.count = (refl, refl)
aggregate-at Aggregate.sum = (refl, refl)
aggregate-at Aggregate.minimum = (refl, refl)
aggregate-at Aggregate.maximum = (refl, refl)

module _ (o : Open) where
  abbrev SoundE : Reader Expr → Type 0
  SoundE e = Sound [] e encode_e (InLimitsE o)

  abbrev SoundC : Reader Cond → Type 0
  SoundC c = Sound [] c encode_c (InLimitsC o)

  sound-place : Sound (one 0x01) (place o.widths) encode_e (InLimitsE o)
  unfolding encode_e InLimitsE
  sound-place =
      sound-bind (sound-byte_if 6 (λ i. ltb i (length o.widths))) (λ i p. sound-bind (sound-byte_if 6 (λ c. ltb c (get_or o.widths i 0)))
      (λ c q. sound-done (Expr.column i c) refl (ltb-true i (length o.widths) p, ltb-true c (get_or o.widths i 0) q)))

  agree-place : {k : ℕ} → Agree k (place o.widths) (place o.widths)
  agree-place =
      agree-bind (agree-byte_if 6 (λ i. ltb i (length o.widths))) (λ i. agree-bind (agree-byte_if 6 (λ c. ltb c (get_or o.widths i 0))) (λ c. agree-done))

  -- ---- soundness: one line for each token
  module _ {e : Reader Expr} (se : SoundE e) where
    sound-operation : (op : Operation) → Sound (one (operation_token op)) (e >>= λ a. e >>= λ b. done (Expr.operation op a b)) encode_e (InLimitsE o)
    unfolding encode_e InLimitsE
    sound-operation op = sound-bind se (λ a p. sound-bind se (λ b q. sound-done (Expr.operation op a b) refl (p, q)))

    sound-comparison : (op : Comparison) → Sound (one (comparison_token op)) (e >>= λ a. e >>= λ b. done (Cond.comparison op a b)) encode_c (InLimitsC o)
    unfolding encode_c InLimitsC
    sound-comparison op = sound-bind se (λ a p. sound-bind se (λ b q. sound-done (Cond.comparison op a b) refl (p, q)))

    sound-aggregate : (n : ℕ) → leb n 3 ≡ true → Sound (0x07 ∷ n ∷ []) (e >>= λ a. done (Expr.aggregate (aggregate_at n) a)) encode_e (InLimitsE o)
    unfolding encode_e InLimitsE
    sound-aggregate n h =
        let b : n ≡ aggregate_byte (aggregate_at n) = sym (aggregate-back n (leb-true n 3 h)) in
        sound-bind se (λ a p. sound-done (Expr.aggregate (aggregate_at n) a) (ap (λ (t : ℕ). 0x07 ∷ t ∷ encode_e a) b) p)

    sound-expressions : {c : Reader Cond} → SoundC c → SoundAll encode_e (InLimitsE o) (expressions o e c)
    unfolding encode_e InLimitsE
    sound-expressions sc =
        entry (sound-bind sound-byte (λ h p. sound-bind sound-byte (λ l q. sound-done (Expr.constant (bytes_z h l)) (constant-back h l p q) (constant-limits h l p q))))
        (entry sound-place
        (entry (sound-operation Operation.sum)
        (entry (sound-operation Operation.difference)
        (entry (sound-operation Operation.product)
        (entry (sound-bind sound-step (λ m p. sound-bind se (λ a q. sound-done (Expr.rounding m a) refl (p.0, p.1, q))))
        (entry (sound-bind sc (λ t h. sound-bind se (λ a p. sound-bind se (λ b q. sound-done (Expr.choice t a b) refl (h, p, q)))))
        (entry (sound-bind (sound-byte_if 5 (λ n. leb n 3)) sound-aggregate)
        none)))))))

module _ {c : Open → Reader Cond} (sc : (o : Open) → SoundC o (c o)) (o : Open) where
  sound-connection : (op : Connective) → Sound (one (connective_token op)) (c o >>= λ s. c o >>= λ t. done (Cond.connection op s t)) encode_c (InLimitsC o)
  unfolding encode_c InLimitsC
  sound-connection op = sound-bind (sc o) (λ s p. sound-bind (sc o) (λ t q. sound-done (Cond.connection op s t) refl (p, q)))

  sound-existing : Sound (one 0x17) (existing o c) encode_c (InLimitsC o)
  unfolding encode_c InLimitsC
  sound-existing = sound-either (ltb (length o.widths) 6)
      (λ h. sound-bind (sound-byte_if 6 (λ i. ltb i (length o.relations))) (λ i p. sound-bind (sc (opened_item o i))
      (λ t q. sound-done (Cond.exists i t) refl (ltb-true (length o.widths) 6 h, ltb-true i (length o.relations) p, q))))
      (λ _. sound-refuse)

  sound-conditions : {e : Reader Expr} → SoundE o e → SoundAll encode_c (InLimitsC o) (conditions o e c)
  unfolding encode_c InLimitsC
  sound-conditions se =
      entry (sound-done Cond.always refl tt)
      (entry (sound-comparison o se Comparison.equal)
      (entry (sound-comparison o se Comparison.less)
      (entry (sound-comparison o se Comparison.less_equal)
      (entry (sound-bind (sc o) (λ t p. sound-done (Cond.negated t) refl p))
      (entry (sound-connection Connective.conjunction)
      (entry (sound-connection Connective.disjunction)
      (entry sound-existing
      none)))))))

mutual
  unfolding deep_e

  deep-sound_e : (o : Open) (n : ℕ) → SoundE o (deep_e o n)
  deep-sound_e o zero = sound-refuse
  deep-sound_e o (suc n) = sound-table (sound-expressions o (deep-sound_e o n) (deep-sound_c o n))

  deep-sound_c : (o : Open) (n : ℕ) → SoundC o (deep_c o n)
  deep-sound_c o zero = sound-refuse
  deep-sound_c o (suc n) = sound-table (sound-conditions (λ p. deep-sound_c p n) o (deep-sound_e o n))

module _ (o : Open) where
  pub sound_e : (bs : List ℕ) (e : Expr) (rest : List ℕ) → All Byte bs → read_e o bs ≡ Read.ok e rest → (bs ≡ encode_e e ++ rest) × InLimitsE o e
  unfolding read_e
  sound_e bs = (deep-sound_e o (length bs)).reads bs

  pub sound_c : (bs : List ℕ) (c : Cond) (rest : List ℕ) → All Byte bs → read_c o bs ≡ Read.ok c rest → (bs ≡ encode_c c ++ rest) × InLimitsC o c
  unfolding read_c
  sound_c bs = (deep-sound_c o (length bs)).reads bs

  -- ---- readers that agree make tables that agree: one line for each token
  module _ {k : ℕ} {e f : Reader Expr} (ae : Agree k e f) where
    agree-two : {A : Type 0} (g : Expr → Expr → A) → Agree k (e >>= λ a. e >>= λ b. done (g a b)) (f >>= λ a. f >>= λ b. done (g a b))
    agree-two g = agree-bind ae (λ a. agree-bind ae (λ b. agree-done))

    agree-expressions : {c d : Reader Cond} → Agree k c d → AgreeAll k (expressions o e c) (expressions o f d)
    agree-expressions ac =
        entry (agree-bind agree-byte (λ h. agree-bind agree-byte (λ l. agree-done)))
        (entry (agree-place o)
        (entry (agree-two (Expr.operation Operation.sum))
        (entry (agree-two (Expr.operation Operation.difference))
        (entry (agree-two (Expr.operation Operation.product))
        (entry (agree-bind agree-step (λ m. agree-bind ae (λ a. agree-done)))
        (entry (agree-bind ac (λ t. agree-two (Expr.choice t)))
        (entry (agree-bind (agree-byte_if 5 (λ n. leb n 3)) (λ n. agree-bind ae (λ a. agree-done)))
        none)))))))

    module _ {c d : Open → Reader Cond} (ac : (o : Open) → Agree k (c o) (d o)) where
      agree-connection : (op : Connective)
          → Agree k (c o >>= λ s. c o >>= λ t. done (Cond.connection op s t)) (d o >>= λ s. d o >>= λ t. done (Cond.connection op s t))
      agree-connection op = agree-bind (ac o) (λ s. agree-bind (ac o) (λ t. agree-done))

      agree-existing : Agree k (existing o c) (existing o d)
      agree-existing = agree-either (ltb (length o.widths) 6)
          (agree-bind (agree-byte_if 6 (λ i. ltb i (length o.relations))) (λ i. agree-bind (ac (opened_item o i)) (λ t. agree-done))) agree-refuse

      agree-conditions : AgreeAll k (conditions o e c) (conditions o f d)
      agree-conditions =
          entry agree-done
          (entry (agree-two (Cond.comparison Comparison.equal))
          (entry (agree-two (Cond.comparison Comparison.less))
          (entry (agree-two (Cond.comparison Comparison.less_equal))
          (entry (agree-bind (ac o) (λ t. agree-done))
          (entry (agree-connection Connective.conjunction)
          (entry (agree-connection Connective.disjunction)
          (entry agree-existing
          none)))))))

  empty_e : (n : ℕ) → deep_e o n [] ≡ Read.refused 4
  unfolding deep_e
  empty_e zero = refl
  empty_e (suc n) = refl

  empty_c : (n : ℕ) → deep_c o n [] ≡ Read.refused 4
  unfolding deep_c
  empty_c zero = refl
  empty_c (suc n) = refl

-- as deep as the bytes go is deep enough
mutual
  unfolding deep_e

  enough_e : (o : Open) (n m k : ℕ) → k ≤ n → k ≤ m → Agree k (deep_e o n) (deep_e o m)
  enough_e o zero m k p q = agree-empty p (rw (empty_e o m) Alike.refusal)
  enough_e o (suc n) zero k p q = agree-empty q Alike.refusal
  enough_e o (suc n) (suc m) k p q =
      agree-table (λ j h. agree-expressions o (enough_e o n m j (omega arith) (omega arith)) (enough_c o n m j (omega arith) (omega arith)))

  enough_c : (o : Open) (n m k : ℕ) → k ≤ n → k ≤ m → Agree k (deep_c o n) (deep_c o m)
  enough_c o zero m k p q = agree-empty p (rw (empty_c o m) Alike.refusal)
  enough_c o (suc n) zero k p q = agree-empty q Alike.refusal
  enough_c o (suc n) (suc m) k p q =
      agree-table (λ j h. agree-conditions o (enough_e o n m j (omega arith) (omega arith)) (λ x. enough_c x n m j (omega arith) (omega arith)))

module _ (o : Open) where
  deep-read_e : (n : ℕ) → Agree n (deep_e o n) (read_e o)
  unfolding read_e
  deep-read_e = agree-deep (enough_e o)

  deep-read_c : (n : ℕ) → Agree n (deep_c o n) (read_c o)
  unfolding read_c
  deep-read_c = agree-deep (enough_c o)

  -- ---- whatever the bytes are, those behind a tree end them
  pub suffix_e : (bs : List ℕ) (e : Expr) (rest : List ℕ) → read_e o bs ≡ Read.ok e rest → (used : List ℕ) × (bs ≡ used ++ rest)
  suffix_e bs e rest = alike-suffix ((deep-read_e (length bs)).same bs (le_refl (length bs)))

  pub suffix_c : (bs : List ℕ) (c : Cond) (rest : List ℕ) → read_c o bs ≡ Read.ok c rest → (used : List ℕ) × (bs ≡ used ++ rest)
  suffix_c bs c rest = alike-suffix ((deep-read_c (length bs)).same bs (le_refl (length bs)))

  -- ---- reading goes by the token
  pub read_e-nil : read_e o [] ≡ Read.refused 4
  unfolding read_e
  read_e-nil = empty_e o 0

  pub read_c-nil : read_c o [] ≡ Read.refused 4
  unfolding read_c
  read_c-nil = empty_c o 0

module _ (o : Open) where
  pub read_e-step : (t : ℕ) (bs : List ℕ) → read_e o (t ∷ bs) ≡ choose (expressions o (read_e o) (read_c o)) t bs
  unfolding read_e deep_e
  read_e-step t bs = choose-same t bs (agree-expressions o (deep-read_e o (length bs)) (deep-read_c o (length bs)))

  pub read_c-step : (t : ℕ) (bs : List ℕ) → read_c o (t ∷ bs) ≡ choose (conditions o (read_e o) read_c) t bs
  unfolding read_c deep_c
  read_c-step t bs = choose-same t bs (agree-conditions o (deep-read_e o (length bs)) (λ p. deep-read_c p (length bs)))

  -- the tokens of one kind of node
  pub read_e-operation : (op : Operation) (bs : List ℕ)
      → read_e o (operation_token op ∷ bs) ≡ (read_e o >>= λ a. read_e o >>= λ b. done (Expr.operation op a b)) bs
  read_e-operation Operation.sum = read_e-step 0x02
  read_e-operation Operation.difference = read_e-step 0x03
  read_e-operation Operation.product = read_e-step 0x04

  pub read_c-comparison : (op : Comparison) (bs : List ℕ)
      → read_c o (comparison_token op ∷ bs) ≡ (read_e o >>= λ a. read_e o >>= λ b. done (Cond.comparison op a b)) bs
  read_c-comparison Comparison.equal = read_c-step 0x11
  read_c-comparison Comparison.less = read_c-step 0x12
  read_c-comparison Comparison.less_equal = read_c-step 0x13

  pub read_c-connection : (op : Connective) (bs : List ℕ)
      → read_c o (connective_token op ∷ bs) ≡ (read_c o >>= λ s. read_c o >>= λ t. done (Cond.connection op s t)) bs
  read_c-connection Connective.conjunction = read_c-step 0x15
  read_c-connection Connective.disjunction = read_c-step 0x16

-- ---- an encoding reads back
mutual
  unfolding encode_e InLimitsE

  pub back_e : (o : Open) (e : Expr) (rest : List ℕ) → InLimitsE o e → read_e o (encode_e e ++ rest) ≡ Read.ok e rest
  back_e o (Expr.constant z) rest h =
      read_e-step o 0x00 (high_byte z ∷ low_byte z ∷ rest) ∙ ap (λ (n : ℤ). Read.ok (Expr.constant n) rest) (bytes_back z (constant-fits z h.0 h.1))
  back_e o (Expr.column i c) rest h = read_e-step o 0x01 (i ∷ c ∷ rest) ∙ rw (lt-ltb _ _ h.0, lt-ltb _ _ h.1)
  back_e o (Expr.operation op a b) rest h =
      read_e-operation o op _ ∙ rw (append_assoc (encode_e a) (encode_e b) rest, back_e o a _ h.0, back_e o b _ h.1)
  back_e o (Expr.rounding m a) rest h =
      read_e-step o 0x05 _ ∙ rw (div-add-mod' m 256, le-leb 1 m h.0, le-leb m 1000 h.1, back_e o a _ h.2)
  back_e o (Expr.choice c a b) rest h =
      read_e-step o 0x06 _
      ∙ rw (
        append_assoc (encode_c c ++ encode_e a) (encode_e b) rest,
        append_assoc (encode_c c) (encode_e a) (encode_e b ++ rest),
        back_c o c _ h.0,
        back_e o a _ h.1,
        back_e o b _ h.2,
      )
  back_e o (Expr.aggregate op a) rest h =
      read_e-step o 0x07 _ ∙ rw ((aggregate-at op).0, back_e o a _ h, (aggregate-at op).1)

  pub back_c : (o : Open) (c : Cond) (rest : List ℕ) → InLimitsC o c → read_c o (encode_c c ++ rest) ≡ Read.ok c rest
  back_c o Cond.always rest h = read_c-step o 0x10 rest
  back_c o (Cond.comparison op a b) rest h =
      read_c-comparison o op _ ∙ rw (append_assoc (encode_e a) (encode_e b) rest, back_e o a _ h.0, back_e o b _ h.1)
  back_c o (Cond.negated c) rest h = read_c-step o 0x14 _ ∙ rw (back_c o c _ h)
  back_c o (Cond.connection op c d) rest h =
      read_c-connection o op _ ∙ rw (append_assoc (encode_c c) (encode_c d) rest, back_c o c _ h.0, back_c o d _ h.1)
  back_c o (Cond.exists i c) rest h = read_c-step o 0x17 _ ∙ rw (lt-ltb _ _ h.0, lt-ltb _ _ h.1, back_c (opened_item o i) c _ h.2)

-- ---- the relations that a tree names are there
mutual
  unfolding InLimitsE

  pub inner-there_e : (o : Open) (e : Expr) → InLimitsE o e → All (λ i. i < length o.relations) (inner_e e)
  inner-there_e o (Expr.constant z) h = All.nil
  inner-there_e o (Expr.column i c) h = All.nil
  inner-there_e o (Expr.operation op a b) h = all_append (inner-there_e o a h.0) (inner-there_e o b h.1)
  inner-there_e o (Expr.rounding m a) h = inner-there_e o a h.2
  inner-there_e o (Expr.choice c a b) h = all_append (inner-there_c o c h.0) (all_append (inner-there_e o a h.1) (inner-there_e o b h.2))
  inner-there_e o (Expr.aggregate op a) h = inner-there_e o a h

  pub inner-there_c : (o : Open) (c : Cond) → InLimitsC o c → All (λ i. i < length o.relations) (inner_c c)
  inner-there_c o Cond.always h = All.nil
  inner-there_c o (Cond.comparison op a b) h = all_append (inner-there_e o a h.0) (inner-there_e o b h.1)
  inner-there_c o (Cond.negated c) h = inner-there_c o c h
  inner-there_c o (Cond.connection op c d) h = all_append (inner-there_c o c h.0) (inner-there_c o d h.1)
  inner-there_c o (Cond.exists i c) h = All.cons h.1 (inner-there_c (opened_item o i) c h.2)

-- ---- no bytes begin with two encodings
module _ (o : Open) where
  pub unique_e : (e e' : Expr) (rest rest' : List ℕ) → InLimitsE o e → InLimitsE o e' → encode_e e ++ rest ≡ encode_e e' ++ rest'
      → (e ≡ e') × (rest ≡ rest')
  unique_e e e' rest rest' p q = read-once (read_e o) (back_e o e rest p) (back_e o e' rest' q)

  pub unique_c : (c c' : Cond) (rest rest' : List ℕ) → InLimitsC o c → InLimitsC o c' → encode_c c ++ rest ≡ encode_c c' ++ rest'
      → (c ≡ c') × (rest ≡ rest')
  unique_c c c' rest rest' p q = read-once (read_c o) (back_c o c rest p) (back_c o c' rest' q)

-- ---- examples, over one from item with one column: document 01's where condition, 8 < column 0 of from item 0, and its select expression
abbrev one-item : Open
one-item = record { widths = 1 ∷ []; relations = 1 ∷ 2 ∷ [] }

where-condition : Cond
where-condition = Cond.comparison Comparison.less (Expr.constant (pos 8)) (Expr.column 0 0)

where-bytes : List ℕ
where-bytes = 0x12 ∷ 0x00 ∷ 0x00 ∷ 0x08 ∷ 0x01 ∷ 0x00 ∷ 0x00 ∷ []

select-bytes : List ℕ
select-bytes = 0x01 ∷ 0x00 ∷ 0x00 ∷ []

where-encodes : encode_c where-condition ≡ where-bytes
unfolding encode_c where-condition where-bytes bits_of
where-encodes = refl

where-reads : read_c one-item (where-bytes ++ select-bytes) ≡ Read.ok where-condition select-bytes
unfolding read_c deep_c where-condition where-bytes select-bytes signed_of
where-reads = refl

select-reads : read_e one-item select-bytes ≡ Read.ok (Expr.column 0 0) []
unfolding read_e deep_e select-bytes
select-reads = refl

-- 4: the bytes end early, and a condition token stands where an expression is due
ends-early : read_e one-item (0x02 ∷ 0x01 ∷ 0x00 ∷ 0x00 ∷ []) ≡ Read.refused 4
unfolding read_e deep_e
ends-early = refl

not-an-expression : read_e one-item where-bytes ≡ Read.refused 4
unfolding read_e deep_e where-bytes
not-an-expression = refl

-- 5: a step of 1,001; 6: a second from item
step-too-large : read_e one-item (0x05 ∷ 0x03 ∷ 0xe9 ∷ select-bytes) ≡ Read.refused 5
unfolding read_e deep_e select-bytes
step-too-large = refl

no-such-item : read_e one-item (0x01 ∷ 0x01 ∷ 0x00 ∷ []) ≡ Read.refused 6
unfolding read_e deep_e
no-such-item = refl

-- exists over relation 1, whose row is from item 1: its column 1 equals column 0 of from item 0
exists-condition : Cond
exists-condition = Cond.exists 1 (Cond.comparison Comparison.equal (Expr.column 1 1) (Expr.column 0 0))

exists-bytes : List ℕ
exists-bytes = 0x17 ∷ 0x01 ∷ 0x11 ∷ 0x01 ∷ 0x01 ∷ 0x01 ∷ select-bytes

exists-encodes : encode_c exists-condition ≡ exists-bytes
unfolding encode_c exists-condition exists-bytes select-bytes
exists-encodes = refl

exists-reads : read_c one-item (exists-bytes ++ select-bytes) ≡ Read.ok exists-condition select-bytes
unfolding read_c deep_c exists-condition exists-bytes select-bytes
exists-reads = refl

-- 4: its relation is missing; 6: it is not there, and its row is closed behind it
exists-ends-early : read_c one-item (0x17 ∷ []) ≡ Read.refused 4
unfolding read_c deep_c
exists-ends-early = refl

exists-no-relation : read_c one-item (0x17 ∷ 0x02 ∷ 0x10 ∷ []) ≡ Read.refused 6
unfolding read_c deep_c
exists-no-relation = refl

exists-closed : read_c one-item (0x15 ∷ 0x17 ∷ 0x01 ∷ 0x10 ∷ 0x11 ∷ 0x01 ∷ 0x01 ∷ 0x00 ∷ select-bytes) ≡ Read.refused 6
unfolding read_c deep_c select-bytes
exists-closed = refl

-- 5: a seventh item, at the token itself, before its relation is missing
exists-seventh : read_c one-item (0x17 ∷ 0x00 ∷ 0x17 ∷ 0x00 ∷ 0x17 ∷ 0x00 ∷ 0x17 ∷ 0x00 ∷ 0x17 ∷ 0x00 ∷ 0x17 ∷ []) ≡ Read.refused 5
unfolding read_c deep_c
exists-seventh = refl
