-- Foreign keys, tested pair by pair, row by row and key by key. Assumes nothing.
use mathlib.Core.Path.{◌≡◌, refl, sym, ap, ap₂, ◌∙◌}
use mathlib.Core.Bool.{Bool, true, false, ◌&&◌, and-false}
use mathlib.Core.List.{List, [], ◌∷◌, ◌++◌, map, append_assoc}
use Prim.Native.Nat.{ℕ, suc, ◌+◌, ◌-◌, ◌<◌, ◌≤◌}
use native.Mathlib.Omega.{arith}
use lib.Dec.{ltb}
use lib.IntN.{ℤ}
use lib.ListN.{length, get_or, drop, drop_of_length-le}
use lib.Seq.{drop-drop, get_or-drop}
use borrow.Author.Tests.{lt-ltb, le-ltb}
use Rattle.text.specs.Answers.{pack}
use Rattle.value.specs.Bag.{All}
use Rattle.value.specs.Value.{Value, value_test}
use Rattle.value.proofs.Places.{byte-here}
use Rattle.meaning.specs.Lists.{all, any}
use Rattle.meaning.specs.Syntax.{Pair, ForeignKey, File, Database}
use Rattle.meaning.specs.Evaluation.{missing}
use Rattle.meaning.specs.Decided.{agrees, foreign_key_holds}
use Rattle.meaning.proofs.Stacks.{by-lt}
use Rattle.language.specs.Legal.{LegalKey, LegalPair, table_at}
use Rattle.language.specs.Written.{key_bytes, pairs_bytes}
use Rattle.catalog.specs.Frames.{frame_at, key_parts_in}
use Rattle.catalog.specs.declared.frames.KeyParts.{KeyParts}
use Rattle.catalog.proofs.FrameLaws.{pack-cons, frame_here}
use Rattle.catalog.proofs.WrittenParts.{key-parts}
use Rattle.store.specs.Layout.{cell_in}
use Rattle.store.specs.Rows.{row_in, rows_in}
use Rattle.store.proofs.RowLaws.{cell-of-row}
use Rattle.cases.specs.TablesIn.{TablesIn}
use Rattle.cases.specs.Validity.{all_below, all_from, pair_agrees, agrees_in, has_parent_in, foreign_key_in, foreign_keys_in}
use Rattle.cases.proofs.RowTests.{all-rows, any-rows}

-- ---- things that stand one behind the other

-- k of n are passed: the rest, from `next` on, tells as much as all of them
pub record LeftFrom (bytes : List ℕ) (p : ℕ → Bool) (f : ℕ → ℕ) (at n next k : ℕ) : Type 0 where
  pub same : all_from bytes p f at n ≡ all_from bytes p f next (n - k)

module _ {bytes : List ℕ} {p : ℕ → Bool} {f : ℕ → ℕ} {at n : ℕ} where
  pub left-first : LeftFrom bytes p f at n at 0
  left-first = record { same = ap (all_from bytes p f at) (omega arith) }

  module _ {next k : ℕ} (s : LeftFrom bytes p f at n next k) (h : k < n) where
    opened : all_from bytes p f at n ≡ (ltb next (length bytes) && (p next && all_from bytes p f (f next) (n - (k + 1))))
    unfolding all_from
    opened = let e : n - k ≡ suc (n - (k + 1)) = omega arith in s.same ∙ ap (all_from bytes p f next) e

    pub left-ends : length bytes ≤ next → false ≡ all_from bytes p f at n
    left-ends o = sym (opened ∙ rw (le-ltb next (length bytes) o))

    pub left-fails : p next ≡ false → false ≡ all_from bytes p f at n
    left-fails z = sym (opened ∙ rw (z, and-false (ltb next (length bytes))))

    pub left-passes : next < length bytes → p next ≡ true → LeftFrom bytes p f at n (f next) (k + 1)
    left-passes i z = record { same = opened ∙ rw (lt-ltb next (length bytes) i, z) }

  pub left-none : {next k : ℕ} → n ≤ k → LeftFrom bytes p f at n next k → true ≡ all_from bytes p f at n
  unfolding all_from
  left-none {next} {k} h s = let e : n - k ≡ 0 = omega arith in sym (s.same ∙ ap (all_from bytes p f next) e)

-- where the elements of a list stand one behind the other, the test of each is that of the list
module _ {A : Type 0} (bytes : List ℕ) (p : ℕ → Bool) (f : ℕ → ℕ) (q : A → Bool) (P : A → Type 0) (Stand : List A → ℕ → Type 0)
    (one : (x : A) (xs : List A) (at : ℕ) → Stand (x ∷ xs) at → P x → (at < length bytes) × (p at ≡ q x) × Stand xs (f at)) where
  all_told : (xs : List A) (at : ℕ) → Stand xs at → All P xs → all_from bytes p f at (length xs) ≡ all q xs
  unfolding all_from
  all_told [] at s legal = refl
  all_told (x ∷ xs) at s (All.cons h hs) =
      let (i, e, t) = one x xs at s h in rw (lt-ltb at (length bytes) i, e) (ap (λ b. q x && b) (all_told xs (f at) t hs))

-- something stands there
within : (l : List ℕ) (n x : ℕ) (m : List ℕ) → drop n l ≡ x ∷ m → n < length l
within l n x m e = by-lt n (length l) (λ _ h. h) (λ _ h. let z : length (x ∷ m) ≡ 0 = ap length (sym e ∙ drop_of_length-le l {i = n} h) in absurd (omega arith))

-- ---- two rows, pair by pair

-- in the code's words
pub pair_is : (frame : List ℕ) (work : List ℤ) (child i parent j at : ℕ) {a b : ℕ} {x y : Value} {r : Bool} → a ≡ get_or frame at 0 → b ≡ get_or frame (at + 1) 0
    → x ≡ cell_in work child i a → y ≡ cell_in work parent j b → r ≡ value_test.same x y → pair_agrees frame work child i parent j at ≡ r
unfolding pair_agrees
pair_is frame work child i parent j at ea eb ex ey er =
    sym (er ∙ ap₂ value_test.same (ex ∙ ap (cell_in work child i) ea) (ey ∙ ap (cell_in work parent j) eb))

agrees-told : (frame : List ℕ) (key : KeyParts) (work : List ℤ) (i j : ℕ) (ps : List Pair) → key.count ≡ length ps → drop key.pairs frame ≡ pairs_bytes ps ++ []
    → (c q : ℕ) → All (LegalPair c q) ps → agrees_in frame key work i j ≡ agrees ps (row_in work key.child c i) (row_in work key.parent q j)
unfolding pair_agrees
agrees-told frame key work i j ps n e c q legal =
    let μ = row_in work key.child c i in
    let ν = row_in work key.parent q j in
    ap (all_from frame (pair_agrees frame work key.child i key.parent j) (λ at. at + 2) key.pairs) n
    ∙ all_told frame (pair_agrees frame work key.child i key.parent j) (λ at. at + 2)
    (λ p. value_test.same (get_or μ p.child missing) (get_or ν p.parent missing)) (LegalPair c q) (λ qs at. drop at frame ≡ pairs_bytes qs ++ [])
    (λ p qs at d ok. (
      within frame at _ _ d,
      ap₂ value_test.same
          (ap (cell_in work key.child i) (byte-here frame at d).0 ∙ sym (cell-of-row work key.child c i p.child ok.child))
          (ap (cell_in work key.parent j) (sym (get_or-drop at frame 1 0) ∙ ap (λ l. get_or l 1 0) d) ∙ sym (cell-of-row work key.parent q j p.parent ok.parent)),
      sym (drop-drop 2 at frame) ∙ ap (drop 2) d,
    ))
    ps key.pairs e legal

-- ---- a foreign key

-- in the code's words
pub key-is : (frame counts : List ℕ) (work : List ℤ) {key : KeyParts} {children parents : ℕ} {r : Bool} → key ≡ key_parts_in frame → children ≡ get_or counts key.child 0
    → parents ≡ get_or counts key.parent 0 → all_below (has_parent_in frame key work parents) children ≡ r → r ≡ foreign_key_in frame counts work
unfolding foreign_key_in
key-is frame counts work {key = key} ek es ep er =
    sym er ∙ ap₂ (λ n m. all_below (has_parent_in frame key work n) m) ep es ∙ ap (λ k. all_below (has_parent_in frame k work (get_or counts k.parent 0)) (get_or counts k.child 0)) ek

foreign-told : (F : File) (d : Database) (k : ForeignKey) (frame counts : List ℕ) (work : List ℤ) → frame ≡ key_bytes k → LegalKey F.tables k → TablesIn F d counts work
    → foreign_key_in frame counts work ≡ foreign_key_holds d k
unfolding foreign_key_in
foreign-told F d k frame counts work e legal s =
    let key = key_parts_in frame in
    let w = length (table_at F.tables k.child).columns in
    let v = length (table_at F.tables k.parent).columns in
    let (fc, fp, fn, fb) = key-parts k frame e in
    let parents : rows_in work key.parent v (get_or counts key.parent 0) ≡ get_or d k.parent [] = rw fp (s.table k.parent legal.fields.parent) in
    let children : rows_in work key.child w (get_or counts key.child 0) ≡ get_or d k.child [] = rw fc (s.table k.child legal.fields.child) in
    all-rows work key.child w (has_parent_in frame key work (get_or counts key.parent 0)) (λ μ. any (agrees k.pairs μ) (get_or d k.parent []))
    (λ i. any-rows work key.parent v (agrees_in frame key work i) (agrees k.pairs (row_in work key.child w i))
    (λ j. agrees-told frame key work i j k.pairs fn fb w v legal.fields.pairs) (get_or counts key.parent 0)
    ∙ ap (any (agrees k.pairs (row_in work key.child w i))) parents)
    (get_or counts key.child 0)
    ∙ ap (all (λ μ. any (agrees k.pairs μ) (get_or d k.parent []))) children

-- ---- the foreign keys of a file

-- in the code's words: the frame at a place, and where the next one begins
module _ (bytes : List ℕ) (next : ℕ) {frame : List ℕ} (e : frame ≡ frame_at bytes next) where
  pub held-there : (counts : List ℕ) (work : List ℤ) {r : Bool} → r ≡ foreign_key_in frame counts work → foreign_key_in (frame_at bytes next) counts work ≡ r
  held-there counts work h = sym (h ∙ ap (λ x. foreign_key_in x counts work) e)

  pub next-there : {p : ℕ → Bool} {f : ℕ → ℕ} {at n k : ℕ} → LeftFrom bytes p f at n (next + 1 + length (frame_at bytes next)) k
      → LeftFrom bytes p f at n (next + 1 + length frame) k
  next-there s = rw e s

pub foreigns-told : (F : File) (d : Database) (bytes : List ℕ) (at keys : ℕ) (counts : List ℕ) (work : List ℤ) (ks : List ForeignKey) (rest : List ℕ)
    → drop at bytes ≡ pack (map key_bytes ks) ++ rest → keys ≡ length ks → All (LegalKey F.tables) ks → TablesIn F d counts work
    → foreign_keys_in bytes at keys counts work ≡ all (foreign_key_holds d) ks
foreigns-told F d bytes at keys counts work ks rest e n legal s =
    ap (λ m. foreign_keys_in bytes at m counts work) n
    ∙ all_told bytes (λ next. foreign_key_in (frame_at bytes next) counts work) (λ next. next + 1 + length (frame_at bytes next)) (foreign_key_holds d)
    (LegalKey F.tables) (λ us next. drop next bytes ≡ pack (map key_bytes us) ++ rest)
    (λ k us next g ok.
    let own = key_bytes k in
    let behind = pack (map key_bytes us) in
    let there = g ∙ ap (λ t. t ++ rest) (pack-cons own (map key_bytes us)) ∙ ap (λ t. length own ∷ t) (append_assoc own behind rest) in
    let (fr, bh) = frame_here bytes next own (behind ++ rest) there in
    (within bytes next _ _ there, foreign-told F d k (frame_at bytes next) counts work fr ok s, ap (λ (x : List ℕ). drop (next + 1 + length x) bytes) fr ∙ bh))
    ks at e legal
