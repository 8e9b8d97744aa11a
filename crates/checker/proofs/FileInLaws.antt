-- Where the frames of a file are in its packed bytes, which may go on behind them. Assumes nothing.
use mathlib.Core.Path.{◌≡◌, refl, sym, ap, ◌∙◌}
use mathlib.Core.List.{List, [], ◌∷◌, ◌++◌, map, append_assoc}
use mathlib.Core.Option.{some, none-ne-some}
use Prim.Native.Nat.{ℕ, zero, suc, ◌+◌, ◌-◌, ◌≤◌}
use native.Mathlib.Omega.{arith}
use lib.ListN.{length, get_elem?, drop, length-append, length-map}
use lib.Seq.{drop_at, drop-append-add}
use Rattle.text.specs.Answers.{pack}
use Rattle.meaning.specs.Syntax.{View, File}
use Rattle.meaning.specs.Algebra.{query}
use Rattle.meaning.proofs.Relations.{query-split}
use Rattle.meaning.proofs.Stacks.{by-lt}
use Rattle.language.specs.Written.{table_bytes, key_bytes, view_bytes, goal_bytes, file_frames}
use Rattle.language.proofs.SoundFrames.{regroup}
use Rattle.catalog.specs.Frames.{frame_at}
use Rattle.catalog.proofs.FrameLaws.{pack-cons, frame_here}
use Rattle.checker.specs.Plans.{start_from, frame_number}
use Rattle.checker.proofs.WalkLaws.{start_back}

pack-append : (a b : List (List ℕ)) → pack (a ++ b) ≡ pack a ++ pack b
unfolding pack
pack-append [] b = refl
pack-append (f ∷ a) b =
    ap (λ (l : List ℕ). length f ∷ f ++ l) (pack-append a b) ∙ ap (λ (l : List ℕ). length f ∷ l) (sym (append_assoc f (pack a) (pack b)))

-- behind k elements stands element k
drop-element : {A B : Type 0} (f : A → B) (xs : List A) (more : List B) (k : ℕ) (x : A) → get_elem? xs k ≡ some x
    → (rest : List B) × (drop k (map f xs ++ more) ≡ f x ∷ rest)
drop-element f [] more k x e = absurd (none-ne-some x e)
drop-element f (y ∷ xs) more zero x e = let p : y ≡ x = cc in (map f xs ++ more, ap (λ z. f z ∷ map f xs ++ more) p)
drop-element f (y ∷ xs) more (suc k) x e = drop-element f xs more k x e

module _ (F : File) where
  abbrev behind_keys : List (List ℕ)
  behind_keys = map view_bytes F.views ++ (goal_bytes F.goal ∷ [])

  abbrev behind_tables : List (List ℕ)
  behind_tables = map key_bytes F.keys ++ behind_keys

  frames-split : file_frames F ≡ map table_bytes F.tables ++ behind_tables
  unfolding file_frames
  frames-split = regroup (map table_bytes F.tables) (map key_bytes F.keys) (map view_bytes F.views) (goal_bytes F.goal ∷ [])

  frame-count : length (file_frames F) ≡ length F.tables + length F.keys + length F.views + 1
  unfolding file_frames
  frame-count = simp (length-append, length-map)

  -- the frames from the first foreign key's on
  key-frames : drop (length F.tables) (file_frames F) ≡ behind_tables
  key-frames = ap (drop (length F.tables)) frames-split ∙ drop_at (map table_bytes F.tables) behind_tables (length F.tables) (length-map F.tables table_bytes)

  -- the frames from a view's on
  view-frames : (v : ℕ) (q : View) → query (length F.tables) F v ≡ some q
      → (more : List (List ℕ)) × (drop (frame_number (length F.tables) (length F.keys) v) (file_frames F) ≡ view_bytes q ∷ more)
      × (frame_number (length F.tables) (length F.keys) v ≤ length (file_frames F))
  unfolding frame_number
  view-frames v q e =
      let (h, g, l) = query-split (length F.tables) F v q e in
      let T = map table_bytes F.tables in
      let K = map key_bytes F.keys in
      let n = v - length F.tables in
      let (more, d) = drop-element view_bytes F.views (goal_bytes F.goal ∷ []) n q g in
      let number : v + length F.keys ≡ length T + (length K + n) =
      omega (arith, h, length-map F.tables table_bytes, length-map F.keys key_bytes) in
      by-lt v (length F.tables) (λ t k. absurd (omega (arith, h, k)))
      (λ t k. rw t (
        more,
        ap (λ i. drop i (file_frames F)) number ∙ ap (drop (length T + (length K + n))) frames-split
            ∙ drop-append-add T behind_tables (length K + n) ∙ drop-append-add K behind_keys n ∙ d,
        omega (arith, l, frame-count),
      ))

  module _ (bytes tail : List ℕ) (whole : bytes ≡ pack (file_frames F) ++ tail) where
    pub view-there : (v : ℕ) (q : View) → query (length F.tables) F v ≡ some q
        → frame_at bytes (start_from bytes 0 (frame_number (length F.tables) (length F.keys) v)) ≡ view_bytes q
    view-there v q e =
        let (more, d, l) = view-frames v q e in
        let n = frame_number (length F.tables) (length F.keys) v in
        let f = view_bytes q in
        let here : drop (start_from bytes 0 n) bytes ≡ length f ∷ f ++ (pack more ++ tail) =
        start_back bytes tail n 0 (file_frames F) whole l ∙ ap (λ (l : List ℕ). l ++ tail) (ap pack d ∙ pack-cons f more)
        ∙ ap (λ (l : List ℕ). length f ∷ l) (append_assoc f (pack more) tail) in
        (frame_here bytes (start_from bytes 0 n) f (pack more ++ tail) here).0

    pub keys-there : (rest : List ℕ) × (drop (start_from bytes 0 (length F.tables)) bytes ≡ pack (map key_bytes F.keys) ++ rest)
    keys-there = (
      pack behind_keys ++ tail,
      start_back bytes tail (length F.tables) 0 (file_frames F) whole (omega (arith, frame-count))
          ∙ ap (λ (l : List ℕ). l ++ tail) (ap pack key-frames ∙ pack-append (map key_bytes F.keys) behind_keys)
          ∙ append_assoc (pack (map key_bytes F.keys)) (pack behind_keys) tail,
    )
