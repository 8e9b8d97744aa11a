-- Texts and files.
--     text-accepted    the text of a file within the limits is accepted as that file
--     accepted-text    an accepted text is the text of its file, which is within the limits
--     accepted-when    both: the accepted texts are exactly those of the files within the limits
-- Assumes nothing.
use mathlib.Core.Path.{◌≡◌, refl, ap, subst, ◌∙◌}
use mathlib.Core.Bool.{true}
use mathlib.Core.List.{List, [], ◌∷◌, ◌++◌, map}
use mathlib.Core.Logic.{◌↔◌}
use Prim.Native.Nat.{ℕ, ◌≤◌}
use native.Mathlib.Omega.{arith}
use lib.ListN.{length, length-append}
use Rattle.value.specs.Bag.{All}
use Rattle.value.proofs.Values.{all_map}
use Rattle.meaning.specs.Bounds.{well_formed}
use Rattle.meaning.specs.Syntax.{File, ForeignKey, Table, View}
use Rattle.meaning.proofs.Elements.{all_append, all_both}
use Rattle.language.proofs.Readers.{Byte}
use Rattle.text.specs.Text.{Frame, Lines, frames_of, text_of}
use Rattle.text.proofs.Laws.{only-such, reads-back}
use Rattle.text.proofs.Writing.{text-length}
use Rattle.language.specs.Check.{Outcome}
use Rattle.language.specs.FileOf.{file_of, file_text, outcome_of}
use Rattle.language.specs.Legal.{Legal, Short}
use Rattle.language.specs.Written.{file_frames, goal_bytes, key_bytes, table_bytes, view_bytes}
use Rattle.language.proofs.Accepted.{accepted-legal, accepted-well_formed, accepted-written}
use Rattle.language.proofs.LegalAccepted.{legal-accepted}
use Rattle.language.proofs.LegalBytes.{legal-bytes, legal-frames}

-- ---- a file's frames fit a text

view-some : (q : View) → 1 ≤ length (view_bytes q)
unfolding view_bytes
view-some (View.basic fs w es) = omega arith
view-some (View.grouped fs w gs h es) = omega arith
view-some (View.set op i j) = omega arith

-- each frame has at least its kind
each-some : {A : Type 0} (f : A → List ℕ) → ((x : A) → 1 ≤ length (f x)) → (xs : List A) → All (λ g. 1 ≤ length g) (map f xs)
each-some f h [] = All.nil
each-some f h (x ∷ xs) = All.cons (h x) (each-some f h xs)

table-some : (t : Table) → 1 ≤ length (table_bytes t)
unfolding table_bytes
table-some t = omega arith

key-some : (k : ForeignKey) → 1 ≤ length (key_bytes k)
unfolding key_bytes
key-some k = omega arith

frames-some : (F : File) → All (λ f. 1 ≤ length f) (file_frames F)
unfolding file_frames goal_bytes
frames-some F =
    all_append (all_append (all_append (each-some table_bytes table-some F.tables) (each-some key_bytes key-some F.keys))
    (each-some view_bytes view-some F.views)) (All.cons (omega arith) All.nil)

frames-fit : (F : File) → Legal F → Short F → All Frame (file_frames F)
frames-fit F l s =
    all_map (λ f h. record { bytes = h.0.0; some = h.0.1; few = h.1 }) (all_both (all_both (legal-bytes F l) (frames-some F)) s.frames)

frames-count : (F : File) → 1 ≤ length (file_frames F)
unfolding file_frames
frames-count F =
    let fs = map table_bytes F.tables ++ map key_bytes F.keys ++ map view_bytes F.views in
    omega (arith, length-append fs (goal_bytes F.goal ∷ []))

-- ---- both ways

-- the text of a file within the limits is accepted as that file
pub text-accepted : (F : File) → Legal F → Short F → file_of (file_text F) ≡ Outcome.accepted F
unfolding file_of
text-accepted F l s =
    let fits : length (text_of (file_frames F)) ≤ 8192 = omega (arith, text-length s.frames, legal-frames F l) in
    rw (reads-back (file_frames F) (frames-fit F l s) (frames-count F) fits) (legal-accepted F l)

-- an accepted text is the text of its file, which is within the limits and well formed
pub record Accepts (text : List ℕ) (F : File) : Type 0 where
  pub written : text ≡ file_text F
  pub legal : Legal F
  pub short : Short F
  pub well-formed : well_formed F ≡ true

pub accepted-text : (text : List ℕ) (F : File) → file_of text ≡ Outcome.accepted F → Accepts text F
unfolding file_of
accepted-text text F e = go (frames_of text) refl e
  where
    go : (l : Lines) → frames_of text ≡ l → outcome_of l ≡ Outcome.accepted F → Accepts text F
    go (Lines.frames fs) p e =
        let (t, good) = only-such text fs p in
        let bytes : All (All Byte) fs = all_map (λ f h. h.bytes) good in
        let same : fs ≡ file_frames F = accepted-written fs F bytes e in
        record {
          written = t ∙ ap text_of same;
          legal = accepted-legal fs F bytes e;
          short = record { frames = subst (All (λ f. length f ≤ 120)) same (all_map (λ f h. h.few) good) };
          well-formed = accepted-well_formed fs F e;
        }
    go (Lines.refused n k) p e = let z : ◌≡◌ {A = ℕ} 0 1 = cc in absurd (omega arith)

pub accepted-when : (text : List ℕ) (F : File) → (file_of text ≡ Outcome.accepted F) ↔ ((text ≡ file_text F) × Legal F × Short F)
accepted-when text F =
    (λ e. let h = accepted-text text F e in (h.written, h.legal, h.short), λ h. ap file_of h.0 ∙ text-accepted F h.1 h.2)
