-- Demand 3 of texts: the looks that the code makes say what "A look" says, alone, in every list, and together. Assumes nothing.
use mathlib.Core.Path.{◌≡◌, refl, sym, ap, subst, fun_ext, ◌∙◌}
use mathlib.Core.Bool.{cond}
use mathlib.Core.List.{List}
use Prim.Native.Nat.{ℕ}
use lib.Dec.{ltb}
use lib.IntN.{ℤ}
use lib.ListN.{length}
use Rattle.value.proofs.Decides.{by-test}
use Rattle.value.proofs.Values.{all_map}
use Rattle.meaning.specs.Syntax.{File}
use Rattle.meaning.specs.Candidates.{SixteenBits}
use Rattle.meaning.specs.Look.{Answer, After, work_in, inst_in, work_size}
use Rattle.meaning.specs.Decided.{refusal, look}
use Rattle.meaning.specs.Looks.{EveryLook, EveryList, EveryCover, RefusedUnchanged}
use Rattle.meaning.proofs.Demand3.{look-says as look-says-of-files, demand-3 as demand-3-of-files, stretches as stretches-of-files}
use Rattle.meaning.proofs.OneLook.{refused-unchanged as refused-unchanged-of-looks}
use Rattle.language.specs.Check.{Outcome}
use Rattle.language.specs.FileOf.{file_of}
use Rattle.language.specs.Legal.{Legal}
use Rattle.language.proofs.TextLaws.{accepted-text}
use Rattle.language.specs.LookOf.{look_of}

-- ---- a look at an accepted text is a look at its file

short-first : (F : File) (start count : ℕ) (work inst : List ℤ)
    → cond (ltb (length work) work_size) (refusal 11 work inst) (look F start count work inst) ≡ look F start count work inst
unfolding look
short-first F start count work inst = by-test (ltb (length work) work_size) (λ e. rw e) (λ e. rw e)

look-same : (text : List ℕ) (F : File) → file_of text ≡ Outcome.accepted F → (start count : ℕ) (work inst : List ℤ)
    → look_of text start count work inst ≡ look F start count work inst
unfolding look_of
look-same text F e start count work inst = rw e (short-first F start count work inst)

pub look-of-text : (text : List ℕ) (F : File) → file_of text ≡ Outcome.accepted F → look_of text ≡ look F
look-of-text text F e = fun_ext (λ start. fun_ext (λ count. fun_ext (λ work. fun_ext (λ inst. look-same text F e start count work inst))))

-- 16 bits hold every cell of a legal file
pub sixteen-bits : (F : File) → Legal F → SixteenBits F
sixteen-bits F l = all_map (λ t h. all_map (λ c k. record { low = k.low; high = k.high }) h.columns) l.tables

-- ---- demand 3

module _ (text : List ℕ) (F : File) (e : file_of text ≡ Outcome.accepted F) where
  -- "An accepted look, in a list or alone, from any start, gives exactly what "A look" says"; "A call that meets none of these conditions
  -- is accepted"
  pub look-says : EveryLook F (look_of text)
  look-says =
      let a = accepted-text text F e in
      subst (EveryLook F) (sym (look-of-text text F e)) (look-says-of-files F a.well-formed (sixteen-bits F a.legal))

  -- "Demand 3 takes any list of looks, also an empty one, at one file that meets none of 1 to 10; that is an accepted file": "What demand 3
  -- says of a list is one statement about the list as a whole"
  pub demand-3 : EveryList F (look_of text)
  demand-3 = demand-3-of-files F (accepted-text text F e).well-formed (look_of text) look-says

  -- of looks from any starts, in any order, that together cover all candidates, the smallest case is the first, and where none has a case no
  -- database is one
  pub stretches : EveryCover F (look_of text)
  stretches = stretches-of-files F (accepted-text text F e).well-formed (look_of text) look-says

-- ---- a refusal, of any text

-- "Order: 11, 1, 2 over the whole text, then frames in turn, then 3 for no goal, 10": of a refused text, for every start, count and buffers
pub refused-text : (text : List ℕ) (n l : ℕ) → file_of text ≡ Outcome.refused n l → (start count : ℕ) (work inst : List ℤ)
    → look_of text start count work inst ≡ After.after (cond (ltb (length work) work_size) (Answer.refused 11 0) (Answer.refused n l)) work inst
unfolding look_of
refused-text text n l e start count work inst = by-test (ltb (length work) work_size) (λ t. rw t) (λ t. rw (t, e))

-- "A refusal returns its number and a line ..; no buffer changes"
pub refused-unchanged : (text : List ℕ) → RefusedUnchanged (look_of text)
refused-unchanged text = go (file_of text) refl
  where
    go : (out : Outcome) → file_of text ≡ out → RefusedUnchanged (look_of text)
    go (Outcome.refused n l) e = λ start count work inst m k w i q.
        let r = refused-text text n l e start count work inst in (ap work_in (sym q ∙ r), ap inst_in (sym q ∙ r))
    go (Outcome.accepted F) e = refused-unchanged-of-looks F (look_of text) (look-says text F e)
