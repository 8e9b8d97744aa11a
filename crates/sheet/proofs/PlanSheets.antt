-- The sheet of a text, by what its check answers. Assumes nothing.
use mathlib.Core.Path.{◌≡◌, refl, sym, ap, ap₂, ◌∙◌}
use mathlib.Core.List.{List, []}
use Prim.Native.Nat.{ℕ}
use Rattle.language.specs.Check.{Outcome}
use Rattle.language.specs.FileOf.{file_of}
use Rattle.catalog.specs.declared.plan.Plan.{Plan}
use Rattle.std.proofs.Common.{Ok, Err}
use Rattle.text.specs.Refusals.{number_of}
use Rattle.text.specs.declared.refusal.Refusal.{Refusal}
use Rattle.checker.specs.Plans.{Plans}
use Rattle.sentences.specs.SheetOf.{sheet_of, both_sentences}
use Rattle.sentences.specs.Answers.{Put}
use Rattle.sentences.proofs.RoomLaws.{whole-none, put_same}
use Rattle.sentences.proofs.SheetLaws.{sheet-accepted, sheet-refused}

module _ (text : List ℕ) where
  -- accepted
  pub no-sheet : (p : Plan) {out : List ℕ} → Plans (file_of text) (Ok p) → Put (sheet_of text) out 0 out
  no-sheet p {out} h = put_same (sym (go (file_of text) refl h)) (whole-none out)
    where
      go : (o : Outcome) → file_of text ≡ o → Plans o (Ok p) → sheet_of text ≡ []
      go (Outcome.accepted F) e q = sheet-accepted text e
      go (Outcome.refused n l) e q = absurd q

  -- refused
  pub a-sheet : (x : Refusal) {n : ℕ} {r : ℕ} {out out' : List ℕ} → Plans (file_of text) (Err x) → n ≡ number_of x.reason → Put (both_sentences n x.line) out r out'
      → Put (sheet_of text) out r out'
  a-sheet x h e b = put_same (ap (λ k. both_sentences k x.line) e ∙ sym (go (file_of text) refl h)) b
    where
      go : (o : Outcome) → file_of text ≡ o → Plans o (Err x) → sheet_of text ≡ both_sentences (number_of x.reason) x.line
      go (Outcome.accepted F) e q = absurd q
      go (Outcome.refused n l) e q = sheet-refused text e ∙ ap₂ both_sentences (sym q.0) (sym q.1)
