-- `sentences::both_sentences` meets its contract. Assumes nothing.
use mathlib.Core.Path.{sym, ap, ◌∙◌}
use mathlib.Core.List.{[], ◌∷◌, ◌++◌}
use native.Mathlib.Omega.{arith}
use lib.ListN.{length, length-append}
use Rattle.sentences.specs.declared.Language.TheVariants.{English, French}
use Rattle.sentences.specs.English.{english}
use Rattle.sentences.specs.French.{french}
use Rattle.sentences.specs.Sentence.{sentence}
use Rattle.sentences.proofs.RoomLaws.{sentence-room, both-are, put_same}
use Rattle.sentences.proofs.both_sentences.Goals as goal

pub push_closed-requires : goal.push_closed-requires
push_closed-requires c = let a = c.args in omega (arith, ap length c.new-text.ensures, sentence-room English a.number a.line)

pub push_closed-requires-2 : goal.push_closed-requires-2
push_closed-requires-2 c =
    let a = c.args in
    let one = sentence english a.number a.line ++ 10 ∷ [] in
    omega (
      arith,
      ap length c.push_closed.ensures,
      length-append c.new-text.result one,
      ap length c.new-text.ensures,
      sentence-room English a.number a.line,
      sentence-room French a.number a.line,
      length-append (sentence english a.number a.line) (10 ∷ []),
    )

pub returns : goal.returns
returns c =
    let a = c.args in
    let second = sentence french a.number a.line ++ 10 ∷ [] in
    let both = c.push_closed-2.ensures ∙ ap (λ x. x ++ second) (c.push_closed.ensures ∙ ap (λ x. x ++ (sentence english a.number a.line ++ 10 ∷ [])) c.new-text.ensures) in
    put_same (both ∙ sym (both-are a.number a.line)) c.copy_to.ensures
