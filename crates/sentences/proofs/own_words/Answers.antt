-- `sentences::own_words` meets its contract. Assumes nothing.
use mathlib.Core.List.{[]}
use mathlib.Core.Path.{ap, ◌∙◌}
use lib.ListN.{get_or}
use Prim.Native.Nat.{◌+◌}
use Rattle.sentences.specs.Pieces.{pieces}
use Rattle.sentences.specs.Languages.{language_in}
use Rattle.sentences.proofs.PieceLaws.{own-piece}
use Rattle.sentences.proofs.own_words.Goals as goal

pub returns : goal.returns
returns c =
    let a = c.args in
    c.piece.ensures ∙ ap (λ f. get_or (pieces (language_in a.language)) (f + a.n) []) c.first.ensures ∙ own-piece a.language a.place a.n c.requires
