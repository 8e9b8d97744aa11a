-- `sentences::words::piece` meets its contract. Assumes nothing.
use mathlib.Core.Path.{ap, ◌∙◌}
use Rattle.sentences.specs.SheetOf.{first_line}
use Rattle.sentences.specs.Pieces.{past_lines}
use Rattle.sentences.proofs.PieceLaws.{piece-at}
use Rattle.sentences.proofs.words.piece.Goals as goal

pub returns : goal.returns
returns c =
    let a = c.args in
    c.first_line.ensures ∙ ap first_line c.past_lines.ensures ∙ ap (λ t. first_line (past_lines a.k t)) c.text_of.ensures ∙ piece-at a.language a.k
