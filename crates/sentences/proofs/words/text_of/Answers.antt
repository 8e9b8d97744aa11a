-- `sentences::words::text_of` meets its contract. Assumes nothing.
use mathlib.Core.Path.{sym, ap}
use Rattle.sentences.specs.SheetOf.{in_lines}
use Rattle.sentences.specs.Pieces.{pieces}
use Rattle.sentences.specs.Languages.{language_in}
use Rattle.sentences.proofs.words.text_of.Goals as goal

pub returns-in-English : goal.returns-in-English
unfolding in_lines
returns-in-English c = ap (λ t. in_lines (pieces (language_in t))) (sym c.in-English.is)

pub returns-in-French : goal.returns-in-French
unfolding in_lines
returns-in-French c = ap (λ t. in_lines (pieces (language_in t))) (sym c.in-French.is)
