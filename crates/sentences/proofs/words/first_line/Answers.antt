-- `sentences::words::first_line` meets its contract. Assumes nothing.
use mathlib.Core.Path.{◌≡◌, sym, ◌∙◌}
use Rattle.std.proofs.Common.{rules, tests}
use Rattle.std.proofs.lemmas.Iterator.{YieldsList-from_slice}
use Rattle.std.proofs.lemmas.Iterator.Search.{position_from_yields_List}
use Rattle.sentences.proofs.LineLaws.{is_break, found, line-taken, line-whole}
use Rattle.sentences.proofs.words.first_line.Goals.{After-position}
use Rattle.sentences.proofs.words.first_line.Goals as goal

answered : (c : After-position) → found c.args.text.now ≡ c.position.result
answered c =
    sym
    (position_from_yields_List is_break _ _ c.position.result c.position.ensures.ran (YieldsList-from_slice _ c.iter.ensures.rest) (λ x b q k. search (rules, tests)))

pub returns-in-Some : goal.returns-in-Some
returns-in-Some c = line-taken _ (answered (goal.at.returns-in-Some c).After-position ∙ c.in-Some.is)

pub returns-in-None : goal.returns-in-None
returns-in-None c = line-whole _ (answered (goal.at.returns-in-None c).After-position ∙ c.in-None.is)
