-- `sentences::words::past_line` meets its contract. Assumes nothing.
use mathlib.Core.Path.{◌≡◌, sym, ◌∙◌}
use Prim.Native.Nat.{◌+◌}
use Rattle.std.proofs.Common.{rules, tests}
use Rattle.std.proofs.lemmas.List.{take_rest}
use Rattle.std.proofs.lemmas.Iterator.{YieldsList-from_slice}
use Rattle.std.proofs.lemmas.Iterator.Search.{position_from_yields_List}
use Rattle.sentences.proofs.LineLaws.{is_break, found, line-passed, line-last}
use Rattle.sentences.proofs.words.past_line.Goals.{After-position}
use Rattle.sentences.proofs.words.past_line.Goals as goal

answered : (c : After-position) → found c.args.text.now ≡ c.position.result
answered c =
    sym
    (position_from_yields_List is_break _ _ c.position.result c.position.ensures.ran (YieldsList-from_slice _ c.iter.ensures.rest) (λ x b q k. search (rules, tests)))

pub returns : goal.returns
returns c = take_rest c.args.text.now (c.in-Some.i + 1) ∙ line-passed _ (answered (goal.at.returns c).After-position ∙ c.in-Some.is)

pub returns-in_default : goal.returns-in_default
returns-in_default c = line-last _ (answered (goal.at.returns-in_default c).After-position ∙ c.in_default.is)
