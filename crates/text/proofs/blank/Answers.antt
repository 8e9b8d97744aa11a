-- `text::blank` meets its contract. Assumes nothing.
use borrow.Author.Rules.{rules}
use Rattle.text.specs.Answers.{blank_frames}
use Rattle.text.proofs.blank.Goals as goal

pub returns : goal.returns
unfolding blank_frames
returns c = search rules
