-- `sentences::sentence` meets its contract. Assumes nothing.
use mathlib.Core.Path.{sym, ap, ◌∙◌}
use mathlib.Core.List.{◌++◌}
use native.Mathlib.Omega.{arith}
use lib.ListN.{length}
use Rattle.sentences.specs.Sentence.{sentence}
use Rattle.sentences.specs.Languages.{language_in}
use Rattle.sentences.proofs.RoomLaws.{sentence-room, sentence-named, sentence-none, put_same, whole-none}
use Rattle.sentences.proofs.sentence.Goals as goal

pub returns-in_default-clause-put : goal.returns-in_default-clause-put
returns-in_default-clause-put c = let a = c.args in put_same (sym (sentence-none a.language a.number a.line c.in_default.ensures)) (whole-none _)

pub returns-in_default-clause-room : goal.returns-in_default-clause-room
returns-in_default-clause-room c = let a = c.args in omega (arith, ap length (sentence-none a.language a.number a.line c.in_default.ensures))

pub push_sentence-requires : goal.push_sentence-requires
push_sentence-requires c = let a = c.args in omega (arith, ap length c.new-text.ensures, sentence-room c.in-Ok.language a.number a.line)

pub returns-clause-put : goal.returns-clause-put
returns-clause-put c =
    let a = c.args in
    let t = c.in-Ok.language in
    let held = c.push_sentence.ensures ∙ ap (λ x. x ++ sentence (language_in t) a.number a.line) c.new-text.ensures in
    put_same (held ∙ sym (sentence-named t a.number a.line c.in-Ok.ensures)) c.copy_to.ensures

pub returns-clause-room : goal.returns-clause-room
returns-clause-room c =
    let a = c.args in
    let t = c.in-Ok.language in
    omega (arith, ap length (sentence-named t a.number a.line c.in-Ok.ensures), sentence-room t a.number a.line)
