-- `export::sakthveim_look` meets its contract. Assumes nothing.
use Rattle.export.proofs.AnswerLaws.{told-look}
use Rattle.export.proofs.sakthveim_look.Goals as goal

pub returns : goal.returns
returns c =
    let args = c.args in
    told-look args.text.now args.start args.count args.work.now args.instance.now c.look-a.ensures.after c.told.ensures
