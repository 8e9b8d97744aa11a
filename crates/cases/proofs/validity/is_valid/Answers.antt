-- `cases::validity::is_valid` meets its contract. Assumes nothing.
use Rattle.cases.proofs.ValidLaws.{invalid-keys, valid-both}
use Rattle.cases.proofs.validity.is_valid.Goals as goal

pub returns-then-keys_hold : goal.returns-then-keys_hold
returns-then-keys_hold c = valid-both c.keys_hold.ensures (c.if-keys_hold.true) c.foreign_keys_hold.ensures

pub returns-else-keys_hold : goal.returns-else-keys_hold
returns-else-keys_hold c = invalid-keys c.keys_hold.ensures (c.if-keys_hold.false)
