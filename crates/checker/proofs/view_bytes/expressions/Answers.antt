-- `checker::view_bytes::expressions` meets its contract. Assumes nothing.
use Rattle.std.proofs.Common.{rules}
use Rattle.prefix.proofs.Ends.{field_e}
use Rattle.checker.proofs.ViewByteLaws.{times-skip}
use Rattle.checker.proofs.view_bytes.expressions.Goals as goal

pub returns : goal.returns
returns c = times-skip c.args.reader.now.frame.now (field_e _) (λ at r p. search rules) c.requires c.repeated.ensures
