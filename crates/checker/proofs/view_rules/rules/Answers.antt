-- `checker::view_rules::rules` meets its contract. Assumes nothing.
use mathlib.Core.Path.{ap}
use Rattle.catalog.specs.Kinds.{groups_rows}
use Rattle.checker.proofs.ViewRuleLaws.{rules-of}
use Rattle.checker.proofs.view_rules.rules.Goals as goal

pub returns-in-Basic : goal.returns-in-Basic
returns-in-Basic c = rules-of (ap groups_rows c.in-Basic.is) c.opening_of-o.ensures c.basic_rules.ensures

pub returns-in-Aggregate : goal.returns-in-Aggregate
returns-in-Aggregate c = rules-of (ap groups_rows c.in-Aggregate.is) c.opening_of-o.ensures c.grouped_rules.ensures
