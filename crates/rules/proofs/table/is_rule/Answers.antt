use mathlib.Core.Path.{refl}
use Rattle.rules.specs.RuleTable.{rule_known}
use Rattle.rules.proofs.table.is_rule.Goals as goal

pub returns : goal.returns
unfolding rule_known
returns c = refl
