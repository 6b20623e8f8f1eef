use mathlib.Core.Path.{refl}
use Rattle.rules.specs.RuleTable.{rule_table}
use Rattle.rules.proofs.table.rule_table.Goals as goal

pub invariant_of-result : goal.invariant_of-result
unfolding rule_table
invariant_of-result c = record { is_table = refl }
