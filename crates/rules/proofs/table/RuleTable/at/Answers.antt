use mathlib.Core.Path.{◌∙◌, ap}
use Prim.Native.Nat.{◌+◌, ◌-◌, ◌*◌}
use lib.ListN.{get_or}
use Rattle.rules.proofs.RuleTableEntries.{table_entry}
use Rattle.rules.proofs.table.RuleTable.at.Goals as goal

pub returns : goal.returns
returns c =
    ap (λ t. get_or t (10 * (c.args.rule - 1) + c.args.column) 0) c.args.self.now.is_table
    ∙ table_entry c.args.rule c.args.column c.requires.0 c.requires.1
