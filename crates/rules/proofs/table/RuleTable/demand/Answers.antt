use Rattle.rules.proofs.RuleTableEntries.{demand_is}
use Rattle.rules.proofs.table.RuleTable.demand.Goals as goal

pub returns : goal.returns
returns c = demand_is _ _ c.at.ensures c.at-2.ensures
