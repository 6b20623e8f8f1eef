use Rattle.rules.proofs.RuleTableEntries.{row_is}
use Rattle.rules.proofs.table.RuleTable.row.Goals as goal

pub returns : goal.returns
returns c =
    row_is _ c.premise_count.ensures.value c.demand.ensures c.demand-2.ensures c.demand-3.ensures c.demand-4.ensures
