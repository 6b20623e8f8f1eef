use mathlib.Core.Path.{subst, sym}
use Prim.Native.Nat.{◌≤◌}
use Rattle.rules.specs.RuleTable.{premise_count}
use Rattle.rules.proofs.TableLaws.{row_agrees}
use Rattle.rules.proofs.table.RuleTable.premise_count.Goals as goal

pub returns : goal.returns
unfolding premise_count
returns c =
    let e = c.at.ensures in
    record { value = e; range = subst (λ n. n ≤ 4) (sym e) (row_agrees c.args.rule c.requires).count }
