-- E-IND: the typing rule of the left sides, and the right side.
-- Assumes nothing.
use native.Mathlib.Omega.{arith}
use Rattle.terms.proofs.Tests.{decides_via, decides_then, decides_not}
use Rattle.rules.specs.RuleChecks.{rule_subjects, FollowsIn}
use Rattle.rules.proofs.ContextTableAnswers.{rows_of}
use Rattle.rules.proofs.CongruenceLaws.{congruence_28}
use Rattle.rules.proofs.equality.e_ind.Goals as goal

pub wt_ind-requires : goal.wt_ind-requires
unfolding rule_subjects
wt_ind-requires c =
    let rows = c.requires in
    rows_of rows rows.given.within
    (omega (arith, rows.below), (omega (arith, rows.below), (omega (arith, rows.below), (omega (arith, rows.below), (omega (arith, rows.below), (omega (arith, rows.below), (omega (arith, rows.below), (omega (arith, rows.below), (omega (arith, rows.below), (omega (arith, rows.below), tt))))))))))

pub returns-then-is_node : goal.returns-then-is_node
unfolding FollowsIn
returns-then-is_node c =
    decides_via congruence_28 (decides_then c.is_node.ensures c.if-is_node.true c.wt_ind.ensures)

pub returns-else-is_node : goal.returns-else-is_node
unfolding FollowsIn
returns-else-is_node c = decides_via congruence_28 (decides_not c.is_node.ensures c.if-is_node.false)
