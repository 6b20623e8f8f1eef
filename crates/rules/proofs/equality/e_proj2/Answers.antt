-- E-PROJ2: the typing rule of the left sides, and the right side.
-- Assumes nothing.
use Rattle.terms.proofs.Tests.{decides_via, decides_then, decides_not}
use Rattle.rules.specs.RuleChecks.{FollowsIn}
use Rattle.rules.proofs.CongruenceLaws.{congruence_26}
use Rattle.rules.proofs.equality.e_proj2.Goals as goal

pub returns-then-is_node : goal.returns-then-is_node
unfolding FollowsIn
returns-then-is_node c =
    λ contexts G. decides_via congruence_26
    (decides_then c.is_node.ensures c.if-is_node.true (c.wt_proj2.ensures contexts G))

pub returns-else-is_node : goal.returns-else-is_node
unfolding FollowsIn
returns-else-is_node c = λ contexts G. decides_via congruence_26 (decides_not c.is_node.ensures c.if-is_node.false)
