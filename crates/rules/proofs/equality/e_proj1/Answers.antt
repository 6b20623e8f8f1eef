-- E-PROJ1: the typing rule of the left sides, and the right side.
-- Assumes nothing.
use Rattle.terms.proofs.Tests.{decides_via, ◌&◌}
use Rattle.rules.specs.RuleChecks.{FollowsIn}
use Rattle.rules.proofs.CongruenceLaws.{congruence_25}
use Rattle.rules.proofs.equality.e_proj1.Goals as goal

pub returns : goal.returns
unfolding FollowsIn
returns c = λ contexts G. decides_via congruence_25 (c.wt_proj1.ensures contexts G & c.is_node.ensures)
