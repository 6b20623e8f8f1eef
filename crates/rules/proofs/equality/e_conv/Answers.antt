-- E-CONV: the typing rule of the left sides, and the right side.
-- Assumes nothing.
use Rattle.terms.proofs.Tests.{decides_via, ◌&◌}
use Rattle.rules.specs.RuleChecks.{FollowsIn}
use Rattle.rules.proofs.CongruenceLaws.{congruence_29}
use Rattle.rules.proofs.equality.e_conv.Goals as goal

pub returns : goal.returns
unfolding FollowsIn
returns c = λ contexts G. decides_via congruence_29 (c.wt_conv.ensures contexts G & c.same_term.ensures)
