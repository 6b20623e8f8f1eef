-- E-SIG: the typing rule of the left sides, and the right side.
-- Assumes nothing.
use native.Mathlib.Omega.{arith}
use Rattle.terms.proofs.Tests.{decides_via, ◌&◌}
use Rattle.rules.specs.RuleChecks.{rule_subjects, FollowsIn}
use Rattle.rules.proofs.ContextTableAnswers.{rows_of}
use Rattle.rules.proofs.CongruenceLaws.{congruence_23}
use Rattle.rules.proofs.equality.e_sig.Goals as goal

pub wt_sig-requires : goal.wt_sig-requires
unfolding rule_subjects
wt_sig-requires c =
    let rows = c.requires in
    rows_of rows rows.given.within
    (omega (arith, rows.below), (omega (arith, rows.below), (omega (arith, rows.below), (omega (arith, rows.below), (omega (arith, rows.below), (omega (arith, rows.below), tt))))))

pub returns : goal.returns
unfolding FollowsIn
returns c = decides_via congruence_23 (c.wt_sig.ensures & c.is_node.ensures)
