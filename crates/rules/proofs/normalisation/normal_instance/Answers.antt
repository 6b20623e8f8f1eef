-- Each arm is decided by its rule's law.
-- Assumes nothing.
use Rattle.terms.proofs.Tests.{◌&◌}
use Rattle.rules.specs.RuleTable.{premise_count}
use Rattle.rules.specs.Stated.{used_premises}
use Rattle.rules.specs.RuleChecks.{FollowsIn}
use Rattle.rules.proofs.ArmLaws.{by_law}
use Rattle.rules.proofs.NormalisationLaws.{rule_44, rule_45, rule_46, rule_47, rule_48, rule_49, rule_50, rule_51, rule_52, rule_53}
use Rattle.rules.proofs.normalisation.normal_instance.Goals as goal

pub returns-in-44 : goal.returns-in-44
unfolding used_premises premise_count FollowsIn
returns-in-44 c =
    by_law c.requires.subjects_in_table c.in-44.is (λ contexts. rule_44) c.is_node.ensures

pub returns-in-45 : goal.returns-in-45
unfolding used_premises premise_count FollowsIn
returns-in-45 c =
    by_law c.requires.subjects_in_table c.in-45.is (λ contexts. rule_45) c.is_node-in-45.ensures

pub returns-in-46 : goal.returns-in-46
unfolding used_premises premise_count FollowsIn
returns-in-46 c =
    by_law c.requires.subjects_in_table c.in-46.is (λ contexts. rule_46) c.is_node-in-46.ensures

pub returns-in-47 : goal.returns-in-47
unfolding used_premises premise_count FollowsIn
returns-in-47 c =
    by_law c.requires.subjects_in_table c.in-47.is (λ contexts. rule_47) c.is_node-in-47.ensures

pub returns-in-48 : goal.returns-in-48
unfolding used_premises premise_count FollowsIn
returns-in-48 c =
    by_law c.requires.subjects_in_table c.in-48.is (λ contexts. rule_48) c.is_node-in-48.ensures

pub returns-in-49 : goal.returns-in-49
unfolding used_premises premise_count FollowsIn
returns-in-49 c =
    by_law c.requires.subjects_in_table c.in-49.is (λ contexts. rule_49) c.is_universe.ensures

pub returns-in-50 : goal.returns-in-50
unfolding used_premises premise_count FollowsIn
returns-in-50 c =
    by_law c.requires.subjects_in_table c.in-50.is (λ contexts. rule_50) c.same_term.ensures

pub returns-in-51 : goal.returns-in-51
unfolding used_premises premise_count FollowsIn
returns-in-51 c =
    by_law c.requires.subjects_in_table c.in-51.is (λ contexts. rule_51) c.is_node-in-51.ensures

pub returns-in-52 : goal.returns-in-52
unfolding used_premises premise_count FollowsIn
returns-in-52 c =
    by_law c.requires.subjects_in_table c.in-52.is (λ contexts. rule_52) c.is_node-in-52.ensures

pub returns-in-53 : goal.returns-in-53
unfolding used_premises premise_count FollowsIn
returns-in-53 c =
    by_law c.requires.subjects_in_table c.in-53.is (λ contexts. rule_53)
    (c.same_term-in-53.ensures & c.same_term-in-53-2.ensures)
