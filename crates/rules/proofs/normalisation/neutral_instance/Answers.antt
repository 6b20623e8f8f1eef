-- Each arm is decided by its rule's law.
-- Assumes nothing.
use mathlib.Core.Path.{sym, ◌∙◌, ap}
use Rattle.terms.specs.Term.{var}
use Rattle.terms.proofs.Tests.{decides_via}
use Rattle.rules.specs.RuleTable.{premise_count}
use Rattle.rules.specs.Stated.{used_premises}
use Rattle.rules.specs.RuleChecks.{FollowsIn}
use Rattle.rules.proofs.ArmLaws.{by_law}
use Rattle.rules.proofs.NormalisationLaws.{rule_54, rule_55, rule_56, rule_57, rule_58}
use Rattle.rules.proofs.normalisation.neutral_instance.Goals as goal

pub returns-in-54 : goal.returns-in-54
unfolding used_premises premise_count FollowsIn
returns-in-54 c =
    let named = ap var c.number.ensures.value in
    by_law c.requires.subjects_in_table c.in-54.is (λ contexts. rule_54)
    (decides_via (λ e. e ∙ named, λ e. e ∙ sym named) c.is_node.ensures)

pub returns-in-55 : goal.returns-in-55
unfolding used_premises premise_count FollowsIn
returns-in-55 c =
    by_law c.requires.subjects_in_table c.in-55.is (λ contexts. rule_55) c.is_node-in-55.ensures

pub returns-in-56 : goal.returns-in-56
unfolding used_premises premise_count FollowsIn
returns-in-56 c =
    by_law c.requires.subjects_in_table c.in-56.is (λ contexts. rule_56) c.is_node-in-56.ensures

pub returns-in-57 : goal.returns-in-57
unfolding used_premises premise_count FollowsIn
returns-in-57 c =
    by_law c.requires.subjects_in_table c.in-57.is (λ contexts. rule_57) c.is_node-in-57.ensures

pub returns-in-58 : goal.returns-in-58
unfolding used_premises premise_count FollowsIn
returns-in-58 c =
    by_law c.requires.subjects_in_table c.in-58.is (λ contexts. rule_58) c.is_node-in-58.ensures
