-- Each arm is decided by its rule's own check.
-- Assumes nothing.
use Rattle.rules.specs.RuleTable.{premise_count}
use Rattle.rules.specs.Stated.{used_premises}
use Rattle.rules.specs.RuleChecks.{rule_subjects}
use Rattle.rules.proofs.ContextTableAnswers.{rows_of}
use Rattle.rules.proofs.ArmLaws.{by_arm, given_arm}
use Rattle.rules.proofs.instances.wellformed_instance.Goals as goal

pub wf_nil-requires : goal.wf_nil-requires
unfolding used_premises premise_count
wf_nil-requires c = given_arm c.requires.line_in_tables c.requires.shaped c.in-1.is

pub wf_cons-requires : goal.wf_cons-requires
unfolding used_premises premise_count rule_subjects
wf_cons-requires c =
    let rows = given_arm c.requires.line_in_tables c.requires.shaped c.in-2.is in
    rows_of rows (rows.given.within.0, tt) rows.below

pub returns-in-1 : goal.returns-in-1
unfolding used_premises premise_count
returns-in-1 c = by_arm c.requires.line_in_tables c.requires.shaped c.in-1.is c.wf_nil.ensures

pub returns-in-2 : goal.returns-in-2
unfolding used_premises premise_count
returns-in-2 c = by_arm c.requires.line_in_tables c.requires.shaped c.in-2.is (c.wf_cons.ensures _)
