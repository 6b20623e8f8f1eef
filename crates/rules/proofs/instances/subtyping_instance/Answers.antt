-- Each arm is decided by its rule's own check.
-- Assumes nothing.
use Rattle.rules.specs.RuleTable.{premise_count}
use Rattle.rules.specs.Stated.{used_premises}
use Rattle.rules.specs.RuleChecks.{rule_subjects}
use Rattle.rules.proofs.ContextTableAnswers.{rows_known}
use Rattle.rules.proofs.ArmLaws.{by_arm, given_arm}
use Rattle.rules.proofs.instances.subtyping_instance.Goals as goal

pub l_trans-requires : goal.l_trans-requires
unfolding used_premises premise_count
l_trans-requires c = rows_known (given_arm c.requires.line_in_tables c.requires.shaped c.in-35.is)

pub l_eq-requires : goal.l_eq-requires
unfolding used_premises premise_count
l_eq-requires c = rows_known (given_arm c.requires.line_in_tables c.requires.shaped c.in-36.is)

pub l_univ-requires : goal.l_univ-requires
unfolding used_premises premise_count rule_subjects
l_univ-requires c = rows_known (given_arm c.requires.line_in_tables c.requires.shaped c.in-37.is)

pub l_pi-requires : goal.l_pi-requires
unfolding used_premises premise_count
l_pi-requires c = given_arm c.requires.line_in_tables c.requires.shaped c.in-38.is

pub l_sig-requires : goal.l_sig-requires
unfolding used_premises premise_count
l_sig-requires c = given_arm c.requires.line_in_tables c.requires.shaped c.in-39.is

pub l_piproj1-requires : goal.l_piproj1-requires
unfolding used_premises premise_count
l_piproj1-requires c = rows_known (given_arm c.requires.line_in_tables c.requires.shaped c.in-40.is)

pub l_piproj2-requires : goal.l_piproj2-requires
unfolding used_premises premise_count
l_piproj2-requires c = rows_known (given_arm c.requires.line_in_tables c.requires.shaped c.in-41.is)

pub l_sigproj1-requires : goal.l_sigproj1-requires
unfolding used_premises premise_count
l_sigproj1-requires c = rows_known (given_arm c.requires.line_in_tables c.requires.shaped c.in-42.is)

pub l_sigproj2-requires : goal.l_sigproj2-requires
unfolding used_premises premise_count
l_sigproj2-requires c = rows_known (given_arm c.requires.line_in_tables c.requires.shaped c.in-43.is)

pub returns-in-35 : goal.returns-in-35
unfolding used_premises premise_count
returns-in-35 c = by_arm c.requires.line_in_tables c.requires.shaped c.in-35.is (c.l_trans.ensures _ _)

pub returns-in-36 : goal.returns-in-36
unfolding used_premises premise_count
returns-in-36 c = by_arm c.requires.line_in_tables c.requires.shaped c.in-36.is (c.l_eq.ensures _ _)

pub returns-in-37 : goal.returns-in-37
unfolding used_premises premise_count
returns-in-37 c = by_arm c.requires.line_in_tables c.requires.shaped c.in-37.is (c.l_univ.ensures _ _ _)

pub returns-in-38 : goal.returns-in-38
unfolding used_premises premise_count
returns-in-38 c = by_arm c.requires.line_in_tables c.requires.shaped c.in-38.is c.l_pi.ensures

pub returns-in-39 : goal.returns-in-39
unfolding used_premises premise_count
returns-in-39 c = by_arm c.requires.line_in_tables c.requires.shaped c.in-39.is c.l_sig.ensures

pub returns-in-40 : goal.returns-in-40
unfolding used_premises premise_count
returns-in-40 c = by_arm c.requires.line_in_tables c.requires.shaped c.in-40.is (c.l_piproj1.ensures _ _)

pub returns-in-41 : goal.returns-in-41
unfolding used_premises premise_count
returns-in-41 c = by_arm c.requires.line_in_tables c.requires.shaped c.in-41.is (c.l_piproj2.ensures _ _)

pub returns-in-42 : goal.returns-in-42
unfolding used_premises premise_count
returns-in-42 c = by_arm c.requires.line_in_tables c.requires.shaped c.in-42.is (c.l_sigproj1.ensures _ _)

pub returns-in-43 : goal.returns-in-43
unfolding used_premises premise_count
returns-in-43 c = by_arm c.requires.line_in_tables c.requires.shaped c.in-43.is (c.l_sigproj2.ensures _ _)
