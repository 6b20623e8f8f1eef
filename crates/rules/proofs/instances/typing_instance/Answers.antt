-- Each arm is decided by its rule's own check.
-- Assumes nothing.
use Rattle.rules.specs.RuleTable.{premise_count}
use Rattle.rules.specs.Stated.{used_premises}
use Rattle.rules.specs.RuleChecks.{rule_subjects}
use Rattle.rules.proofs.ContextTableAnswers.{rows_known, rows_of}
use Rattle.rules.proofs.ArmLaws.{by_arm, given_arm}
use Rattle.rules.proofs.instances.typing_instance.Goals as goal

pub wt_var-requires : goal.wt_var-requires
unfolding used_premises premise_count rule_subjects
wt_var-requires c =
    let rows = given_arm c.requires.line_in_tables c.requires.shaped c.in-3.is in
    rows_of rows (rows.given.within.0, tt) rows.below

pub wt_pi-requires : goal.wt_pi-requires
unfolding used_premises premise_count
wt_pi-requires c = given_arm c.requires.line_in_tables c.requires.shaped c.in-4.is

pub wt_abs-requires : goal.wt_abs-requires
unfolding used_premises premise_count
wt_abs-requires c = given_arm c.requires.line_in_tables c.requires.shaped c.in-5.is

pub wt_app-requires : goal.wt_app-requires
unfolding used_premises premise_count
wt_app-requires c = rows_known (given_arm c.requires.line_in_tables c.requires.shaped c.in-6.is)

pub wt_univ-requires : goal.wt_univ-requires
unfolding used_premises premise_count rule_subjects
wt_univ-requires c = rows_known (given_arm c.requires.line_in_tables c.requires.shaped c.in-7.is)

pub wt_sig-requires : goal.wt_sig-requires
unfolding used_premises premise_count
wt_sig-requires c = given_arm c.requires.line_in_tables c.requires.shaped c.in-8.is

pub wt_pair-requires : goal.wt_pair-requires
unfolding used_premises premise_count
wt_pair-requires c = rows_known (given_arm c.requires.line_in_tables c.requires.shaped c.in-9.is)

pub wt_proj1-requires : goal.wt_proj1-requires
unfolding used_premises premise_count
wt_proj1-requires c = rows_known (given_arm c.requires.line_in_tables c.requires.shaped c.in-10.is)

pub wt_proj2-requires : goal.wt_proj2-requires
unfolding used_premises premise_count
wt_proj2-requires c = rows_known (given_arm c.requires.line_in_tables c.requires.shaped c.in-11.is)

pub wt_nat-requires : goal.wt_nat-requires
unfolding used_premises premise_count rule_subjects
wt_nat-requires c = rows_known (given_arm c.requires.line_in_tables c.requires.shaped c.in-12.is)

pub wt_zero-requires : goal.wt_zero-requires
unfolding used_premises premise_count rule_subjects
wt_zero-requires c = rows_known (given_arm c.requires.line_in_tables c.requires.shaped c.in-13.is)

pub wt_succ-requires : goal.wt_succ-requires
unfolding used_premises premise_count
wt_succ-requires c = rows_known (given_arm c.requires.line_in_tables c.requires.shaped c.in-14.is)

pub wt_ind-requires : goal.wt_ind-requires
unfolding used_premises premise_count
wt_ind-requires c = given_arm c.requires.line_in_tables c.requires.shaped c.in-15.is

pub wt_conv-requires : goal.wt_conv-requires
unfolding used_premises premise_count
wt_conv-requires c = rows_known (given_arm c.requires.line_in_tables c.requires.shaped c.in-16.is)

pub returns-in-3 : goal.returns-in-3
unfolding used_premises premise_count
returns-in-3 c = by_arm c.requires.line_in_tables c.requires.shaped c.in-3.is (c.wt_var.ensures _)

pub returns-in-4 : goal.returns-in-4
unfolding used_premises premise_count
returns-in-4 c = by_arm c.requires.line_in_tables c.requires.shaped c.in-4.is c.wt_pi.ensures

pub returns-in-5 : goal.returns-in-5
unfolding used_premises premise_count
returns-in-5 c = by_arm c.requires.line_in_tables c.requires.shaped c.in-5.is c.wt_abs.ensures

pub returns-in-6 : goal.returns-in-6
unfolding used_premises premise_count
returns-in-6 c = by_arm c.requires.line_in_tables c.requires.shaped c.in-6.is (c.wt_app.ensures _ _)

pub returns-in-7 : goal.returns-in-7
unfolding used_premises premise_count
returns-in-7 c = by_arm c.requires.line_in_tables c.requires.shaped c.in-7.is (c.wt_univ.ensures _ _ _)

pub returns-in-8 : goal.returns-in-8
unfolding used_premises premise_count
returns-in-8 c = by_arm c.requires.line_in_tables c.requires.shaped c.in-8.is c.wt_sig.ensures

pub returns-in-9 : goal.returns-in-9
unfolding used_premises premise_count
returns-in-9 c = by_arm c.requires.line_in_tables c.requires.shaped c.in-9.is (c.wt_pair.ensures _ _)

pub returns-in-10 : goal.returns-in-10
unfolding used_premises premise_count
returns-in-10 c = by_arm c.requires.line_in_tables c.requires.shaped c.in-10.is (c.wt_proj1.ensures _ _)

pub returns-in-11 : goal.returns-in-11
unfolding used_premises premise_count
returns-in-11 c = by_arm c.requires.line_in_tables c.requires.shaped c.in-11.is (c.wt_proj2.ensures _ _)

pub returns-in-12 : goal.returns-in-12
unfolding used_premises premise_count
returns-in-12 c = by_arm c.requires.line_in_tables c.requires.shaped c.in-12.is (c.wt_nat.ensures _ _ _)

pub returns-in-13 : goal.returns-in-13
unfolding used_premises premise_count
returns-in-13 c = by_arm c.requires.line_in_tables c.requires.shaped c.in-13.is (c.wt_zero.ensures _ _ _)

pub returns-in-14 : goal.returns-in-14
unfolding used_premises premise_count
returns-in-14 c = by_arm c.requires.line_in_tables c.requires.shaped c.in-14.is (c.wt_succ.ensures _ _)

pub returns-in-15 : goal.returns-in-15
unfolding used_premises premise_count
returns-in-15 c = by_arm c.requires.line_in_tables c.requires.shaped c.in-15.is c.wt_ind.ensures

pub returns-in-16 : goal.returns-in-16
unfolding used_premises premise_count
returns-in-16 c = by_arm c.requires.line_in_tables c.requires.shaped c.in-16.is (c.wt_conv.ensures _ _)
