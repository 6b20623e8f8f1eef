-- Each arm is decided by its rule's own check.
-- Assumes nothing.
use Rattle.rules.specs.RuleTable.{premise_count}
use Rattle.rules.specs.Stated.{used_premises}
use Rattle.rules.proofs.ContextTableAnswers.{rows_known}
use Rattle.rules.proofs.ArmLaws.{by_arm, given_arm}
use Rattle.rules.proofs.instances.equality_instance.Goals as goal

pub e_refl-requires : goal.e_refl-requires
unfolding used_premises premise_count
e_refl-requires c = rows_known (given_arm c.requires.line_in_tables c.requires.shaped c.in-17.is)

pub e_sym-requires : goal.e_sym-requires
unfolding used_premises premise_count
e_sym-requires c = rows_known (given_arm c.requires.line_in_tables c.requires.shaped c.in-18.is)

pub e_trans-requires : goal.e_trans-requires
unfolding used_premises premise_count
e_trans-requires c = rows_known (given_arm c.requires.line_in_tables c.requires.shaped c.in-19.is)

pub e_pi-requires : goal.e_pi-requires
unfolding used_premises premise_count
e_pi-requires c = given_arm c.requires.line_in_tables c.requires.shaped c.in-20.is

pub e_absext-requires : goal.e_absext-requires
unfolding used_premises premise_count
e_absext-requires c = given_arm c.requires.line_in_tables c.requires.shaped c.in-21.is

pub e_app-requires : goal.e_app-requires
unfolding used_premises premise_count
e_app-requires c = rows_known (given_arm c.requires.line_in_tables c.requires.shaped c.in-22.is)

pub e_sig-requires : goal.e_sig-requires
unfolding used_premises premise_count
e_sig-requires c = given_arm c.requires.line_in_tables c.requires.shaped c.in-23.is

pub e_pairext-requires : goal.e_pairext-requires
unfolding used_premises premise_count
e_pairext-requires c = rows_known (given_arm c.requires.line_in_tables c.requires.shaped c.in-24.is)

pub e_proj1-requires : goal.e_proj1-requires
unfolding used_premises premise_count
e_proj1-requires c = rows_known (given_arm c.requires.line_in_tables c.requires.shaped c.in-25.is)

pub e_proj2-requires : goal.e_proj2-requires
unfolding used_premises premise_count
e_proj2-requires c = rows_known (given_arm c.requires.line_in_tables c.requires.shaped c.in-26.is)

pub e_suc-requires : goal.e_suc-requires
unfolding used_premises premise_count
e_suc-requires c = rows_known (given_arm c.requires.line_in_tables c.requires.shaped c.in-27.is)

pub e_ind-requires : goal.e_ind-requires
unfolding used_premises premise_count
e_ind-requires c = given_arm c.requires.line_in_tables c.requires.shaped c.in-28.is

pub e_conv-requires : goal.e_conv-requires
unfolding used_premises premise_count
e_conv-requires c = rows_known (given_arm c.requires.line_in_tables c.requires.shaped c.in-29.is)

pub e_appabs-requires : goal.e_appabs-requires
unfolding used_premises premise_count
e_appabs-requires c = given_arm c.requires.line_in_tables c.requires.shaped c.in-30.is

pub e_projpair1-requires : goal.e_projpair1-requires
unfolding used_premises premise_count
e_projpair1-requires c = rows_known (given_arm c.requires.line_in_tables c.requires.shaped c.in-31.is)

pub e_projpair2-requires : goal.e_projpair2-requires
unfolding used_premises premise_count
e_projpair2-requires c = rows_known (given_arm c.requires.line_in_tables c.requires.shaped c.in-32.is)

pub e_indzero-requires : goal.e_indzero-requires
unfolding used_premises premise_count
e_indzero-requires c = given_arm c.requires.line_in_tables c.requires.shaped c.in-33.is

pub e_indsuc-requires : goal.e_indsuc-requires
unfolding used_premises premise_count
e_indsuc-requires c = given_arm c.requires.line_in_tables c.requires.shaped c.in-34.is

pub returns-in-17 : goal.returns-in-17
unfolding used_premises premise_count
returns-in-17 c = by_arm c.requires.line_in_tables c.requires.shaped c.in-17.is (c.e_refl.ensures _ _)

pub returns-in-18 : goal.returns-in-18
unfolding used_premises premise_count
returns-in-18 c = by_arm c.requires.line_in_tables c.requires.shaped c.in-18.is (c.e_sym.ensures _ _)

pub returns-in-19 : goal.returns-in-19
unfolding used_premises premise_count
returns-in-19 c = by_arm c.requires.line_in_tables c.requires.shaped c.in-19.is (c.e_trans.ensures _ _)

pub returns-in-20 : goal.returns-in-20
unfolding used_premises premise_count
returns-in-20 c = by_arm c.requires.line_in_tables c.requires.shaped c.in-20.is c.e_pi.ensures

pub returns-in-21 : goal.returns-in-21
unfolding used_premises premise_count
returns-in-21 c = by_arm c.requires.line_in_tables c.requires.shaped c.in-21.is c.e_absext.ensures

pub returns-in-22 : goal.returns-in-22
unfolding used_premises premise_count
returns-in-22 c = by_arm c.requires.line_in_tables c.requires.shaped c.in-22.is (c.e_app.ensures _ _)

pub returns-in-23 : goal.returns-in-23
unfolding used_premises premise_count
returns-in-23 c = by_arm c.requires.line_in_tables c.requires.shaped c.in-23.is c.e_sig.ensures

pub returns-in-24 : goal.returns-in-24
unfolding used_premises premise_count
returns-in-24 c = by_arm c.requires.line_in_tables c.requires.shaped c.in-24.is (c.e_pairext.ensures _ _)

pub returns-in-25 : goal.returns-in-25
unfolding used_premises premise_count
returns-in-25 c = by_arm c.requires.line_in_tables c.requires.shaped c.in-25.is (c.e_proj1.ensures _ _)

pub returns-in-26 : goal.returns-in-26
unfolding used_premises premise_count
returns-in-26 c = by_arm c.requires.line_in_tables c.requires.shaped c.in-26.is (c.e_proj2.ensures _ _)

pub returns-in-27 : goal.returns-in-27
unfolding used_premises premise_count
returns-in-27 c = by_arm c.requires.line_in_tables c.requires.shaped c.in-27.is (c.e_suc.ensures _ _)

pub returns-in-28 : goal.returns-in-28
unfolding used_premises premise_count
returns-in-28 c = by_arm c.requires.line_in_tables c.requires.shaped c.in-28.is c.e_ind.ensures

pub returns-in-29 : goal.returns-in-29
unfolding used_premises premise_count
returns-in-29 c = by_arm c.requires.line_in_tables c.requires.shaped c.in-29.is (c.e_conv.ensures _ _)

pub returns-in-30 : goal.returns-in-30
unfolding used_premises premise_count
returns-in-30 c = by_arm c.requires.line_in_tables c.requires.shaped c.in-30.is c.e_appabs.ensures

pub returns-in-31 : goal.returns-in-31
unfolding used_premises premise_count
returns-in-31 c =
    by_arm c.requires.line_in_tables c.requires.shaped c.in-31.is (c.e_projpair1.ensures _ _)

pub returns-in-32 : goal.returns-in-32
unfolding used_premises premise_count
returns-in-32 c =
    by_arm c.requires.line_in_tables c.requires.shaped c.in-32.is (c.e_projpair2.ensures _ _)

pub returns-in-33 : goal.returns-in-33
unfolding used_premises premise_count
returns-in-33 c = by_arm c.requires.line_in_tables c.requires.shaped c.in-33.is c.e_indzero.ensures

pub returns-in-34 : goal.returns-in-34
unfolding used_premises premise_count
returns-in-34 c = by_arm c.requires.line_in_tables c.requires.shaped c.in-34.is c.e_indsuc.ensures
