-- What the table asks of every rule first; then the form leads to the group that decides.
-- Assumes nothing.
use mathlib.Core.Path.{◌≡◌, ◌∙◌, sym}
use mathlib.Core.Logic.{⊎_elim}
use native.Mathlib.Omega.{arith}
use Rattle.rules.proofs.TableLaws.{range_0, range_1, range_2, range_3, range_4, range_5, range_6, form_small}
use Rattle.rules.specs.RuleTable.{form_of}
use Rattle.rules.proofs.ArmLaws.{shaped_given, wrong_shape, given_empty, by_group}
use Rattle.rules.proofs.instances.is_instance.Goals as goal

pub shaped-requires : goal.shaped-requires
shaped-requires c =
    let line = c.requires.line_in_tables in
    record { rule = line.known; contexts_in_table = shaped_given line }

pub wellformed_instance-requires : goal.wellformed_instance-requires
wellformed_instance-requires c =
    let line = c.requires.line_in_tables in
    let range = (range_0 _ line.known).0 (sym c.conclusion_form-form.ensures ∙ c.in-0.is) in
    record { line_in_tables = line; shaped = c.shaped.ensures.0 c.if-shaped.true; le_rule = range }

pub typing_instance-requires : goal.typing_instance-requires
typing_instance-requires c =
    let line = c.requires.line_in_tables in
    let range = (range_1 _ line.known).0 (sym c.conclusion_form-form.ensures ∙ c.in-1.is) in
    record { line_in_tables = line; shaped = c.shaped.ensures.0 c.if-shaped.true; le_rule = range }

pub equality_instance-requires : goal.equality_instance-requires
equality_instance-requires c =
    let line = c.requires.line_in_tables in
    let ranges = (range_2 _ line.known).0 (sym c.conclusion_form-form.ensures ∙ c.in-2.is) in
    let range = ⊎_elim (λ h. h) (λ h. absurd (omega (arith, h, c.requires.rule_bound))) ranges in
    record { line_in_tables = line; shaped = c.shaped.ensures.0 c.if-shaped.true; le_rule = range }

pub subtyping_instance-requires : goal.subtyping_instance-requires
subtyping_instance-requires c =
    let line = c.requires.line_in_tables in
    let range = (range_3 _ line.known).0 (sym c.conclusion_form-form.ensures ∙ c.in-3.is) in
    record { line_in_tables = line; shaped = c.shaped.ensures.0 c.if-shaped.true; le_rule = range }

pub normal_instance-requires : goal.normal_instance-requires
normal_instance-requires c =
    let line = c.requires.line_in_tables in
    let range = (range_4 _ line.known).0 (sym c.conclusion_form-form.ensures ∙ c.in-4.is) in
    record { subjects_in_table = given_empty line (c.shaped.ensures.0 c.if-shaped.true); le_rule = range }

pub neutral_instance-requires : goal.neutral_instance-requires
neutral_instance-requires c =
    let line = c.requires.line_in_tables in
    let range = (range_5 _ line.known).0 (sym c.conclusion_form-form.ensures ∙ c.in-5.is) in
    record { subjects_in_table = given_empty line (c.shaped.ensures.0 c.if-shaped.true); le_rule = range }

pub step_instance-requires : goal.step_instance-requires
step_instance-requires c =
    let line = c.requires.line_in_tables in
    let range = (range_6 _ line.known).0 (omega (arith, form_small _ line.known, c.conclusion_form-form.ensures)) in
    record { subjects_in_table = given_empty line (c.shaped.ensures.0 c.if-shaped.true); le_rule = range }

pub returns-in-4 : goal.returns-in-4
returns-in-4 c =
    let line = c.requires.line_in_tables in
    let form = sym c.conclusion_form-form.ensures ∙ c.in-4.is in
    by_group line (c.shaped.ensures.0 c.if-shaped.true) (omega (arith, form))
    c.normal_instance.ensures

pub returns-in-5 : goal.returns-in-5
returns-in-5 c =
    let line = c.requires.line_in_tables in
    let form = sym c.conclusion_form-form.ensures ∙ c.in-5.is in
    by_group line (c.shaped.ensures.0 c.if-shaped.true) (omega (arith, form))
    c.neutral_instance.ensures

pub returns-in_default : goal.returns-in_default
returns-in_default c =
    let line = c.requires.line_in_tables in
    let form : form_of c.args.rule ≡ 6 = omega (arith, form_small _ line.known, c.conclusion_form-form.ensures) in
    by_group line (c.shaped.ensures.0 c.if-shaped.true) (omega (arith, form))
    c.step_instance.ensures

pub returns-else-shaped : goal.returns-else-shaped
returns-else-shaped c = wrong_shape c.requires.line_in_tables c.shaped.ensures c.if-shaped.false
