-- The motive is the first child of the conclusion's first subject.
use native.Mathlib.Omega.{arith}
use Rattle.rules.specs.Subjects.{used_subjects}
use Rattle.rules.proofs.ArmLaws.{subjects_below}
use Rattle.rules.proofs.ContextTableAnswers.{term_rows}
use Rattle.rules.proofs.motives.motive_asked_by.Goals as goal

pub motive_number-requires : goal.motive_number-requires
unfolding used_subjects
motive_number-requires c =
    let given = c.requires in
    let in_table = c.requires.judgments_in_tables in
    let subject = (subjects_below _ _ 2 _ in_table.numbered.0 given.form_value).0 in (
      omega (arith, in_table.numbered.0.within, in_table.given.few),
      omega (arith, c.child.ensures.below, in_table.given.few_terms),
    )

pub child-requires : goal.child-requires
unfolding used_subjects
child-requires c =
    let given = c.requires in
    let in_table = c.requires.judgments_in_tables in (
      term_rows in_table.given ((subjects_below _ _ 2 _ in_table.numbered.0 given.form_value).0, tt),
      omega arith,
      omega arith,
    )

pub returns : goal.returns
returns c =
    let child = c.child in
    record {
      row = child.result;
      is = c.motive_number.ensures;
      within = child.ensures.below;
      motive = child.ensures.value;
    }
