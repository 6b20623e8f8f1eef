-- The tests together say that the line gives the motive a universe.
use native.Mathlib.Omega.{arith}
use Rattle.terms.proofs.Tests.{says_no, decides_via, ◌&◌}
use Rattle.rules.specs.Subjects.{used_subjects}
use Rattle.rules.proofs.ArmLaws.{subjects_below}
use Rattle.rules.proofs.ContextTableAnswers.{term_rows}
use Rattle.rules.proofs.MotiveLaws.{gives_parts, gives_form}
use Rattle.rules.proofs.motives.gives_motive.Goals as goal

pub is_universe-requires : goal.is_universe-requires
unfolding used_subjects
is_universe-requires c =
    let in_table = c.requires.judgments_in_tables in
    term_rows in_table.given ((subjects_below _ _ 1 _ in_table.numbered.1.0 (omega arith)).1.0, tt)

pub same_term-requires : goal.same_term-requires
unfolding used_subjects
same_term-requires c =
    let given = c.requires in
    let in_table = c.requires.judgments_in_tables in
    let subject = (subjects_below _ _ 2 _ in_table.numbered.0 given.form_value).0 in
    term_rows in_table.given (
      (subjects_below _ _ 1 _ in_table.numbered.1.0 (omega arith)).0,
      (omega (arith, subject, c.child-motive.ensures.below), tt),
    )

pub child-motive-requires : goal.child-motive-requires
unfolding used_subjects
child-motive-requires c =
    let given = c.requires in
    let in_table = c.requires.judgments_in_tables in (
      term_rows in_table.given ((subjects_below _ _ 2 _ in_table.numbered.0 given.form_value).0, tt),
      omega arith,
      omega arith,
    )

pub returns-then-p-eq1 : goal.returns-then-p-eq1
returns-then-p-eq1 c =
    decides_via
    (gives_parts _ _ _ _ (omega arith) c.requires.form_value
    c.child-motive.ensures.value)
    (c.extends_nat.ensures & c.same_term.ensures & c.is_universe.ensures)

pub returns-else-p-eq1 : goal.returns-else-p-eq1
returns-else-p-eq1 c =
    let in_table = c.requires.judgments_in_tables in
    says_no (λ g. omega (arith, gives_form _ _ _ _ in_table.numbered.1.0.form g))
