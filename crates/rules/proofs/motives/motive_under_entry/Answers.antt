-- Where the context ends in Nat and the type is a universe it is the number of the subject in the context above; else no
-- motive has a universe by the line.
use native.Mathlib.Omega.{arith}
use Rattle.terms.proofs.Tests.{◌&◌, refuted}
use Rattle.rules.specs.Subjects.{used_subjects}
use Rattle.rules.proofs.ArmLaws.{subjects_below}
use Rattle.rules.proofs.ContextTableAnswers.{term_rows}
use Rattle.rules.proofs.MotiveNumberLaws.{numbers_small, no_motive_lem, motive_given}
use Rattle.rules.proofs.motives.motive_under_entry.Goals as goal

pub motive_number-requires : goal.motive_number-requires
motive_number-requires c =
    let small = numbers_small c.requires.judgments_in_tables c.requires.has_entry in
    (omega (arith, c.parent-above.ensures.value), omega arith)

pub is_universe-requires : goal.is_universe-requires
unfolding used_subjects
is_universe-requires c =
    let given = c.requires.judgments_in_tables in
    term_rows given.given ((subjects_below _ _ 1 _ given.numbered.0 c.requires.has_entry.0).1.0, tt)

pub returns-then-is_node-is_universe : goal.returns-then-is_node-is_universe
returns-then-is_node-is_universe c =
    let small = numbers_small c.requires.judgments_in_tables c.requires.has_entry in
    record {
      number = motive_given _ _ _ c.requires.has_entry _ c.type_of-entry.ensures.value _ _
          c.parent-above.ensures.value c.motive_number.ensures
          ((c.is_node.ensures & c.is_universe.ensures).0 c.if-is_node-is_universe.true);
      range = omega (arith, c.motive_number.ensures, c.parent-above.ensures.value);
    }

pub returns : goal.returns
returns c =
    record {
      number = no_motive_lem _ _ _ c.requires.has_entry _ c.type_of-entry.ensures.value
          (refuted (c.is_node.ensures & c.is_universe.ensures) c.if-is_node-is_universe.false);
      range = omega arith;
    }
