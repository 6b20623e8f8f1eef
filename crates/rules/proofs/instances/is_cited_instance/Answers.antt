-- The motive's test and the check of the rule as printed.
-- Assumes nothing.
use native.Mathlib.Omega.{arith}
use Rattle.terms.proofs.Tests.{decides_via, ◌&◌}
use Rattle.rules.proofs.MotiveLaws.{cited_line}
use Rattle.rules.proofs.instances.is_cited_instance.Goals as goal

pub gives_motive-requires : goal.gives_motive-requires
gives_motive-requires c =
    let given = c.requires.line_in_tables in
    let cited = cited_line given c.requires.lt_rule in
    record { judgments_in_tables = cited.motive; form_value = cited.form }

pub overflow_sub-rule : goal.overflow_sub-rule
overflow_sub-rule c = omega (arith, c.requires.lt_rule)

pub is_instance-requires : goal.is_instance-requires
is_instance-requires c =
    let given = c.requires in
    let printed = (cited_line given.line_in_tables given.lt_rule).printed in
    record {
      line_in_tables = printed;
      rule_bound = omega (arith, printed.known);
    }

pub returns : goal.returns
returns c =
    let given = c.requires.line_in_tables in
    decides_via (cited_line given c.requires.lt_rule).law (c.gives_motive.ensures & c.is_instance.ensures)
