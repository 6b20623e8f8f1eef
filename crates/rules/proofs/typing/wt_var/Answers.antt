-- WT-VAR: the variable, its entry, and the entry's type raised.
-- Assumes nothing.
use Rattle.rules.specs.RuleChecks.{rule_subjects, FollowsIn}
use Rattle.rules.proofs.ContextTableAnswers.{term_rows}
use Rattle.rules.proofs.ContextRuleAnswers.{var_no, var_missing, var_found, found_row}
use native.Mathlib.Omega.{arith}
use Rattle.rules.proofs.typing.wt_var.Goals as goal

pub is_shifted-requires : goal.is_shifted-requires
unfolding rule_subjects
is_shifted-requires c =
    let rows = c.requires in
    let row = found_row _ _ rows _ (omega (arith, rows.given.within)) _ _ _ c.entry.ensures c.in-Some.is in (
      term_rows rows.given (row, (omega (arith, rows.below), tt)),
      omega (arith, row, rows.given.few_terms),
      omega (arith, c.number-x.ensures.range),
    )

pub returns-in-Some : goal.returns-in-Some
unfolding FollowsIn
returns-in-Some c =
    let rows = c.requires in
    λ p. var_found _ _ rows _ (omega (arith, rows.given.within)) _ c.number-x.ensures.value _ _
    c.entry.ensures c.in-Some.is _ c.is_node.ensures
    c.if-is_node.true _
    c.is_shifted.ensures

pub returns-in-None : goal.returns-in-None
unfolding FollowsIn
returns-in-None c =
    let rows = c.requires in
    λ p. var_missing _ _ rows _ (omega (arith, rows.given.within)) _ c.number-x.ensures.value _
    c.entry.ensures c.in-None.is

pub returns-else-is_node : goal.returns-else-is_node
unfolding FollowsIn
returns-else-is_node c =
    let rows = c.requires in
    λ p. var_no _ _ rows _ (omega (arith, rows.given.within)) _ c.number-x.ensures.value _
    c.is_node.ensures c.if-is_node.false
