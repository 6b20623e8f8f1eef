-- WF-CONS: the last entry and its universe.
-- Assumes nothing.
use Rattle.terms.proofs.Tests.{other_rows}
use Rattle.rules.specs.Subjects.{used_subjects}
use Rattle.rules.specs.RuleChecks.{FollowsIn}
use Rattle.rules.proofs.ContextTableAnswers.{rows_known, term_rows}
use Rattle.rules.proofs.ContextRuleAnswers.{cons_none, cons_says, entry_row}
use native.Mathlib.Omega.{arith}
use Rattle.rules.proofs.wellformed.wf_cons.Goals as goal

pub returns-then-n-eq0 : goal.returns-then-n-eq0
unfolding FollowsIn
returns-then-n-eq0 c = λ p. cons_none _ _ _ c.if-n-eq0.true

pub same_term-requires : goal.same_term-requires
unfolding used_subjects
same_term-requires c =
    let rows = c.requires in
    let row = entry_row _ _ rows _ (omega (arith, rows.given.within)) _ c.if-n-eq0.false c.type_of.ensures.value in
    term_rows rows.given (row, (omega (arith, rows.below), tt))

pub is_universe-requires : goal.is_universe-requires
unfolding used_subjects
is_universe-requires c =
    other_rows (λ n h. (omega (arith, h), tt)) (rows_known c.requires)

pub returns : goal.returns
unfolding FollowsIn
returns c =
    let rows = c.requires in
    λ p. cons_says _ _ rows _ (omega (arith, rows.given.within)) _ _ _ c.if-n-eq0.false
    c.type_of.ensures.value
    c.same_term.ensures c.is_universe.ensures
