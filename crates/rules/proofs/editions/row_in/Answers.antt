use mathlib.Core.Path.{sym, ◌∙◌}
use native.Mathlib.Omega.{arith}
use Rattle.terms.proofs.Tests.{refuted}
use Rattle.rules.proofs.EditionLaws.{says_motive, row_motive, row_own, row_refused}
use Rattle.rules.proofs.editions.row_in.Goals as goal

pub overflow_add-result : goal.overflow_add-result
overflow_add-result c = omega (arith, (says_motive _ _).0 (sym c.asks_motive.ensures ∙ c.if-asks_motive.true))

pub returns-then-asks_motive : goal.returns-then-asks_motive
returns-then-asks_motive c = sym (row_motive _ _ ((says_motive _ _).0 (sym c.asks_motive.ensures ∙ c.if-asks_motive.true)))

pub returns-else-asks_motive : goal.returns-else-asks_motive
returns-else-asks_motive c =
    sym
    (row_own _ _ (omega (arith, c.last_rule.ensures))
    (refuted (says_motive _ _) (sym c.asks_motive.ensures ∙ c.if-asks_motive.false)))

pub returns-else-rule-last_rule : goal.returns-else-rule-last_rule
returns-else-rule-last_rule c = sym (row_refused _ _ (omega (arith, c.last_rule.ensures)))
