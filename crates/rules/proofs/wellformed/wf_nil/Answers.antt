-- WF-NIL: equal contexts have equal numbers, and 0 is the empty one.
-- Assumes nothing.
use Rattle.rules.specs.RuleChecks.{FollowsIn}
use Rattle.rules.proofs.ContextTableAnswers.{other_contexts}
use Rattle.rules.proofs.ContextRuleAnswers.{nil_says}
use native.Mathlib.Omega.{arith}
use Rattle.rules.proofs.wellformed.wf_nil.Goals as goal

pub same_context-requires : goal.same_context-requires
same_context-requires c =
    let rows = c.requires in
    other_contexts rows.given (omega (arith, rows.given.within), (omega arith, tt))

pub returns : goal.returns
unfolding FollowsIn
returns c = nil_says _ _ _ _ c.same_context.ensures
