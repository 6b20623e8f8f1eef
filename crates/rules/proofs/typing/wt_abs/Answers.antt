-- WT-ABS: the tests are joined, and together they are the law of rule 5.
-- Assumes nothing.
use mathlib.Core.Path.{◌≡◌}
use mathlib.Core.Logic.{◌↔◌}
use mathlib.Core.List.{[], ◌∷◌}
use Rattle.terms.specs.Term.{Term, lam, pi}
use Rattle.terms.specs.Tag.{child}
use Rattle.terms.proofs.Tests.{decides_via, ◌&◌}
use Rattle.rules.specs.Judgment.{Context, typed}
use Rattle.rules.specs.Instance.{Instance}
use Rattle.rules.specs.RuleChecks.{rule_subjects, FollowsIn}
use Rattle.rules.proofs.TypingLaws.{rule_5}
use Rattle.rules.proofs.ContextTableAnswers.{rows_of}
use native.Mathlib.Omega.{arith}
use Rattle.rules.proofs.typing.wt_abs.Goals as goal

-- the tests together are the rule
agrees : {G G₀ : Context} {c₁ c₃ p₁ p₃ a : Term} → a ≡ child c₃ 1
    → (((G₀ ≡ a ∷ G) × (c₁ ≡ lam p₁)) × (c₃ ≡ pi a p₃))
    ↔ Instance 5 (typed G₀ p₁ p₃ ∷ []) (typed G c₁ c₃)
unfolding child
agrees k₁ = (λ h. rule_5.1 (cc, cc, cc), λ i. let t = rule_5.0 i in ((cc, cc), cc))

pub extends-requires : goal.extends-requires
unfolding rule_subjects
extends-requires c =
    let rows = c.requires in
    rows_of rows (omega (arith, rows.given.within), (omega (arith, rows.given.within), tt))
    (omega (arith, rows.below, c.child-a.ensures.below), tt)

pub returns : goal.returns
unfolding FollowsIn
returns c =
    decides_via (agrees c.child-a.ensures.value)
    (c.extends.ensures & c.is_node.ensures & c.is_node-2.ensures)
