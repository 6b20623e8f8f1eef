-- N-INDSUC: the tests are joined, and together they are the law of rule 66.
-- Assumes nothing.
use mathlib.Core.Path.{◌≡◌}
use mathlib.Core.Logic.{◌↔◌}
use mathlib.Core.List.{[], ◌∷◌}
use Rattle.terms.specs.Term.{Term, ind, succ}
use Rattle.terms.specs.Tag.{child}
use Rattle.terms.specs.Substitution.{on_both}
use Rattle.terms.proofs.Tests.{decides_via, decides_then, decides_not}
use Rattle.rules.specs.Judgment.{normal, steps}
use Rattle.rules.specs.RuleTable.{premise_count}
use Rattle.rules.specs.Instance.{Instance}
use Rattle.rules.specs.Stated.{used_premises}
use Rattle.rules.specs.RuleChecks.{FollowsIn}
use Rattle.rules.proofs.NormalisationLaws.{rule_66}
use Rattle.rules.proofs.normalisation.n_indsuc.Goals as goal

-- the tests together are the rule
agrees : {c₁ c₂ p₁ q₁ r₁ s₁ z : Term} → z ≡ child c₁ 2
    → (((c₁ ≡ ind p₁ z r₁ s₁) × (z ≡ succ q₁)) × (c₂ ≡ on_both s₁ q₁ (ind p₁ q₁ r₁ s₁)))
    ↔ Instance 66 (normal [] p₁ ∷ normal [] q₁ ∷ normal [] r₁ ∷ normal [] s₁ ∷ []) (steps [] c₁ c₂)
unfolding child
agrees k = (λ h. rule_66.1 (cc, cc), λ i. let t = rule_66.0 i in ((cc, cc), cc))

pub returns-then-are_nodes : goal.returns-then-are_nodes
unfolding used_premises premise_count FollowsIn on_both
returns-then-are_nodes c =
    λ contexts. decides_via (agrees c.child-z.ensures.value)
    (decides_then c.are_nodes.ensures c.if-are_nodes.true c.is_substituted.ensures)

pub returns-else-are_nodes : goal.returns-else-are_nodes
unfolding used_premises premise_count FollowsIn on_both
returns-else-are_nodes c =
    λ contexts. decides_via (agrees c.child-z.ensures.value)
    (decides_not c.are_nodes.ensures c.if-are_nodes.false)
