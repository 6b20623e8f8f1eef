-- N-INDZERO: the tests are joined, and together they are the law of rule 65.
-- Assumes nothing.
use mathlib.Core.Path.{◌≡◌}
use mathlib.Core.Logic.{◌↔◌}
use mathlib.Core.List.{[], ◌∷◌}
use Rattle.terms.specs.Term.{Term, ind, zer}
use Rattle.terms.specs.Tag.{child}
use Rattle.terms.proofs.Tests.{decides_via, ◌&◌}
use Rattle.rules.specs.Judgment.{normal, steps}
use Rattle.rules.specs.RuleTable.{premise_count}
use Rattle.rules.specs.Instance.{Instance}
use Rattle.rules.specs.Stated.{used_premises}
use Rattle.rules.specs.RuleChecks.{FollowsIn}
use Rattle.rules.proofs.NormalisationLaws.{rule_65}
use Rattle.rules.proofs.normalisation.n_indzero.Goals as goal

-- the tests together are the rule
agrees : {c₁ c₂ p₁ q₁ r₁ z : Term} → z ≡ child c₁ 2 → (((c₁ ≡ ind p₁ z q₁ r₁) × (z ≡ zer)) × (c₂ ≡ q₁))
    ↔ Instance 65 (normal [] p₁ ∷ normal [] q₁ ∷ normal [] r₁ ∷ []) (steps [] c₁ c₂)
unfolding child
agrees k = (λ h. rule_65.1 (cc, cc), λ i. let t = rule_65.0 i in ((cc, cc), cc))

pub returns : goal.returns
unfolding used_premises premise_count FollowsIn
returns c =
    λ contexts. decides_via (agrees c.child-z.ensures.value)
    (c.are_nodes.ensures & c.same_term.ensures)
