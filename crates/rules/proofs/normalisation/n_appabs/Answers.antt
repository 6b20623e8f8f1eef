-- N-APPABS: the tests are joined, and together they are the law of rule 59.
-- Assumes nothing.
use mathlib.Core.Path.{◌≡◌}
use mathlib.Core.Logic.{◌↔◌}
use mathlib.Core.List.{[], ◌∷◌}
use Rattle.terms.specs.Term.{Term, lam, app}
use Rattle.terms.specs.Tag.{child}
use Rattle.terms.specs.Substitution.{◌⟨◌⟩}
use Rattle.terms.proofs.Tests.{decides_via, decides_then, decides_not}
use Rattle.rules.specs.Judgment.{normal, steps}
use Rattle.rules.specs.RuleTable.{premise_count}
use Rattle.rules.specs.Instance.{Instance}
use Rattle.rules.specs.Stated.{used_premises}
use Rattle.rules.specs.RuleChecks.{FollowsIn}
use Rattle.rules.proofs.NormalisationLaws.{rule_59}
use Rattle.rules.proofs.normalisation.n_appabs.Goals as goal

-- the tests together are the rule
agrees : {c₁ c₂ p₁ f a : Term} → f ≡ child c₁ 1 → a ≡ child f 1 → (((c₁ ≡ app f p₁) × (f ≡ lam a)) × (c₂ ≡ a ⟨ p₁ ⟩))
    ↔ Instance 59 (normal [] p₁ ∷ []) (steps [] c₁ c₂)
unfolding child
agrees k₁ k₂ = (λ h. rule_59.1 (cc, cc), λ i. let t = rule_59.0 i in ((cc, cc), cc))

pub returns-then-are_nodes : goal.returns-then-are_nodes
unfolding used_premises premise_count FollowsIn ◌⟨◌⟩
returns-then-are_nodes c =
    λ contexts. decides_via (agrees c.child-f.ensures.value c.child-a.ensures.value)
    (decides_then c.are_nodes.ensures c.if-are_nodes.true c.is_substituted.ensures)

pub returns-else-are_nodes : goal.returns-else-are_nodes
unfolding used_premises premise_count FollowsIn ◌⟨◌⟩
returns-else-are_nodes c =
    λ contexts. decides_via (agrees c.child-f.ensures.value c.child-a.ensures.value)
    (decides_not c.are_nodes.ensures c.if-are_nodes.false)
