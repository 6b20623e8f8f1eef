-- E-PAIREXT: the tests are joined, and together they are the law of rule 24.
-- Assumes nothing.
use mathlib.Core.Path.{◌≡◌, refl}
use mathlib.Core.Logic.{◌↔◌}
use mathlib.Core.List.{[], ◌∷◌}
use Rattle.terms.specs.Term.{Term, first, second, sigma}
use Rattle.terms.specs.Tag.{child}
use Rattle.terms.specs.Substitution.{◌⟨◌⟩}
use Rattle.terms.proofs.Tests.{decides_via, ◌&◌, decides_then, decides_not}
use Rattle.rules.specs.Judgment.{Context, equal}
use Rattle.rules.specs.Instance.{Instance}
use Rattle.rules.specs.RuleChecks.{FollowsIn}
use Rattle.rules.proofs.EqualityLaws.{rule_24}
use Rattle.rules.proofs.equality.e_pairext.Goals as goal

-- the tests together are the rule
agrees : {G : Context} {c₁ c₂ c₃ p₁ p₂ p₃ q₁ q₂ q₃ b : Term} → b ≡ child c₃ 2
    → ((((((p₁ ≡ first c₁) × (p₂ ≡ first c₂)) × (q₁ ≡ second c₁)) × (q₂ ≡ second c₂)) × (c₃ ≡ sigma p₃ b))
    × (q₃ ≡ b ⟨ first c₁ ⟩))
    ↔ Instance 24 (equal G p₁ p₂ p₃ ∷ equal G q₁ q₂ q₃ ∷ []) (equal G c₁ c₂ c₃)
unfolding child
agrees k₁ = (
  λ h. rule_24.1 (refl, refl, cc, cc, cc, cc, cc, cc),
  λ i. let t = rule_24.0 i in (((((cc, cc), cc), cc), cc), cc),
)

pub returns-then-is_node : goal.returns-then-is_node
unfolding FollowsIn ◌⟨◌⟩
returns-then-is_node c =
    λ contexts G. decides_via (agrees c.child-b.ensures.value)
    (decides_then
    (c.is_node.ensures & c.is_node-2.ensures & c.is_node-3.ensures
    & c.is_node-4.ensures & c.is_node-5.ensures)
    c.if-is_node.true
    c.is_substituted.ensures)

pub returns-else-is_node : goal.returns-else-is_node
unfolding FollowsIn ◌⟨◌⟩
returns-else-is_node c =
    λ contexts G. decides_via (agrees c.child-b.ensures.value)
    (decides_not
    (c.is_node.ensures & c.is_node-2.ensures & c.is_node-3.ensures
    & c.is_node-4.ensures & c.is_node-5.ensures)
    c.if-is_node.false)
