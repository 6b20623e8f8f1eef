-- WT-PROJ2: the tests are joined, and together they are the law of rule 11.
-- Assumes nothing.
use mathlib.Core.Path.{◌≡◌, refl}
use mathlib.Core.Logic.{◌↔◌}
use mathlib.Core.List.{[], ◌∷◌}
use Rattle.terms.specs.Term.{Term, first, second, sigma}
use Rattle.terms.specs.Tag.{child}
use Rattle.terms.specs.Substitution.{◌⟨◌⟩}
use Rattle.terms.proofs.Tests.{decides_via, ◌&◌, decides_then, decides_not}
use Rattle.rules.specs.Judgment.{Context, typed}
use Rattle.rules.specs.Instance.{Instance}
use Rattle.rules.specs.RuleChecks.{FollowsIn}
use Rattle.rules.proofs.TypingLaws.{rule_11}
use Rattle.rules.proofs.typing.wt_proj2.Goals as goal

-- the tests together are the rule
agrees : {G : Context} {c₁ c₃ p₁ p₃ a b : Term} → a ≡ child p₃ 1 → b ≡ child p₃ 2
    → (((c₁ ≡ second p₁) × (p₃ ≡ sigma a b)) × (c₃ ≡ b ⟨ first p₁ ⟩))
    ↔ Instance 11 (typed G p₁ p₃ ∷ []) (typed G c₁ c₃)
unfolding child
agrees k₁ k₂ = (λ h. rule_11.1 (refl, cc, cc, cc), λ i. let t = rule_11.0 i in ((cc, cc), cc))

pub returns-then-is_node : goal.returns-then-is_node
unfolding FollowsIn ◌⟨◌⟩
returns-then-is_node c =
    λ contexts G. decides_via (agrees c.child-a.ensures.value c.child-b.ensures.value)
    (decides_then
    (c.is_node.ensures & c.is_node-2.ensures)
    c.if-is_node.true
    c.is_substituted.ensures)

pub returns-else-is_node : goal.returns-else-is_node
unfolding FollowsIn ◌⟨◌⟩
returns-else-is_node c =
    λ contexts G. decides_via (agrees c.child-a.ensures.value c.child-b.ensures.value)
    (decides_not
    (c.is_node.ensures & c.is_node-2.ensures)
    c.if-is_node.false)
