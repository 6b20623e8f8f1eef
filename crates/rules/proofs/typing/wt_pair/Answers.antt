-- WT-PAIR: the tests are joined, and together they are the law of rule 9.
-- Assumes nothing.
use mathlib.Core.Path.{◌≡◌, refl}
use mathlib.Core.Logic.{◌↔◌}
use mathlib.Core.List.{[], ◌∷◌}
use Rattle.terms.specs.Term.{Term, pair, sigma}
use Rattle.terms.specs.Tag.{child}
use Rattle.terms.specs.Substitution.{◌⟨◌⟩}
use Rattle.terms.proofs.Tests.{decides_via, ◌&◌, decides_then, decides_not}
use Rattle.rules.specs.Judgment.{Context, typed}
use Rattle.rules.specs.Instance.{Instance}
use Rattle.rules.specs.RuleChecks.{FollowsIn}
use Rattle.rules.specs.Conditions.{IsUniverse}
use Rattle.rules.proofs.TypingLaws.{rule_9}
use Rattle.rules.proofs.typing.wt_pair.Goals as goal

-- the tests together are the rule
agrees : {G : Context} {c₁ c₃ p₁ p₃ q₁ q₃ r₁ r₃ b : Term} → b ≡ child c₃ 2
    → (((((c₁ ≡ pair p₁ q₁) × (c₃ ≡ sigma p₃ b)) × (r₁ ≡ c₃)) × IsUniverse r₃) × (q₃ ≡ b ⟨ p₁ ⟩))
    ↔ Instance 9 (typed G p₁ p₃ ∷ typed G q₁ q₃ ∷ typed G r₁ r₃ ∷ []) (typed G c₁ c₃)
unfolding child
agrees k₁ = (
  λ h. rule_9.1 (refl, refl, refl, cc, cc, cc, cc, h.0.1),
  λ i. let t = rule_9.0 i in ((((cc, cc), cc), t.7), cc),
)

pub returns-then-is_node-same_term : goal.returns-then-is_node-same_term
unfolding FollowsIn ◌⟨◌⟩
returns-then-is_node-same_term c =
    λ contexts G. decides_via (agrees c.child-b.ensures.value)
    (decides_then
    (c.is_node.ensures & c.is_node-2.ensures & c.same_term.ensures
    & c.is_universe.ensures)
    c.if-is_node-same_term.true
    c.is_substituted.ensures)

pub returns-else-is_node-same_term : goal.returns-else-is_node-same_term
unfolding FollowsIn ◌⟨◌⟩
returns-else-is_node-same_term c =
    λ contexts G. decides_via (agrees c.child-b.ensures.value)
    (decides_not
    (c.is_node.ensures & c.is_node-2.ensures & c.same_term.ensures
    & c.is_universe.ensures)
    c.if-is_node-same_term.false)
