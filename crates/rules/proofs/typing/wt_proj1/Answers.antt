-- WT-PROJ1: the tests are joined, and together they are the law of rule 10.
-- Assumes nothing.
use mathlib.Core.Path.{◌≡◌, refl}
use mathlib.Core.Logic.{◌↔◌}
use mathlib.Core.List.{[], ◌∷◌}
use Rattle.terms.specs.Term.{Term, first, sigma}
use Rattle.terms.specs.Tag.{child}
use Rattle.terms.proofs.Tests.{decides_via, ◌&◌}
use Rattle.rules.specs.Judgment.{Context, typed}
use Rattle.rules.specs.Instance.{Instance}
use Rattle.rules.specs.RuleChecks.{FollowsIn}
use Rattle.rules.proofs.TypingLaws.{rule_10}
use Rattle.rules.proofs.typing.wt_proj1.Goals as goal

-- the tests together are the rule
agrees : {G : Context} {c₁ c₃ p₁ p₃ b : Term} → b ≡ child p₃ 2
    → ((c₁ ≡ first p₁) × (p₃ ≡ sigma c₃ b))
    ↔ Instance 10 (typed G p₁ p₃ ∷ []) (typed G c₁ c₃)
unfolding child
agrees k₁ = (λ h. rule_10.1 (refl, cc, cc), λ i. let t = rule_10.0 i in (cc, cc))

pub returns : goal.returns
unfolding FollowsIn
returns c =
    λ contexts G. decides_via (agrees c.child-b.ensures.value) (c.is_node.ensures & c.is_node-2.ensures)
