-- WT-CONV: the tests are joined, and together they are the law of rule 16.
-- Assumes nothing.
use mathlib.Core.Path.{◌≡◌, refl}
use mathlib.Core.Logic.{◌↔◌}
use mathlib.Core.List.{[], ◌∷◌}
use Rattle.terms.specs.Term.{Term}
use Rattle.terms.proofs.Tests.{decides_via, ◌&◌}
use Rattle.rules.specs.Judgment.{Context, typed, sub}
use Rattle.rules.specs.Instance.{Instance}
use Rattle.rules.specs.RuleChecks.{FollowsIn}
use Rattle.rules.proofs.TypingLaws.{rule_16}
use Rattle.rules.proofs.typing.wt_conv.Goals as goal

-- the tests together are the rule
agrees : {G : Context} {c₁ c₃ p₁ p₃ q₁ q₂ : Term}
    → (((c₁ ≡ p₁) × (q₁ ≡ p₃)) × (c₃ ≡ q₂))
    ↔ Instance 16 (typed G p₁ p₃ ∷ sub G q₁ q₂ ∷ []) (typed G c₁ c₃)
agrees = (λ h. rule_16.1 (refl, refl, cc, cc, cc), λ i. let t = rule_16.0 i in ((cc, cc), cc))

pub returns : goal.returns
unfolding FollowsIn
returns c =
    λ contexts G. decides_via agrees
    (c.same_term.ensures & c.same_term-2.ensures & c.same_term-3.ensures)
