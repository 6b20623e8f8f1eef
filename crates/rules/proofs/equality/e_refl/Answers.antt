-- E-REFL: the tests are joined, and together they are the law of rule 17.
-- Assumes nothing.
use mathlib.Core.Path.{◌≡◌, refl}
use mathlib.Core.Logic.{◌↔◌}
use mathlib.Core.List.{[], ◌∷◌}
use Rattle.terms.specs.Term.{Term}
use Rattle.terms.proofs.Tests.{decides_via, ◌&◌}
use Rattle.rules.specs.Judgment.{Context, typed, equal}
use Rattle.rules.specs.Instance.{Instance}
use Rattle.rules.specs.RuleChecks.{FollowsIn}
use Rattle.rules.proofs.EqualityLaws.{rule_17}
use Rattle.rules.proofs.equality.e_refl.Goals as goal

-- the tests together are the rule
agrees : {G : Context} {c₁ c₂ c₃ p₁ p₃ : Term}
    → (((c₁ ≡ p₁) × (c₂ ≡ p₁)) × (c₃ ≡ p₃))
    ↔ Instance 17 (typed G p₁ p₃ ∷ []) (equal G c₁ c₂ c₃)
agrees = (λ h. rule_17.1 (refl, cc, cc, cc), λ i. let t = rule_17.0 i in ((cc, cc), cc))

pub returns : goal.returns
unfolding FollowsIn
returns c =
    λ contexts G. decides_via agrees
    (c.same_term.ensures & c.same_term-2.ensures & c.same_term-3.ensures)
