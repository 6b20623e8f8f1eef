-- E-TRANS: the tests are joined, and together they are the law of rule 19.
-- Assumes nothing.
use mathlib.Core.Path.{◌≡◌, refl}
use mathlib.Core.Logic.{◌↔◌}
use mathlib.Core.List.{[], ◌∷◌}
use Rattle.terms.specs.Term.{Term}
use Rattle.terms.proofs.Tests.{decides_via, ◌&◌}
use Rattle.rules.specs.Judgment.{Context, equal}
use Rattle.rules.specs.Instance.{Instance}
use Rattle.rules.specs.RuleChecks.{FollowsIn}
use Rattle.rules.proofs.EqualityLaws.{rule_19}
use Rattle.rules.proofs.equality.e_trans.Goals as goal

-- the tests together are the rule
agrees : {G : Context} {c₁ c₂ c₃ p₁ p₂ p₃ q₁ q₂ q₃ : Term}
    → (((((c₁ ≡ p₁) × (q₁ ≡ p₂)) × (c₂ ≡ q₂)) × (p₃ ≡ c₃)) × (q₃ ≡ c₃))
    ↔ Instance 19 (equal G p₁ p₂ p₃ ∷ equal G q₁ q₂ q₃ ∷ []) (equal G c₁ c₂ c₃)
agrees = (λ h. rule_19.1 (refl, refl, cc, cc, cc, cc, cc), λ i. let t = rule_19.0 i in ((((cc, cc), cc), cc), cc))

pub returns : goal.returns
unfolding FollowsIn
returns c =
    λ contexts G. decides_via agrees
    (c.same_term.ensures & c.same_term-2.ensures & c.same_term-3.ensures
    & c.same_term-4.ensures & c.same_term-5.ensures)
