-- E-SYM: the tests are joined, and together they are the law of rule 18.
-- Assumes nothing.
use mathlib.Core.Path.{◌≡◌, refl}
use mathlib.Core.Logic.{◌↔◌}
use mathlib.Core.List.{[], ◌∷◌}
use Rattle.terms.specs.Term.{Term}
use Rattle.terms.proofs.Tests.{decides_via, ◌&◌}
use Rattle.rules.specs.Judgment.{Context, equal}
use Rattle.rules.specs.Instance.{Instance}
use Rattle.rules.specs.RuleChecks.{FollowsIn}
use Rattle.rules.proofs.EqualityLaws.{rule_18}
use Rattle.rules.proofs.equality.e_sym.Goals as goal

-- the tests together are the rule
agrees : {G : Context} {c₁ c₂ c₃ p₁ p₂ p₃ : Term}
    → (((c₁ ≡ p₂) × (c₂ ≡ p₁)) × (c₃ ≡ p₃))
    ↔ Instance 18 (equal G p₁ p₂ p₃ ∷ []) (equal G c₁ c₂ c₃)
agrees = (λ h. rule_18.1 (refl, cc, cc, cc), λ i. let t = rule_18.0 i in ((cc, cc), cc))

pub returns : goal.returns
unfolding FollowsIn
returns c =
    λ contexts G. decides_via agrees
    (c.same_term.ensures & c.same_term-2.ensures & c.same_term-3.ensures)
