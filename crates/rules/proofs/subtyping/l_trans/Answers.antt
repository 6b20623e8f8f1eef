-- L-TRANS: the tests are joined, and together they are the law of rule 35.
-- Assumes nothing.
use mathlib.Core.Path.{◌≡◌, refl}
use mathlib.Core.Logic.{◌↔◌}
use mathlib.Core.List.{[], ◌∷◌}
use Rattle.terms.specs.Term.{Term}
use Rattle.terms.proofs.Tests.{decides_via, ◌&◌}
use Rattle.rules.specs.Judgment.{Context, sub}
use Rattle.rules.specs.Instance.{Instance}
use Rattle.rules.specs.RuleChecks.{FollowsIn}
use Rattle.rules.proofs.SubtypingLaws.{rule_35}
use Rattle.rules.proofs.subtyping.l_trans.Goals as goal

-- the tests together are the rule
agrees : {G : Context} {c₁ c₂ p₁ p₂ q₁ q₂ : Term}
    → (((c₁ ≡ p₁) × (q₁ ≡ p₂)) × (c₂ ≡ q₂))
    ↔ Instance 35 (sub G p₁ p₂ ∷ sub G q₁ q₂ ∷ []) (sub G c₁ c₂)
agrees = (λ h. rule_35.1 (refl, refl, cc, cc, cc), λ i. let t = rule_35.0 i in ((cc, cc), cc))

pub returns : goal.returns
unfolding FollowsIn
returns c =
    λ contexts G. decides_via agrees
    (c.same_term.ensures & c.same_term-2.ensures & c.same_term-3.ensures)
