-- L-EQ: the tests are joined, and together they are the law of rule 36.
-- Assumes nothing.
use mathlib.Core.Path.{◌≡◌, refl}
use mathlib.Core.Logic.{◌↔◌}
use mathlib.Core.List.{[], ◌∷◌}
use Rattle.terms.specs.Term.{Term}
use Rattle.terms.proofs.Tests.{decides_via, ◌&◌}
use Rattle.rules.specs.Judgment.{Context, equal, sub}
use Rattle.rules.specs.Instance.{Instance}
use Rattle.rules.specs.RuleChecks.{FollowsIn}
use Rattle.rules.specs.Conditions.{IsUniverse}
use Rattle.rules.proofs.SubtypingLaws.{rule_36}
use Rattle.rules.proofs.subtyping.l_eq.Goals as goal

-- the tests together are the rule
agrees : {G : Context} {c₁ c₂ p₁ p₂ p₃ : Term}
    → (((c₁ ≡ p₁) × (c₂ ≡ p₂)) × IsUniverse p₃)
    ↔ Instance 36 (equal G p₁ p₂ p₃ ∷ []) (sub G c₁ c₂)
agrees = (λ h. rule_36.1 (refl, cc, cc, h.1), λ i. let t = rule_36.0 i in ((cc, cc), t.3))

pub returns : goal.returns
unfolding FollowsIn
returns c =
    λ contexts G. decides_via agrees
    (c.same_term.ensures & c.same_term-2.ensures & c.is_universe.ensures)
