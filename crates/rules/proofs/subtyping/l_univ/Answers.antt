-- L-UNIV: the one test is the law of rule 37.
-- Assumes nothing.
use mathlib.Core.Path.{refl}
use mathlib.Core.Logic.{◌↔◌}
use mathlib.Core.List.{[], ◌∷◌}
use Rattle.terms.specs.Term.{Term}
use Rattle.terms.proofs.Tests.{decides_via}
use Rattle.rules.specs.Judgment.{Context, wf, sub}
use Rattle.rules.specs.Instance.{Instance}
use Rattle.rules.specs.RuleChecks.{FollowsIn}
use Rattle.rules.specs.Conditions.{UniversesRise}
use Rattle.rules.proofs.SubtypingLaws.{rule_37}
use Rattle.rules.proofs.subtyping.l_univ.Goals as goal

-- the tests together are the rule
agrees : {G : Context} {c₁ c₂ : Term} → UniversesRise c₁ c₂
    ↔ Instance 37 (wf G ∷ []) (sub G c₁ c₂)
agrees = (λ h. rule_37.1 (refl, h), λ i. let t = rule_37.0 i in t.1)

pub returns : goal.returns
unfolding FollowsIn
returns c =
    λ p contexts G. decides_via agrees c.universes_rise.ensures
