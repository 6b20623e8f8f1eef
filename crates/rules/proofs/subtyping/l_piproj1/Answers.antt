-- L-PIPROJ1: the tests are joined, and together they are the law of rule 40.
-- Assumes nothing.
use mathlib.Core.Path.{◌≡◌, refl}
use mathlib.Core.Logic.{◌↔◌}
use mathlib.Core.List.{[], ◌∷◌}
use Rattle.terms.specs.Term.{Term, pi}
use Rattle.terms.specs.Tag.{child}
use Rattle.terms.proofs.Tests.{decides_via, ◌&◌}
use Rattle.rules.specs.Judgment.{Context, sub}
use Rattle.rules.specs.Instance.{Instance}
use Rattle.rules.specs.RuleChecks.{FollowsIn}
use Rattle.rules.proofs.SubtypingLaws.{rule_40}
use Rattle.rules.proofs.subtyping.l_piproj1.Goals as goal

-- the tests together are the rule
agrees : {G : Context} {c₁ c₂ p₁ p₂ b d : Term} → b ≡ child p₁ 2 → d ≡ child p₂ 2
    → ((p₁ ≡ pi c₂ b) × (p₂ ≡ pi c₁ d))
    ↔ Instance 40 (sub G p₁ p₂ ∷ []) (sub G c₁ c₂)
unfolding child
agrees k₁ k₂ = (λ h. rule_40.1 (refl, cc, cc), λ i. let t = rule_40.0 i in (cc, cc))

pub returns : goal.returns
unfolding FollowsIn
returns c =
    λ contexts G. decides_via (agrees c.child-b.ensures.value c.child-d.ensures.value)
    (c.is_node.ensures & c.is_node-2.ensures)
