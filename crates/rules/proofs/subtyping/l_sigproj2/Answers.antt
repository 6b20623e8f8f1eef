-- L-SIGPROJ2: the tests are joined, and together they are the law of rule 43.
-- Assumes nothing.
use mathlib.Core.Path.{◌≡◌, refl}
use mathlib.Core.Logic.{◌↔◌}
use mathlib.Core.List.{[], ◌∷◌}
use Rattle.terms.specs.Term.{Term, sigma}
use Rattle.terms.specs.Tag.{child}
use Rattle.terms.specs.Substitution.{◌⟨◌⟩}
use Rattle.terms.proofs.Tests.{decides_via, ◌&◌, decides_then, decides_not}
use Rattle.rules.specs.Judgment.{Context, equal, sub}
use Rattle.rules.specs.Instance.{Instance}
use Rattle.rules.specs.RuleChecks.{FollowsIn}
use Rattle.rules.proofs.SubtypingLaws.{rule_43}
use Rattle.rules.proofs.subtyping.l_sigproj2.Goals as goal

-- the tests together are the rule
agrees : {G : Context} {c₁ c₂ p₁ p₂ q₁ q₂ q₃ b a d : Term} → b ≡ child p₁ 2 → a ≡ child p₂ 1 → d ≡ child p₂ 2
    → (((p₁ ≡ sigma q₃ b) × (p₂ ≡ sigma a d)) × ((c₁ ≡ b ⟨ q₁ ⟩) × (c₂ ≡ d ⟨ q₂ ⟩)))
    ↔ Instance 43 (sub G p₁ p₂ ∷ equal G q₁ q₂ q₃ ∷ []) (sub G c₁ c₂)
unfolding child
agrees k₁ k₂ k₃ = (λ h. rule_43.1 (refl, refl, cc, cc, cc, cc), λ i. let t = rule_43.0 i in ((cc, cc), (cc, cc)))

pub returns-then-is_node : goal.returns-then-is_node
unfolding FollowsIn ◌⟨◌⟩
returns-then-is_node c =
    λ contexts G. decides_via
    (agrees c.child-b.ensures.value c.child-a.ensures.value c.child-d.ensures.value)
    (decides_then
    (c.is_node.ensures & c.is_node-2.ensures)
    c.if-is_node.true
    (c.is_substituted.ensures & c.is_substituted-then-is_node.ensures))

pub returns-else-is_node : goal.returns-else-is_node
unfolding FollowsIn ◌⟨◌⟩
returns-else-is_node c =
    λ contexts G. decides_via
    (agrees c.child-b.ensures.value c.child-a.ensures.value c.child-d.ensures.value)
    (decides_not
    (c.is_node.ensures & c.is_node-2.ensures)
    c.if-is_node.false)
