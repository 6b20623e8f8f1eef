-- E-APPABS: the tests are joined, and together they are the law of rule 30.
-- Assumes nothing.
use mathlib.Core.Path.{◌≡◌, refl}
use mathlib.Core.Logic.{◌↔◌}
use mathlib.Core.List.{[], ◌∷◌}
use Rattle.terms.specs.Term.{Term, app, lam}
use Rattle.terms.specs.Tag.{child}
use Rattle.terms.specs.Substitution.{◌⟨◌⟩}
use Rattle.terms.proofs.Tests.{decides_via, ◌&◌, decides_then, decides_not}
use Rattle.rules.specs.Judgment.{Context, typed, equal}
use Rattle.rules.specs.Instance.{Instance}
use Rattle.rules.specs.RuleChecks.{rule_subjects, FollowsIn}
use Rattle.rules.proofs.EqualityLaws.{rule_30}
use Rattle.rules.proofs.ContextTableAnswers.{rows_of}
use native.Mathlib.Omega.{arith}
use Rattle.rules.proofs.equality.e_appabs.Goals as goal

-- the tests together are the rule
agrees : {G G₁ : Context} {c₁ c₂ c₃ p₁ p₃ q₁ q₃ f : Term} → f ≡ child c₁ 1
    → ((((G₁ ≡ p₃ ∷ G) × (c₁ ≡ app f p₁)) × (f ≡ lam q₁)) × ((c₂ ≡ q₁ ⟨ p₁ ⟩) × (c₃ ≡ q₃ ⟨ p₁ ⟩)))
    ↔ Instance 30 (typed G p₁ p₃ ∷ typed G₁ q₁ q₃ ∷ []) (equal G c₁ c₂ c₃)
unfolding child
agrees k₁ = (λ h. rule_30.1 (refl, cc, cc, cc, cc), λ i. let t = rule_30.0 i in (((cc, cc), cc), (cc, cc)))

pub extends-requires : goal.extends-requires
unfolding rule_subjects
extends-requires c =
    let rows = c.requires in
    rows_of rows (omega (arith, rows.given.within), (omega (arith, rows.given.within), tt))
    (omega (arith, rows.below), tt)

pub returns-then-extends-is_node : goal.returns-then-extends-is_node
unfolding FollowsIn ◌⟨◌⟩
returns-then-extends-is_node c =
    decides_via (agrees c.child-f.ensures.value)
    (decides_then
    (c.extends.ensures & c.is_node.ensures & c.is_node-2.ensures)
    c.if-extends-is_node.true
    (c.is_substituted.ensures & c.is_substituted-then-extends-is_node.ensures))

pub returns-else-extends-is_node : goal.returns-else-extends-is_node
unfolding FollowsIn ◌⟨◌⟩
returns-else-extends-is_node c =
    decides_via (agrees c.child-f.ensures.value)
    (decides_not
    (c.extends.ensures & c.is_node.ensures & c.is_node-2.ensures)
    c.if-extends-is_node.false)
