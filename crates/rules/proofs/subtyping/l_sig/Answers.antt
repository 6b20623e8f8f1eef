-- L-SIG: the tests are joined, and together they are the law of rule 39.
-- Assumes nothing.
use mathlib.Core.Path.{◌≡◌, refl}
use mathlib.Core.Logic.{◌↔◌}
use mathlib.Core.List.{[], ◌∷◌}
use native.Mathlib.Omega.{arith}
use Rattle.terms.specs.Term.{Term, sigma}
use Rattle.terms.proofs.Tests.{decides_via, ◌&◌}
use Rattle.rules.specs.Judgment.{Context, sub}
use Rattle.rules.specs.Instance.{Instance}
use Rattle.rules.specs.RuleChecks.{rule_subjects, FollowsIn}
use Rattle.rules.proofs.SubtypingLaws.{rule_39}
use Rattle.rules.proofs.ContextTableAnswers.{rows_of}
use Rattle.rules.proofs.subtyping.l_sig.Goals as goal

-- the tests together are the rule
agrees : {G G₁ : Context} {c₁ c₂ p₁ p₂ q₁ q₂ : Term}
    → (((G₁ ≡ p₂ ∷ G) × (c₁ ≡ sigma p₁ q₁)) × (c₂ ≡ sigma p₂ q₂))
    ↔ Instance 39 (sub G p₁ p₂ ∷ sub G₁ q₁ q₂ ∷ []) (sub G c₁ c₂)
agrees = (λ h. rule_39.1 (refl, cc, cc, cc), λ i. let t = rule_39.0 i in ((cc, cc), cc))

pub extends-requires : goal.extends-requires
unfolding rule_subjects
extends-requires c =
    let rows = c.requires in
    rows_of rows (omega (arith, rows.given.within), (omega (arith, rows.given.within), tt))
    (omega (arith, rows.below), tt)

pub returns : goal.returns
unfolding FollowsIn
returns c =
    decides_via agrees (c.extends.ensures & c.is_node.ensures & c.is_node-2.ensures)
