-- L-PI: the tests are joined, and together they are the law of rule 38.
-- Assumes nothing.
use mathlib.Core.Path.{◌≡◌, refl}
use mathlib.Core.Logic.{◌↔◌, ◌⊎◌}
use mathlib.Core.List.{[], ◌∷◌}
use native.Mathlib.Omega.{arith}
use Rattle.terms.specs.Term.{Term, pi}
use Rattle.terms.proofs.Tests.{decides_via, ◌&◌, decides_either}
use Rattle.rules.specs.Judgment.{Context, sub}
use Rattle.rules.specs.Instance.{Instance}
use Rattle.rules.specs.RuleChecks.{rule_subjects, FollowsIn}
use Rattle.rules.proofs.SubtypingLaws.{rule_38}
use Rattle.rules.proofs.ContextTableAnswers.{rows_of}
use Rattle.rules.proofs.subtyping.l_pi.Goals as goal

-- the tests together are the rule
agrees : {G G₁ : Context} {c₁ c₂ p₁ p₂ q₁ q₂ : Term}
    → ((((G₁ ≡ p₂ ∷ G) ⊎ (G₁ ≡ p₁ ∷ G)) × (c₁ ≡ pi p₂ q₁)) × (c₂ ≡ pi p₁ q₂))
    ↔ Instance 38 (sub G p₁ p₂ ∷ sub G₁ q₁ q₂ ∷ []) (sub G c₁ c₂)
agrees = (λ h. rule_38.1 (refl, h.0.0, h.0.1, h.1), λ i. let t = rule_38.0 i in ((t.1, t.2), t.3))

pub extends-requires-2 : goal.extends-requires-2
unfolding rule_subjects
extends-requires-2 c =
    let rows = c.requires in rows_of rows
    (rows.given.within.1.1.0, (rows.given.within.0, tt)) (omega (arith, rows.below), tt)

pub extends-requires : goal.extends-requires
unfolding rule_subjects
extends-requires c =
    let rows = c.requires in rows_of rows
    (rows.given.within.1.1.0, (rows.given.within.0, tt)) (omega (arith, rows.below), tt)

pub returns : goal.returns
unfolding FollowsIn
returns c =
    decides_via agrees
    (decides_either c.extends.ensures c.extends-2.ensures & c.is_node.ensures
    & c.is_node-2.ensures)
