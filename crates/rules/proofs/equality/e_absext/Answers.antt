-- E-ABSEXT: the tests are joined, and together they are the law of rule 21.
-- Assumes nothing.
use mathlib.Core.Path.{◌≡◌}
use mathlib.Core.Logic.{◌↔◌}
use mathlib.Core.List.{[], ◌∷◌}
use Rattle.terms.specs.Term.{Term, app, pi, var}
use Rattle.terms.specs.Tag.{child}
use Rattle.terms.specs.Substitution.{shift}
use Rattle.terms.proofs.Tests.{decides_via, ◌&◌, decides_then, decides_not}
use Rattle.rules.specs.Judgment.{Context, equal}
use Rattle.rules.specs.Instance.{Instance}
use Rattle.rules.specs.RuleChecks.{rule_subjects, FollowsIn}
use Rattle.rules.proofs.EqualityLaws.{rule_21}
use Rattle.rules.proofs.ContextTableAnswers.{rows_of}
use native.Mathlib.Omega.{arith}
use Rattle.rules.proofs.equality.e_absext.Goals as goal

-- the tests together are the rule
agrees : {G G₀ : Context} {c₁ c₂ c₃ p₁ p₂ p₃ a f x g y : Term} → a ≡ child c₃ 1 → f ≡ child p₁ 1 → x ≡ child p₁ 2
    → g ≡ child p₂ 1 → y ≡ child p₂ 2
    → (((((((G₀ ≡ a ∷ G) × (c₃ ≡ pi a p₃)) × (p₁ ≡ app f x)) × (x ≡ var 0)) × (p₂ ≡ app g y)) × (y ≡ var 0))
    × ((f ≡ shift 0 1 c₁) × (g ≡ shift 0 1 c₂)))
    ↔ Instance 21 (equal G₀ p₁ p₂ p₃ ∷ []) (equal G c₁ c₂ c₃)
unfolding child
agrees k₁ k₂ k₃ k₄ k₅ = (
  λ h. rule_21.1 (cc, cc, cc, cc, cc, cc),
  λ i. let t = rule_21.0 i in ((((((cc, cc), cc), cc), cc), cc), (cc, cc)),
)

pub extends-requires : goal.extends-requires
unfolding rule_subjects
extends-requires c =
    let rows = c.requires in
    rows_of rows (omega (arith, rows.given.within), (omega (arith, rows.given.within), tt))
    (omega (arith, rows.below, c.child-a.ensures.below), tt)

pub returns-then-extends-is_node : goal.returns-then-extends-is_node
unfolding FollowsIn
returns-then-extends-is_node c =
    decides_via
    (agrees c.child-a.ensures.value c.child-f.ensures.value c.child-x.ensures.value
    c.child-g.ensures.value c.child-y.ensures.value)
    (decides_then
    (c.extends.ensures & c.is_node.ensures & c.is_node-2.ensures
    & c.is_node-3.ensures & c.is_node-4.ensures & c.is_node-5.ensures)
    c.if-extends-is_node.true
    (c.is_shifted.ensures & c.is_shifted-then-extends-is_node.ensures))

pub returns-else-extends-is_node : goal.returns-else-extends-is_node
unfolding FollowsIn
returns-else-extends-is_node c =
    decides_via
    (agrees c.child-a.ensures.value c.child-f.ensures.value c.child-x.ensures.value
    c.child-g.ensures.value c.child-y.ensures.value)
    (decides_not
    (c.extends.ensures & c.is_node.ensures & c.is_node-2.ensures
    & c.is_node-3.ensures & c.is_node-4.ensures & c.is_node-5.ensures)
    c.if-extends-is_node.false)
