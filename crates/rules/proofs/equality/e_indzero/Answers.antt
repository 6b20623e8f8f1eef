-- E-INDZERO: the tests are joined, and together they are the law of rule 33.
-- Assumes nothing.
use mathlib.Core.Path.{◌≡◌, refl}
use mathlib.Core.Logic.{◌↔◌}
use mathlib.Core.List.{[], ◌∷◌}
use Rattle.terms.specs.Term.{Term, ind, nat, zer}
use Rattle.terms.specs.Tag.{child}
use Rattle.terms.specs.Substitution.{◌⟨◌⟩, on_succ}
use Rattle.terms.proofs.Tests.{decides_via, ◌&◌, decides_then, decides_not}
use Rattle.rules.specs.Judgment.{Context, typed, equal}
use Rattle.rules.specs.Instance.{Instance}
use Rattle.rules.specs.RuleChecks.{rule_subjects, FollowsIn}
use Rattle.rules.proofs.EqualityLaws.{rule_33}
use Rattle.rules.proofs.ContextTableAnswers.{rows_of}
use native.Mathlib.Omega.{arith}
use Rattle.rules.proofs.equality.e_indzero.Goals as goal

-- the tests together are the rule
agrees : {G G₁ : Context} {c₁ c₂ c₃ p₁ p₃ q₁ q₃ m z : Term} → m ≡ child c₁ 1 → z ≡ child c₁ 2
    → ((((((G₁ ≡ m ∷ nat ∷ G) × (c₁ ≡ ind m z p₁ q₁)) × (z ≡ zer)) × (c₂ ≡ p₁)) × (c₃ ≡ p₃)) × ((p₃ ≡ m ⟨ zer ⟩)
    × (q₃ ≡ on_succ m)))
    ↔ Instance 33 (typed G p₁ p₃ ∷ typed G₁ q₁ q₃ ∷ []) (equal G c₁ c₂ c₃)
unfolding child
agrees k₁ k₂ = (
  λ h. rule_33.1 (refl, cc, cc, cc, cc, cc, cc),
  λ i. let t = rule_33.0 i in (((((cc, cc), cc), cc), cc), (cc, cc)),
)

pub extends_nat_then-requires : goal.extends_nat_then-requires
unfolding rule_subjects
extends_nat_then-requires c =
    let rows = c.requires in
    rows_of rows (omega (arith, rows.given.within), (omega (arith, rows.given.within), tt))
    (omega (arith, rows.below, c.child-m.ensures.below), tt)

pub returns-then-extends_nat_then-is_node : goal.returns-then-extends_nat_then-is_node
unfolding FollowsIn ◌⟨◌⟩ on_succ
returns-then-extends_nat_then-is_node c =
    decides_via (agrees c.child-m.ensures.value c.child-z.ensures.value)
    (decides_then
    (c.extends_nat_then.ensures & c.is_node.ensures & c.is_node-2.ensures
    & c.same_term.ensures & c.same_term-2.ensures)
    c.if-extends_nat_then-is_node.true
    c.are_cases.ensures)

pub returns-else-extends_nat_then-is_node : goal.returns-else-extends_nat_then-is_node
unfolding FollowsIn ◌⟨◌⟩ on_succ
returns-else-extends_nat_then-is_node c =
    decides_via (agrees c.child-m.ensures.value c.child-z.ensures.value)
    (decides_not
    (c.extends_nat_then.ensures & c.is_node.ensures & c.is_node-2.ensures
    & c.same_term.ensures & c.same_term-2.ensures)
    c.if-extends_nat_then-is_node.false)
