-- WT-IND: the tests are joined, and together they are the law of rule 15.
-- Assumes nothing.
use mathlib.Core.Path.{◌≡◌, refl}
use mathlib.Core.Logic.{◌↔◌}
use mathlib.Core.List.{[], ◌∷◌}
use Rattle.terms.specs.Term.{Term, ind, nat, zer}
use Rattle.terms.specs.Substitution.{◌⟨◌⟩, on_succ}
use Rattle.terms.proofs.Tests.{decides_via, ◌&◌, decides_then, decides_not}
use Rattle.rules.specs.Judgment.{Context, typed}
use Rattle.rules.specs.Instance.{Instance}
use Rattle.rules.specs.RuleChecks.{rule_subjects, FollowsIn}
use Rattle.rules.specs.Conditions.{IsUniverse}
use Rattle.rules.proofs.TypingLaws.{rule_15}
use Rattle.rules.proofs.ContextTableAnswers.{rows_of}
use native.Mathlib.Omega.{arith}
use Rattle.rules.proofs.typing.wt_ind.Goals as goal

-- the tests together are the rule
agrees : {G G₀ G₃ : Context} {c₁ c₃ p₁ p₃ q₁ q₃ r₁ r₃ s₁ s₃ : Term}
    → ((((((G₀ ≡ nat ∷ G) × (G₃ ≡ p₁ ∷ nat ∷ G)) × IsUniverse p₃) × (q₃ ≡ nat)) × (c₁ ≡ ind p₁ q₁ r₁ s₁))
    × (((r₃ ≡ p₁ ⟨ zer ⟩) × (s₃ ≡ on_succ p₁)) × (c₃ ≡ p₁ ⟨ q₁ ⟩)))
    ↔ Instance 15 (typed G₀ p₁ p₃ ∷ typed G q₁ q₃ ∷ typed G r₁ r₃ ∷ typed G₃ s₁ s₃ ∷ []) (typed G c₁ c₃)
agrees = (
  λ h. rule_15.1 (cc, refl, refl, cc, h.0.0.0.1, cc, cc, cc, cc, cc),
  λ i. let t = rule_15.0 i in (((((cc, cc), t.4), cc), cc), ((cc, cc), cc)),
)

pub extends_nat_then-requires : goal.extends_nat_then-requires
unfolding rule_subjects
extends_nat_then-requires c =
    let rows = c.requires in
    rows_of rows (omega (arith, rows.given.within), (omega (arith, rows.given.within), tt))
    (omega (arith, rows.below), tt)

pub returns-then-extends_nat-extends_nat_then : goal.returns-then-extends_nat-extends_nat_then
unfolding FollowsIn ◌⟨◌⟩ on_succ
returns-then-extends_nat-extends_nat_then c =
    decides_via agrees
    (decides_then
    (c.extends_nat.ensures & c.extends_nat_then.ensures & c.is_universe.ensures
    & c.is_node.ensures & c.is_node-2.ensures)
    c.if-extends_nat-extends_nat_then.true
    (c.are_cases.ensures & c.is_substituted.ensures))

pub returns-else-extends_nat-extends_nat_then : goal.returns-else-extends_nat-extends_nat_then
unfolding FollowsIn ◌⟨◌⟩ on_succ
returns-else-extends_nat-extends_nat_then c =
    decides_via agrees
    (decides_not
    (c.extends_nat.ensures & c.extends_nat_then.ensures & c.is_universe.ensures
    & c.is_node.ensures & c.is_node-2.ensures)
    c.if-extends_nat-extends_nat_then.false)
