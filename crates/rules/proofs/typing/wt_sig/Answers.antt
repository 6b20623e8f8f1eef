-- WT-SIG: the tests are joined, and together they are the law of rule 8.
-- Assumes nothing.
use mathlib.Core.Path.{◌≡◌, refl}
use mathlib.Core.Logic.{◌↔◌}
use mathlib.Core.List.{[], ◌∷◌}
use native.Mathlib.Omega.{arith}
use Rattle.terms.specs.Term.{Term, sigma}
use Rattle.terms.proofs.Tests.{decides_via, ◌&◌}
use Rattle.rules.specs.Judgment.{Context, typed}
use Rattle.rules.specs.Instance.{Instance}
use Rattle.rules.specs.RuleChecks.{rule_subjects, FollowsIn}
use Rattle.rules.specs.Conditions.{IsUniverse}
use Rattle.rules.proofs.TypingLaws.{rule_8}
use Rattle.rules.proofs.ContextTableAnswers.{rows_of}
use Rattle.rules.proofs.typing.wt_sig.Goals as goal

-- the tests together are the rule
agrees : {G G₁ : Context} {c₁ c₃ p₁ p₃ q₁ q₃ : Term}
    → (((G₁ ≡ p₁ ∷ G) × (p₃ ≡ c₃) × (q₃ ≡ c₃) × IsUniverse c₃) × (c₁ ≡ sigma p₁ q₁))
    ↔ Instance 8 (typed G p₁ p₃ ∷ typed G₁ q₁ q₃ ∷ []) (typed G c₁ c₃)
agrees = (
  λ h. rule_8.1 (refl, h.0.0, h.1, h.0.1, h.0.2, h.0.3),
  λ i. let t = rule_8.0 i in ((t.1, t.3, t.4, t.5), t.2),
)

pub types_family-requires : goal.types_family-requires
unfolding rule_subjects
types_family-requires c =
    let rows = c.requires in
    rows_of rows (omega (arith, rows.given.within), (omega (arith, rows.given.within), tt))
    (omega (arith, rows.below), (omega (arith, rows.below), (omega (arith, rows.below), (omega (arith, rows.below), tt))))

pub returns : goal.returns
unfolding FollowsIn
returns c = decides_via agrees (c.types_family.ensures & c.is_node.ensures)
