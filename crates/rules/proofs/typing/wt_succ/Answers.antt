-- WT-SUCC: the tests are joined, and together they are the law of rule 14.
-- Assumes nothing.
use mathlib.Core.Path.{◌≡◌, refl}
use mathlib.Core.Logic.{◌↔◌}
use mathlib.Core.List.{[], ◌∷◌}
use Rattle.terms.specs.Term.{Term, nat, succ}
use Rattle.terms.proofs.Tests.{decides_via, ◌&◌}
use Rattle.rules.specs.Judgment.{Context, typed}
use Rattle.rules.specs.Instance.{Instance}
use Rattle.rules.specs.RuleChecks.{FollowsIn}
use Rattle.rules.proofs.TypingLaws.{rule_14}
use Rattle.rules.proofs.typing.wt_succ.Goals as goal

-- the tests together are the rule
agrees : {G : Context} {c₁ c₃ p₁ p₃ : Term}
    → (((c₁ ≡ succ p₁) × (p₃ ≡ nat)) × (c₃ ≡ nat))
    ↔ Instance 14 (typed G p₁ p₃ ∷ []) (typed G c₁ c₃)
agrees = (λ h. rule_14.1 (refl, cc, cc, cc), λ i. let t = rule_14.0 i in ((cc, cc), cc))

pub returns : goal.returns
unfolding FollowsIn
returns c =
    λ contexts G. decides_via agrees (c.is_node.ensures & c.is_node-2.ensures & c.is_node-3.ensures)
