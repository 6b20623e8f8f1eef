-- WT-ZERO: the tests are joined, and together they are the law of rule 13.
-- Assumes nothing.
use mathlib.Core.Path.{◌≡◌, refl}
use mathlib.Core.Logic.{◌↔◌}
use mathlib.Core.List.{[], ◌∷◌}
use Rattle.terms.specs.Term.{Term, nat, zer}
use Rattle.terms.proofs.Tests.{decides_via, ◌&◌}
use Rattle.rules.specs.Judgment.{Context, wf, typed}
use Rattle.rules.specs.Instance.{Instance}
use Rattle.rules.specs.RuleChecks.{FollowsIn}
use Rattle.rules.proofs.TypingLaws.{rule_13}
use Rattle.rules.proofs.typing.wt_zero.Goals as goal

-- the tests together are the rule
agrees : {G : Context} {c₁ c₃ : Term}
    → ((c₁ ≡ zer) × (c₃ ≡ nat))
    ↔ Instance 13 (wf G ∷ []) (typed G c₁ c₃)
agrees = (λ h. rule_13.1 (refl, cc, cc), λ i. let t = rule_13.0 i in (cc, cc))

pub returns : goal.returns
unfolding FollowsIn
returns c =
    λ p contexts G. decides_via agrees (c.is_node.ensures & c.is_node-2.ensures)
