-- WT-NAT: the tests are joined, and together they are the law of rule 12.
-- Assumes nothing.
use mathlib.Core.Path.{◌≡◌, refl}
use mathlib.Core.Logic.{◌↔◌}
use mathlib.Core.List.{[], ◌∷◌}
use Rattle.terms.specs.Term.{Term, nat}
use Rattle.terms.proofs.Tests.{decides_via, ◌&◌}
use Rattle.rules.specs.Judgment.{Context, wf, typed}
use Rattle.rules.specs.Instance.{Instance}
use Rattle.rules.specs.RuleChecks.{FollowsIn}
use Rattle.rules.specs.Conditions.{IsUniverse}
use Rattle.rules.proofs.TypingLaws.{rule_12}
use Rattle.rules.proofs.typing.wt_nat.Goals as goal

-- the tests together are the rule
agrees : {G : Context} {c₁ c₃ : Term}
    → ((c₁ ≡ nat) × IsUniverse c₃)
    ↔ Instance 12 (wf G ∷ []) (typed G c₁ c₃)
agrees = (λ h. rule_12.1 (refl, cc, h.1), λ i. let t = rule_12.0 i in (cc, t.2))

pub returns : goal.returns
unfolding FollowsIn
returns c =
    λ p contexts G. decides_via agrees (c.is_node.ensures & c.is_universe.ensures)
