-- WT-UNIV: the one test is the law of rule 7.
-- Assumes nothing.
use mathlib.Core.Path.{refl}
use mathlib.Core.Logic.{◌↔◌}
use mathlib.Core.List.{[], ◌∷◌}
use Rattle.terms.specs.Term.{Term}
use Rattle.terms.proofs.Tests.{decides_via}
use Rattle.rules.specs.Judgment.{Context, wf, typed}
use Rattle.rules.specs.Instance.{Instance}
use Rattle.rules.specs.RuleChecks.{FollowsIn}
use Rattle.rules.specs.Conditions.{NextUniverse}
use Rattle.rules.proofs.TypingLaws.{rule_7}
use Rattle.rules.proofs.typing.wt_univ.Goals as goal

-- the tests together are the rule
agrees : {G : Context} {c₁ c₃ : Term} → NextUniverse c₁ c₃
    ↔ Instance 7 (wf G ∷ []) (typed G c₁ c₃)
agrees = (λ h. rule_7.1 (refl, h), λ i. let t = rule_7.0 i in t.1)

pub returns : goal.returns
unfolding FollowsIn
returns c =
    λ p contexts G. decides_via agrees c.is_next_universe.ensures
