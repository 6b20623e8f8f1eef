-- E-PROJPAIR2: the pair by WT-PAIR, from the same premises, and what it projects to.
-- Assumes nothing.
use mathlib.Core.Path.{◌≡◌, refl}
use mathlib.Core.Logic.{◌↔◌}
use mathlib.Core.List.{[], ◌∷◌}
use Rattle.terms.specs.Term.{Term, second, pair}
use Rattle.terms.specs.Tag.{child}
use Rattle.terms.proofs.Tests.{decides_via, ◌&◌, decides_then, decides_not}
use Rattle.rules.specs.Judgment.{Context, typed, equal}
use Rattle.rules.specs.Instance.{Instance}
use Rattle.rules.specs.RuleChecks.{FollowsIn}
use Rattle.rules.proofs.TypingLaws.{rule_9}
use Rattle.rules.proofs.EqualityLaws.{rule_32}
use Rattle.rules.proofs.equality.e_projpair2.Goals as goal

-- the tests together are the rule
agrees : {G : Context} {c₁ c₂ c₃ p₁ p₃ q₁ q₃ r₁ r₃ d : Term} → d ≡ child c₁ 1
    → ((((c₁ ≡ second d) × (c₂ ≡ q₁)) × (c₃ ≡ q₃))
    × Instance 9 (typed G p₁ p₃ ∷ typed G q₁ q₃ ∷ typed G r₁ r₃ ∷ []) (typed G d r₁))
    ↔ Instance 32 (typed G p₁ p₃ ∷ typed G q₁ q₃ ∷ typed G r₁ r₃ ∷ []) (equal G c₁ c₂ c₃)
unfolding child
agrees {p₁ = p₁} {q₁ = q₁} {d = d} k = (
  λ h. let t = rule_9.0 h.1 in rule_32.1 (refl, refl, refl, t.4, t.7, t.5, cc (h.0.0.0, t.3), h.0.0.1, h.0.1),
  λ i.
      let t = rule_32.0 i in
      let made : d ≡ pair p₁ q₁ = cc (k, t.6) in
      (((cc (t.6, made), t.7), t.8), rule_9.1 (refl, refl, refl, made, t.3, t.5, refl, t.4)),
)

pub returns-then-is_node-same_term : goal.returns-then-is_node-same_term
unfolding FollowsIn
returns-then-is_node-same_term c =
    λ contexts G. decides_via (agrees c.child-d.ensures.value)
    (decides_then
    (c.is_node.ensures & c.same_term.ensures & c.same_term-2.ensures)
    c.if-is_node-same_term.true
    (c.wt_pair.ensures contexts G))

pub returns-else-is_node-same_term : goal.returns-else-is_node-same_term
unfolding FollowsIn
returns-else-is_node-same_term c =
    λ contexts G. decides_via (agrees c.child-d.ensures.value)
    (decides_not
    (c.is_node.ensures & c.same_term.ensures & c.same_term-2.ensures)
    c.if-is_node-same_term.false)
