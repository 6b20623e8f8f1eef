-- The laws of rules 1 and 2, contexts: see CandidateLaws.antt.
use mathlib.Core.Path.{◌≡◌, refl}
use mathlib.Core.Logic.{◌↔◌}
use mathlib.Core.List.{[], ◌∷◌}
use Rattle.terms.specs.Term.{Term}
use Rattle.terms.specs.Tag.{number_in}
use Rattle.rules.specs.Judgment.{Context, wf, typed}
use Rattle.rules.specs.Instance.{Instance}
use Rattle.rules.specs.Conditions.{IsUniverse}
use Rattle.rules.specs.Decision.{nearest}
use Rattle.rules.proofs.CandidateLaws.{by_candidate}

-- WF-NIL
pub rule_1 : {G : Context}
    → Instance 1 [] (wf G) ↔ (G ≡ [])
unfolding nearest
rule_1 = by_candidate (λ m. cc) (λ t. (refl, cc, cc))

-- WF-CONS
pub rule_2 : {G G₀ G₁ : Context} {q₁ q₃ : Term}
    → Instance 2 (wf G₀ ∷ typed G₁ q₁ q₃ ∷ []) (wf G)
    ↔ ((G ≡ q₁ ∷ G₀) × (G₁ ≡ G₀) × IsUniverse q₃)
unfolding nearest
rule_2 {q₃ = q₃} = by_candidate (λ m. (cc, cc, (number_in q₃, cc))) (λ t. (refl, cc, cc))
