-- A congruence is the typing rule of the left sides, and on the right side the same node of the right ones. Where the
-- typing rule walks through terms, as the code asks it last, it stands last.
-- Assumes nothing.
use mathlib.Core.Path.{◌≡◌}
use mathlib.Core.Logic.{◌↔◌}
use mathlib.Core.List.{[], ◌∷◌}
use Rattle.terms.specs.Term.{Term, pi, app, sigma, first, second, succ, ind}
use Rattle.rules.specs.Judgment.{Context, typed, equal, sub}
use Rattle.rules.specs.Instance.{Instance}
use Rattle.rules.proofs.TypingLaws.{rule_4, rule_6, rule_8, rule_10, rule_11, rule_14, rule_15, rule_16}
use Rattle.rules.proofs.EqualityLaws.{rule_20, rule_22, rule_23, rule_25, rule_26, rule_27, rule_28, rule_29}

-- E-PI
pub congruence_20 : {G G₀ G₁ : Context} {c₁ c₂ c₃ p₁ p₂ p₃ q₁ q₂ q₃ : Term}
    → (Instance 4 (typed G₀ p₁ p₃ ∷ typed G₁ q₁ q₃ ∷ []) (typed G c₁ c₃) × (c₂ ≡ pi p₂ q₂))
    ↔ Instance 20 (equal G₀ p₁ p₂ p₃ ∷ equal G₁ q₁ q₂ q₃ ∷ []) (equal G c₁ c₂ c₃)
congruence_20 = (λ h. let t = rule_4.0 h.0 in rule_20.1 (t.0, t.1, t.2, h.1, t.3, t.4, t.5), λ i. let t = rule_20.0 i in (rule_4.1 (t.0, t.1, t.2, t.4, t.5, t.6), t.3))

-- E-APP
pub congruence_22 : {G G₀ G₁ : Context} {c₁ c₂ c₃ p₁ p₂ p₃ q₁ q₂ q₃ : Term}
    → ((c₂ ≡ app p₂ q₂) × Instance 6 (typed G₀ p₁ p₃ ∷ typed G₁ q₁ q₃ ∷ []) (typed G c₁ c₃))
    ↔ Instance 22 (equal G₀ p₁ p₂ p₃ ∷ equal G₁ q₁ q₂ q₃ ∷ []) (equal G c₁ c₂ c₃)
congruence_22 = (λ h. let t = rule_6.0 h.1 in rule_22.1 (t.0, t.1, t.2, t.3, h.0, t.4), λ i. let t = rule_22.0 i in (t.4, rule_6.1 (t.0, t.1, t.2, t.3, t.5)))

-- E-SIG
pub congruence_23 : {G G₀ G₁ : Context} {c₁ c₂ c₃ p₁ p₂ p₃ q₁ q₂ q₃ : Term}
    → (Instance 8 (typed G₀ p₁ p₃ ∷ typed G₁ q₁ q₃ ∷ []) (typed G c₁ c₃) × (c₂ ≡ sigma p₂ q₂))
    ↔ Instance 23 (equal G₀ p₁ p₂ p₃ ∷ equal G₁ q₁ q₂ q₃ ∷ []) (equal G c₁ c₂ c₃)
congruence_23 = (λ h. let t = rule_8.0 h.0 in rule_23.1 (t.0, t.1, t.2, h.1, t.3, t.4, t.5), λ i. let t = rule_23.0 i in (rule_8.1 (t.0, t.1, t.2, t.4, t.5, t.6), t.3))

-- E-PROJ1
pub congruence_25 : {G G₀ : Context} {c₁ c₂ c₃ p₁ p₂ p₃ : Term}
    → (Instance 10 (typed G₀ p₁ p₃ ∷ []) (typed G c₁ c₃) × (c₂ ≡ first p₂))
    ↔ Instance 25 (equal G₀ p₁ p₂ p₃ ∷ []) (equal G c₁ c₂ c₃)
congruence_25 = (λ h. let t = rule_10.0 h.0 in rule_25.1 (t.0, t.1, h.1, t.2), λ i. let t = rule_25.0 i in (rule_10.1 (t.0, t.1, t.3), t.2))

-- E-PROJ2
pub congruence_26 : {G G₀ : Context} {c₁ c₂ c₃ p₁ p₂ p₃ : Term}
    → ((c₂ ≡ second p₂) × Instance 11 (typed G₀ p₁ p₃ ∷ []) (typed G c₁ c₃))
    ↔ Instance 26 (equal G₀ p₁ p₂ p₃ ∷ []) (equal G c₁ c₂ c₃)
congruence_26 = (λ h. let t = rule_11.0 h.1 in rule_26.1 (t.0, t.1, h.0, t.2, t.3), λ i. let t = rule_26.0 i in (t.2, rule_11.1 (t.0, t.1, t.3, t.4)))

-- E-SUC
pub congruence_27 : {G G₀ : Context} {c₁ c₂ c₃ p₁ p₂ p₃ : Term}
    → (Instance 14 (typed G₀ p₁ p₃ ∷ []) (typed G c₁ c₃) × (c₂ ≡ succ p₂))
    ↔ Instance 27 (equal G₀ p₁ p₂ p₃ ∷ []) (equal G c₁ c₂ c₃)
congruence_27 = (λ h. let t = rule_14.0 h.0 in rule_27.1 (t.0, t.1, h.1, t.2, t.3), λ i. let t = rule_27.0 i in (rule_14.1 (t.0, t.1, t.3, t.4), t.2))

-- E-IND
pub congruence_28 : {G G₀ G₁ G₂ G₃ : Context} {c₁ c₂ c₃ p₁ p₂ p₃ q₁ q₂ q₃ r₁ r₂ r₃ s₁ s₂ s₃ : Term}
    → ((c₂ ≡ ind p₂ q₂ r₂ s₂) × Instance 15 (typed G₀ p₁ p₃ ∷ typed G₁ q₁ q₃ ∷ typed G₂ r₁ r₃ ∷ typed G₃ s₁ s₃ ∷ []) (typed G c₁ c₃))
    ↔ Instance 28 (equal G₀ p₁ p₂ p₃ ∷ equal G₁ q₁ q₂ q₃ ∷ equal G₂ r₁ r₂ r₃ ∷ equal G₃ s₁ s₂ s₃ ∷ []) (equal G c₁ c₂ c₃)
congruence_28 = (λ h. let t = rule_15.0 h.1 in rule_28.1 (t.0, t.1, t.2, t.3, t.4, t.5, t.6, t.7, t.8, h.0, t.9), λ i. let t = rule_28.0 i in (t.9, rule_15.1 (t.0, t.1, t.2, t.3, t.4, t.5, t.6, t.7, t.8, t.10)))

-- E-CONV, where the type alone changes
pub congruence_29 : {G G₀ G₁ : Context} {c₁ c₂ c₃ p₁ p₂ p₃ q₁ q₂ : Term}
    → (Instance 16 (typed G₀ p₁ p₃ ∷ sub G₁ q₁ q₂ ∷ []) (typed G c₁ c₃) × (c₂ ≡ p₂))
    ↔ Instance 29 (equal G₀ p₁ p₂ p₃ ∷ sub G₁ q₁ q₂ ∷ []) (equal G c₁ c₂ c₃)
congruence_29 = (λ h. let t = rule_16.0 h.0 in rule_29.1 (t.0, t.1, t.2, h.1, t.3, t.4), λ i. let t = rule_29.0 i in (rule_16.1 (t.0, t.1, t.2, t.4, t.5), t.3))
