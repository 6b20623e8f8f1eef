-- The laws of rules 17 to 34, equality: see CandidateLaws.antt.
use mathlib.Core.Path.{◌≡◌, refl}
use mathlib.Core.Logic.{◌↔◌}
use mathlib.Core.List.{[], ◌∷◌}
use Rattle.terms.specs.Term.{Term, var, pi, lam, app, sigma, pair, first, second, nat, zer, succ, ind}
use Rattle.terms.specs.Tag.{child, number_in}
use Rattle.terms.specs.Substitution.{shift, ◌⟨◌⟩, on_succ, on_both}
use Rattle.rules.specs.Judgment.{Context, typed, equal, sub}
use Rattle.rules.specs.Instance.{Instance}
use Rattle.rules.specs.Conditions.{IsUniverse}
use Rattle.rules.specs.Decision.{nearest}
use Rattle.rules.proofs.CandidateLaws.{by_candidate}

-- E-REFL
pub rule_17 : {G G₀ : Context} {c₁ c₂ c₃ p₁ p₃ : Term}
    → Instance 17 (typed G₀ p₁ p₃ ∷ []) (equal G c₁ c₂ c₃)
    ↔ ((G₀ ≡ G) × (c₁ ≡ p₁) × (c₂ ≡ p₁) × (c₃ ≡ p₃))
unfolding nearest
rule_17 = by_candidate (λ m. (cc, cc, cc, cc)) (λ t. (refl, cc, cc))

-- E-SYM
pub rule_18 : {G G₀ : Context} {c₁ c₂ c₃ p₁ p₂ p₃ : Term}
    → Instance 18 (equal G₀ p₁ p₂ p₃ ∷ []) (equal G c₁ c₂ c₃)
    ↔ ((G₀ ≡ G) × (c₁ ≡ p₂) × (c₂ ≡ p₁) × (c₃ ≡ p₃))
unfolding nearest
rule_18 = by_candidate (λ m. (cc, cc, cc, cc)) (λ t. (refl, cc, cc))

-- E-TRANS
pub rule_19 : {G G₀ G₁ : Context} {c₁ c₂ c₃ p₁ p₂ p₃ q₁ q₂ q₃ : Term}
    → Instance 19 (equal G₀ p₁ p₂ p₃ ∷ equal G₁ q₁ q₂ q₃ ∷ []) (equal G c₁ c₂ c₃)
    ↔ ((G₀ ≡ G) × (G₁ ≡ G) × (c₁ ≡ p₁) × (q₁ ≡ p₂) × (c₂ ≡ q₂) × (p₃ ≡ c₃) × (q₃ ≡ c₃))
unfolding nearest
rule_19 = by_candidate (λ m. (cc, cc, cc, cc, cc, cc, cc)) (λ t. (refl, cc, cc))

-- E-PI
pub rule_20 : {G G₀ G₁ : Context} {c₁ c₂ c₃ p₁ p₂ p₃ q₁ q₂ q₃ : Term}
    → Instance 20 (equal G₀ p₁ p₂ p₃ ∷ equal G₁ q₁ q₂ q₃ ∷ []) (equal G c₁ c₂ c₃)
    ↔ ((G₀ ≡ G) × (G₁ ≡ p₁ ∷ G) × (c₁ ≡ pi p₁ q₁) × (c₂ ≡ pi p₂ q₂) × (p₃ ≡ c₃) × (q₃ ≡ c₃) × IsUniverse c₃)
unfolding nearest
rule_20 {c₃ = c₃} = by_candidate (λ m. (cc, cc, cc, cc, cc, cc, (number_in c₃, cc))) (λ t. (refl, cc, cc))

-- E-ABSEXT
pub rule_21 : {G G₀ : Context} {c₁ c₂ c₃ p₁ p₂ p₃ : Term}
    → Instance 21 (equal G₀ p₁ p₂ p₃ ∷ []) (equal G c₁ c₂ c₃)
    ↔ ((G₀ ≡ child c₃ 1 ∷ G) × (c₃ ≡ pi (child c₃ 1) p₃) × (p₁ ≡ app (child p₁ 1) (var 0)) × (child p₁ 1 ≡ shift 0 1 c₁)
    × (p₂ ≡ app (child p₂ 1) (var 0)) × (child p₂ 1 ≡ shift 0 1 c₂))
unfolding nearest
rule_21 = by_candidate (λ m. (cc, cc, cc, cc, cc, cc)) (λ t. (refl, cc, cc))

-- E-APP
pub rule_22 : {G G₀ G₁ : Context} {c₁ c₂ c₃ p₁ p₂ p₃ q₁ q₂ q₃ : Term}
    → Instance 22 (equal G₀ p₁ p₂ p₃ ∷ equal G₁ q₁ q₂ q₃ ∷ []) (equal G c₁ c₂ c₃)
    ↔ ((G₀ ≡ G) × (G₁ ≡ G) × (p₃ ≡ pi q₃ (child p₃ 2)) × (c₁ ≡ app p₁ q₁) × (c₂ ≡ app p₂ q₂) × (c₃ ≡ child p₃ 2 ⟨ q₁ ⟩))
unfolding nearest
rule_22 = by_candidate (λ m. (cc, cc, cc, cc, cc, cc)) (λ t. (refl, cc, cc))

-- E-SIG
pub rule_23 : {G G₀ G₁ : Context} {c₁ c₂ c₃ p₁ p₂ p₃ q₁ q₂ q₃ : Term}
    → Instance 23 (equal G₀ p₁ p₂ p₃ ∷ equal G₁ q₁ q₂ q₃ ∷ []) (equal G c₁ c₂ c₃)
    ↔ ((G₀ ≡ G) × (G₁ ≡ p₁ ∷ G) × (c₁ ≡ sigma p₁ q₁) × (c₂ ≡ sigma p₂ q₂) × (p₃ ≡ c₃) × (q₃ ≡ c₃) × IsUniverse c₃)
unfolding nearest
rule_23 {c₃ = c₃} = by_candidate (λ m. (cc, cc, cc, cc, cc, cc, (number_in c₃, cc))) (λ t. (refl, cc, cc))

-- E-PAIREXT
pub rule_24 : {G G₀ G₁ : Context} {c₁ c₂ c₃ p₁ p₂ p₃ q₁ q₂ q₃ : Term}
    → Instance 24 (equal G₀ p₁ p₂ p₃ ∷ equal G₁ q₁ q₂ q₃ ∷ []) (equal G c₁ c₂ c₃)
    ↔ ((G₀ ≡ G) × (G₁ ≡ G) × (p₁ ≡ first c₁) × (p₂ ≡ first c₂) × (q₁ ≡ second c₁) × (q₂ ≡ second c₂) × (c₃ ≡ sigma p₃ (child c₃ 2))
    × (q₃ ≡ child c₃ 2 ⟨ first c₁ ⟩))
unfolding nearest
rule_24 = by_candidate (λ m. (cc, cc, cc, cc, cc, cc, cc, cc)) (λ t. (refl, cc, cc))

-- E-PROJ1
pub rule_25 : {G G₀ : Context} {c₁ c₂ c₃ p₁ p₂ p₃ : Term}
    → Instance 25 (equal G₀ p₁ p₂ p₃ ∷ []) (equal G c₁ c₂ c₃)
    ↔ ((G₀ ≡ G) × (c₁ ≡ first p₁) × (c₂ ≡ first p₂) × (p₃ ≡ sigma c₃ (child p₃ 2)))
unfolding nearest
rule_25 = by_candidate (λ m. (cc, cc, cc, cc)) (λ t. (refl, cc, cc))

-- E-PROJ2
pub rule_26 : {G G₀ : Context} {c₁ c₂ c₃ p₁ p₂ p₃ : Term}
    → Instance 26 (equal G₀ p₁ p₂ p₃ ∷ []) (equal G c₁ c₂ c₃)
    ↔ ((G₀ ≡ G) × (c₁ ≡ second p₁) × (c₂ ≡ second p₂) × (p₃ ≡ sigma (child p₃ 1) (child p₃ 2)) × (c₃ ≡ child p₃ 2 ⟨ first p₁ ⟩))
unfolding nearest
rule_26 = by_candidate (λ m. (cc, cc, cc, cc, cc)) (λ t. (refl, cc, cc))

-- E-SUC
pub rule_27 : {G G₀ : Context} {c₁ c₂ c₃ p₁ p₂ p₃ : Term}
    → Instance 27 (equal G₀ p₁ p₂ p₃ ∷ []) (equal G c₁ c₂ c₃)
    ↔ ((G₀ ≡ G) × (c₁ ≡ succ p₁) × (c₂ ≡ succ p₂) × (p₃ ≡ nat) × (c₃ ≡ nat))
unfolding nearest
rule_27 = by_candidate (λ m. (cc, cc, cc, cc, cc)) (λ t. (refl, cc, cc))

-- E-IND
pub rule_28 : {G G₀ G₁ G₂ G₃ : Context} {c₁ c₂ c₃ p₁ p₂ p₃ q₁ q₂ q₃ r₁ r₂ r₃ s₁ s₂ s₃ : Term}
    → Instance 28 (equal G₀ p₁ p₂ p₃ ∷ equal G₁ q₁ q₂ q₃ ∷ equal G₂ r₁ r₂ r₃ ∷ equal G₃ s₁ s₂ s₃ ∷ []) (equal G c₁ c₂ c₃)
    ↔ ((G₀ ≡ nat ∷ G) × (G₁ ≡ G) × (G₂ ≡ G) × (G₃ ≡ p₁ ∷ nat ∷ G) × IsUniverse p₃ × (q₃ ≡ nat) × (r₃ ≡ p₁ ⟨ zer ⟩) × (s₃ ≡ on_succ p₁)
    × (c₁ ≡ ind p₁ q₁ r₁ s₁) × (c₂ ≡ ind p₂ q₂ r₂ s₂) × (c₃ ≡ p₁ ⟨ q₁ ⟩))
unfolding nearest
rule_28 {p₃ = p₃} = by_candidate (λ m. (cc, cc, cc, cc, (number_in p₃, cc), cc, cc, cc, cc, cc, cc)) (λ t. (refl, cc, cc))

-- E-CONV
pub rule_29 : {G G₀ G₁ : Context} {c₁ c₂ c₃ p₁ p₂ p₃ q₁ q₂ : Term}
    → Instance 29 (equal G₀ p₁ p₂ p₃ ∷ sub G₁ q₁ q₂ ∷ []) (equal G c₁ c₂ c₃)
    ↔ ((G₀ ≡ G) × (G₁ ≡ G) × (c₁ ≡ p₁) × (c₂ ≡ p₂) × (q₁ ≡ p₃) × (c₃ ≡ q₂))
unfolding nearest
rule_29 = by_candidate (λ m. (cc, cc, cc, cc, cc, cc)) (λ t. (refl, cc, cc))

-- E-APPABS
pub rule_30 : {G G₀ G₁ : Context} {c₁ c₂ c₃ p₁ p₃ q₁ q₃ : Term}
    → Instance 30 (typed G₀ p₁ p₃ ∷ typed G₁ q₁ q₃ ∷ []) (equal G c₁ c₂ c₃)
    ↔ ((G₀ ≡ G) × (G₁ ≡ p₃ ∷ G) × (c₁ ≡ app (lam q₁) p₁) × (c₂ ≡ q₁ ⟨ p₁ ⟩) × (c₃ ≡ q₃ ⟨ p₁ ⟩))
unfolding nearest
rule_30 = by_candidate (λ m. (cc, cc, cc, cc, cc)) (λ t. (refl, cc, cc))

-- E-PROJPAIR1
pub rule_31 : {G G₀ G₁ G₂ : Context} {c₁ c₂ c₃ p₁ p₃ q₁ q₃ r₁ r₃ : Term}
    → Instance 31 (typed G₀ p₁ p₃ ∷ typed G₁ q₁ q₃ ∷ typed G₂ r₁ r₃ ∷ []) (equal G c₁ c₂ c₃)
    ↔ ((G₀ ≡ G) × (G₁ ≡ G) × (G₂ ≡ G) × (r₁ ≡ sigma p₃ (child r₁ 2)) × IsUniverse r₃ × (q₃ ≡ child r₁ 2 ⟨ p₁ ⟩)
    × (c₁ ≡ first (pair p₁ q₁)) × (c₂ ≡ p₁) × (c₃ ≡ p₃))
unfolding nearest
rule_31 {r₃ = r₃} = by_candidate (λ m. (cc, cc, cc, cc, (number_in r₃, cc), cc, cc, cc, cc)) (λ t. (refl, cc, cc))

-- E-PROJPAIR2
pub rule_32 : {G G₀ G₁ G₂ : Context} {c₁ c₂ c₃ p₁ p₃ q₁ q₃ r₁ r₃ : Term}
    → Instance 32 (typed G₀ p₁ p₃ ∷ typed G₁ q₁ q₃ ∷ typed G₂ r₁ r₃ ∷ []) (equal G c₁ c₂ c₃)
    ↔ ((G₀ ≡ G) × (G₁ ≡ G) × (G₂ ≡ G) × (r₁ ≡ sigma p₃ (child r₁ 2)) × IsUniverse r₃ × (q₃ ≡ child r₁ 2 ⟨ p₁ ⟩)
    × (c₁ ≡ second (pair p₁ q₁)) × (c₂ ≡ q₁) × (c₃ ≡ q₃))
unfolding nearest
rule_32 {r₃ = r₃} = by_candidate (λ m. (cc, cc, cc, cc, (number_in r₃, cc), cc, cc, cc, cc)) (λ t. (refl, cc, cc))

-- E-INDZERO
pub rule_33 : {G G₀ G₁ : Context} {c₁ c₂ c₃ p₁ p₃ q₁ q₃ : Term}
    → Instance 33 (typed G₀ p₁ p₃ ∷ typed G₁ q₁ q₃ ∷ []) (equal G c₁ c₂ c₃)
    ↔ ((G₀ ≡ G) × (G₁ ≡ child c₁ 1 ∷ nat ∷ G) × (c₁ ≡ ind (child c₁ 1) zer p₁ q₁) × (p₃ ≡ child c₁ 1 ⟨ zer ⟩) × (q₃ ≡ on_succ (child c₁ 1))
    × (c₂ ≡ p₁) × (c₃ ≡ p₃))
unfolding nearest
rule_33 = by_candidate (λ m. (cc, cc, cc, cc, cc, cc, cc)) (λ t. (refl, cc, cc))

-- E-INDSUC
pub rule_34 : {G G₀ G₁ G₂ : Context} {c₁ c₂ c₃ p₁ p₃ q₁ q₃ r₁ r₃ : Term}
    → Instance 34 (typed G₀ p₁ p₃ ∷ typed G₁ q₁ q₃ ∷ typed G₂ r₁ r₃ ∷ []) (equal G c₁ c₂ c₃)
    ↔ ((G₀ ≡ G) × (G₁ ≡ G) × (G₂ ≡ child c₁ 1 ∷ nat ∷ G) × (c₁ ≡ ind (child c₁ 1) (succ p₁) q₁ r₁) × (p₃ ≡ nat)
    × (q₃ ≡ child c₁ 1 ⟨ zer ⟩) × (r₃ ≡ on_succ (child c₁ 1)) × (c₂ ≡ on_both r₁ p₁ (ind (child c₁ 1) p₁ q₁ r₁))
    × (c₃ ≡ child c₁ 1 ⟨ succ p₁ ⟩))
unfolding nearest
rule_34 = by_candidate (λ m. (cc, cc, cc, cc, cc, cc, cc, cc, cc)) (λ t. (refl, cc, cc))
