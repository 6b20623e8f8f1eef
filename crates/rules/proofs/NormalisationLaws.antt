-- The laws of rules 44 to 67, normalisation, in the empty context, where alone they hold (EmptyContextLaws): see
-- CandidateLaws.antt.
use mathlib.Core.Path.{◌≡◌, refl}
use mathlib.Core.Logic.{◌↔◌}
use mathlib.Core.List.{[], ◌∷◌}
use Rattle.terms.specs.Term.{Term, var, pi, lam, app, sigma, pair, first, second, nat, zer, succ, ind}
use Rattle.terms.specs.Tag.{child, number_in}
use Rattle.terms.specs.Substitution.{◌⟨◌⟩, on_both}
use Rattle.rules.specs.Judgment.{normal, neutral, steps}
use Rattle.rules.specs.Instance.{Instance}
use Rattle.rules.specs.Conditions.{IsUniverse}
use Rattle.rules.specs.Decision.{nearest}
use Rattle.rules.proofs.CandidateLaws.{by_candidate}

-- N-ABS
pub rule_44 : {c₁ p₁ : Term}
    → Instance 44 (normal [] p₁ ∷ []) (normal [] c₁) ↔ (c₁ ≡ lam p₁)
unfolding nearest
rule_44 = by_candidate (λ m. cc) (λ t. (refl, cc, cc))

-- N-PAIR
pub rule_45 : {c₁ p₁ q₁ : Term}
    → Instance 45 (normal [] p₁ ∷ normal [] q₁ ∷ []) (normal [] c₁) ↔ (c₁ ≡ pair p₁ q₁)
unfolding nearest
rule_45 = by_candidate (λ m. cc) (λ t. (refl, cc, cc))

-- N-PI
pub rule_46 : {c₁ p₁ q₁ : Term}
    → Instance 46 (normal [] p₁ ∷ normal [] q₁ ∷ []) (normal [] c₁) ↔ (c₁ ≡ pi p₁ q₁)
unfolding nearest
rule_46 = by_candidate (λ m. cc) (λ t. (refl, cc, cc))

-- N-SIG
pub rule_47 : {c₁ p₁ q₁ : Term}
    → Instance 47 (normal [] p₁ ∷ normal [] q₁ ∷ []) (normal [] c₁) ↔ (c₁ ≡ sigma p₁ q₁)
unfolding nearest
rule_47 = by_candidate (λ m. cc) (λ t. (refl, cc, cc))

-- N-SUCC
pub rule_48 : {c₁ p₁ : Term}
    → Instance 48 (normal [] p₁ ∷ []) (normal [] c₁) ↔ (c₁ ≡ succ p₁)
unfolding nearest
rule_48 = by_candidate (λ m. cc) (λ t. (refl, cc, cc))

-- N-UNIV
pub rule_49 : {c₁ : Term}
    → Instance 49 [] (normal [] c₁) ↔ (IsUniverse c₁)
unfolding nearest
rule_49 {c₁} = by_candidate (λ m. (number_in c₁, cc)) (λ t. (refl, refl, cc))

-- N-SNE
pub rule_50 : {c₁ p₁ : Term}
    → Instance 50 (neutral [] p₁ ∷ []) (normal [] c₁) ↔ (c₁ ≡ p₁)
unfolding nearest
rule_50 = by_candidate (λ m. cc) (λ t. (refl, cc, cc))

-- N-ZERO
pub rule_51 : {c₁ : Term}
    → Instance 51 [] (normal [] c₁) ↔ (c₁ ≡ zer)
unfolding nearest
rule_51 = by_candidate (λ m. cc) (λ t. (refl, cc, cc))

-- N-NAT
pub rule_52 : {c₁ : Term}
    → Instance 52 [] (normal [] c₁) ↔ (c₁ ≡ nat)
unfolding nearest
rule_52 = by_candidate (λ m. cc) (λ t. (refl, cc, cc))

-- N-EXP
pub rule_53 : {c₁ p₁ p₂ q₁ : Term}
    → Instance 53 (steps [] p₁ p₂ ∷ normal [] q₁ ∷ []) (normal [] c₁) ↔ ((c₁ ≡ p₁) × (q₁ ≡ p₂))
unfolding nearest
rule_53 = by_candidate (λ m. (cc, cc)) (λ t. (refl, cc, cc))

-- N-VAR
pub rule_54 : {c₁ : Term}
    → Instance 54 [] (neutral [] c₁) ↔ (c₁ ≡ var (number_in c₁))
unfolding nearest
rule_54 = by_candidate (λ m. cc) (λ t. (refl, cc, cc))

-- N-APP
pub rule_55 : {c₁ p₁ q₁ : Term}
    → Instance 55 (neutral [] p₁ ∷ normal [] q₁ ∷ []) (neutral [] c₁) ↔ (c₁ ≡ app p₁ q₁)
unfolding nearest
rule_55 = by_candidate (λ m. cc) (λ t. (refl, cc, cc))

-- N-PROJ1
pub rule_56 : {c₁ p₁ : Term}
    → Instance 56 (neutral [] p₁ ∷ []) (neutral [] c₁) ↔ (c₁ ≡ first p₁)
unfolding nearest
rule_56 = by_candidate (λ m. cc) (λ t. (refl, cc, cc))

-- N-PROJ2
pub rule_57 : {c₁ p₁ : Term}
    → Instance 57 (neutral [] p₁ ∷ []) (neutral [] c₁) ↔ (c₁ ≡ second p₁)
unfolding nearest
rule_57 = by_candidate (λ m. cc) (λ t. (refl, cc, cc))

-- N-IND
pub rule_58 : {c₁ p₁ q₁ r₁ s₁ : Term}
    → Instance 58 (normal [] p₁ ∷ neutral [] q₁ ∷ normal [] r₁ ∷ normal [] s₁ ∷ []) (neutral [] c₁)
    ↔ (c₁ ≡ ind p₁ q₁ r₁ s₁)
unfolding nearest
rule_58 = by_candidate (λ m. cc) (λ t. (refl, cc, cc))

-- N-APPABS
pub rule_59 : {c₁ c₂ p₁ : Term}
    → Instance 59 (normal [] p₁ ∷ []) (steps [] c₁ c₂)
    ↔ ((c₁ ≡ app (lam (child (child c₁ 1) 1)) p₁) × (c₂ ≡ child (child c₁ 1) 1 ⟨ p₁ ⟩))
unfolding nearest
rule_59 = by_candidate (λ m. (cc, cc)) (λ t. (refl, cc, cc))

-- N-APPCONG
pub rule_60 : {c₁ c₂ p₁ q₁ q₂ : Term}
    → Instance 60 (normal [] p₁ ∷ steps [] q₁ q₂ ∷ []) (steps [] c₁ c₂) ↔ ((c₁ ≡ app q₁ p₁) × (c₂ ≡ app q₂ p₁))
unfolding nearest
rule_60 = by_candidate (λ m. (cc, cc)) (λ t. (refl, cc, cc))

-- N-PROJPAIR1
pub rule_61 : {c₁ c₂ p₁ : Term}
    → Instance 61 (normal [] p₁ ∷ []) (steps [] c₁ c₂) ↔ (c₁ ≡ first (pair c₂ p₁))
unfolding nearest
rule_61 = by_candidate (λ m. cc) (λ t. (refl, cc, cc))

-- N-PROJPAIR2
pub rule_62 : {c₁ c₂ p₁ : Term}
    → Instance 62 (normal [] p₁ ∷ []) (steps [] c₁ c₂) ↔ (c₁ ≡ second (pair p₁ c₂))
unfolding nearest
rule_62 = by_candidate (λ m. cc) (λ t. (refl, cc, cc))

-- N-PROJCONG1
pub rule_63 : {c₁ c₂ p₁ p₂ : Term}
    → Instance 63 (steps [] p₁ p₂ ∷ []) (steps [] c₁ c₂) ↔ ((c₁ ≡ first p₁) × (c₂ ≡ first p₂))
unfolding nearest
rule_63 = by_candidate (λ m. (cc, cc)) (λ t. (refl, cc, cc))

-- N-PROJCONG2
pub rule_64 : {c₁ c₂ p₁ p₂ : Term}
    → Instance 64 (steps [] p₁ p₂ ∷ []) (steps [] c₁ c₂) ↔ ((c₁ ≡ second p₁) × (c₂ ≡ second p₂))
unfolding nearest
rule_64 = by_candidate (λ m. (cc, cc)) (λ t. (refl, cc, cc))

-- N-INDZERO
pub rule_65 : {c₁ c₂ p₁ q₁ r₁ : Term}
    → Instance 65 (normal [] p₁ ∷ normal [] q₁ ∷ normal [] r₁ ∷ []) (steps [] c₁ c₂)
    ↔ ((c₁ ≡ ind p₁ zer q₁ r₁) × (c₂ ≡ q₁))
unfolding nearest
rule_65 = by_candidate (λ m. (cc, cc)) (λ t. (refl, cc, cc))

-- N-INDSUC
pub rule_66 : {c₁ c₂ p₁ q₁ r₁ s₁ : Term}
    → Instance 66 (normal [] p₁ ∷ normal [] q₁ ∷ normal [] r₁ ∷ normal [] s₁ ∷ []) (steps [] c₁ c₂)
    ↔ ((c₁ ≡ ind p₁ (succ q₁) r₁ s₁) × (c₂ ≡ on_both s₁ q₁ (ind p₁ q₁ r₁ s₁)))
unfolding nearest
rule_66 = by_candidate (λ m. (cc, cc)) (λ t. (refl, cc, cc))

-- N-INDCONG
pub rule_67 : {c₁ c₂ p₁ q₁ r₁ s₁ s₂ : Term}
    → Instance 67 (normal [] p₁ ∷ normal [] q₁ ∷ normal [] r₁ ∷ steps [] s₁ s₂ ∷ []) (steps [] c₁ c₂)
    ↔ ((c₁ ≡ ind p₁ s₁ q₁ r₁) × (c₂ ≡ ind p₁ s₂ q₁ r₁))
unfolding nearest
rule_67 = by_candidate (λ m. (cc, cc)) (λ t. (refl, cc, cc))
