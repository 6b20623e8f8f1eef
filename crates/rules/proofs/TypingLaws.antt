-- The laws of rules 3 to 16, typing: see CandidateLaws.antt.
use mathlib.Core.Path.{◌≡◌, refl, subst, subst₂}
use mathlib.Core.Logic.{◌↔◌}
use mathlib.Core.List.{List, [], ◌∷◌}
use Rattle.terms.specs.Term.{Term, pi, lam, app, sigma, pair, first, second, nat, zer, succ, ind}
use Rattle.terms.specs.Tag.{child, number_in}
use Rattle.terms.specs.Substitution.{◌⟨◌⟩, on_succ}
use Rattle.rules.specs.Judgment.{Context, Judgment, wf, typed, sub}
use Rattle.rules.specs.Instance.{Entry, Instance, wt_var}
use Rattle.rules.specs.Conditions.{IsUniverse, NextUniverse, Declares}
use Rattle.rules.specs.Decision.{nearest}
use Rattle.rules.proofs.CandidateLaws.{by_candidate}

-- WT-VAR. Its condition is no part of the judgments, so the instance itself is taken apart.
declared : {ps : List Judgment} {c : Judgment} {G G₀ : Context} {c₁ c₃ : Term}
    → Instance 3 ps c → ps ≡ wf G₀ ∷ [] → c ≡ typed G c₁ c₃ → (G₀ ≡ G) × Declares G c₁ c₃
declared (wt_var H A x e) f g = (cc, (x, A, subst (λ K. Entry K x A) (cc) e, cc, cc))

pub rule_3 : {G G₀ : Context} {c₁ c₃ : Term}
    → Instance 3 (wf G₀ ∷ []) (typed G c₁ c₃)
    ↔ ((G₀ ≡ G) × Declares G c₁ c₃)
rule_3 {G} = (λ i. declared i refl refl, λ t. subst₂ (Instance 3) (cc) (cc) (wt_var G t.1.1 t.1.0 t.1.2))

-- WT-PI
pub rule_4 : {G G₀ G₁ : Context} {c₁ c₃ p₁ p₃ q₁ q₃ : Term}
    → Instance 4 (typed G₀ p₁ p₃ ∷ typed G₁ q₁ q₃ ∷ []) (typed G c₁ c₃)
    ↔ ((G₀ ≡ G) × (G₁ ≡ p₁ ∷ G) × (c₁ ≡ pi p₁ q₁) × (p₃ ≡ c₃) × (q₃ ≡ c₃) × IsUniverse c₃)
unfolding nearest
rule_4 {c₃ = c₃} = by_candidate (λ m. (cc, cc, cc, cc, cc, (number_in c₃, cc))) (λ t. (refl, cc, cc))

-- WT-ABS
pub rule_5 : {G G₀ : Context} {c₁ c₃ p₁ p₃ : Term}
    → Instance 5 (typed G₀ p₁ p₃ ∷ []) (typed G c₁ c₃)
    ↔ ((G₀ ≡ child c₃ 1 ∷ G) × (c₁ ≡ lam p₁) × (c₃ ≡ pi (child c₃ 1) p₃))
unfolding nearest
rule_5 = by_candidate (λ m. (cc, cc, cc)) (λ t. (refl, cc, cc))

-- WT-APP
pub rule_6 : {G G₀ G₁ : Context} {c₁ c₃ p₁ p₃ q₁ q₃ : Term}
    → Instance 6 (typed G₀ p₁ p₃ ∷ typed G₁ q₁ q₃ ∷ []) (typed G c₁ c₃)
    ↔ ((G₀ ≡ G) × (G₁ ≡ G) × (p₃ ≡ pi q₃ (child p₃ 2)) × (c₁ ≡ app p₁ q₁) × (c₃ ≡ child p₃ 2 ⟨ q₁ ⟩))
unfolding nearest
rule_6 = by_candidate (λ m. (cc, cc, cc, cc, cc)) (λ t. (refl, cc, cc))

-- WT-UNIV
pub rule_7 : {G G₀ : Context} {c₁ c₃ : Term}
    → Instance 7 (wf G₀ ∷ []) (typed G c₁ c₃)
    ↔ ((G₀ ≡ G) × NextUniverse c₁ c₃)
unfolding nearest
rule_7 {c₁ = c₁} = by_candidate (λ m. (cc, (number_in c₁, cc, cc))) (λ t. (refl, cc, cc))

-- WT-SIG
pub rule_8 : {G G₀ G₁ : Context} {c₁ c₃ p₁ p₃ q₁ q₃ : Term}
    → Instance 8 (typed G₀ p₁ p₃ ∷ typed G₁ q₁ q₃ ∷ []) (typed G c₁ c₃)
    ↔ ((G₀ ≡ G) × (G₁ ≡ p₁ ∷ G) × (c₁ ≡ sigma p₁ q₁) × (p₃ ≡ c₃) × (q₃ ≡ c₃) × IsUniverse c₃)
unfolding nearest
rule_8 {c₃ = c₃} = by_candidate (λ m. (cc, cc, cc, cc, cc, (number_in c₃, cc))) (λ t. (refl, cc, cc))

-- WT-PAIR
pub rule_9 : {G G₀ G₁ G₂ : Context} {c₁ c₃ p₁ p₃ q₁ q₃ r₁ r₃ : Term}
    → Instance 9 (typed G₀ p₁ p₃ ∷ typed G₁ q₁ q₃ ∷ typed G₂ r₁ r₃ ∷ []) (typed G c₁ c₃)
    ↔ ((G₀ ≡ G) × (G₁ ≡ G) × (G₂ ≡ G) × (c₁ ≡ pair p₁ q₁) × (c₃ ≡ sigma p₃ (child c₃ 2)) × (q₃ ≡ child c₃ 2 ⟨ p₁ ⟩) × (r₁ ≡ c₃)
    × IsUniverse r₃)
unfolding nearest
rule_9 {r₃ = r₃} = by_candidate (λ m. (cc, cc, cc, cc, cc, cc, cc, (number_in r₃, cc))) (λ t. (refl, cc, cc))

-- WT-PROJ1
pub rule_10 : {G G₀ : Context} {c₁ c₃ p₁ p₃ : Term}
    → Instance 10 (typed G₀ p₁ p₃ ∷ []) (typed G c₁ c₃)
    ↔ ((G₀ ≡ G) × (c₁ ≡ first p₁) × (p₃ ≡ sigma c₃ (child p₃ 2)))
unfolding nearest
rule_10 = by_candidate (λ m. (cc, cc, cc)) (λ t. (refl, cc, cc))

-- WT-PROJ2
pub rule_11 : {G G₀ : Context} {c₁ c₃ p₁ p₃ : Term}
    → Instance 11 (typed G₀ p₁ p₃ ∷ []) (typed G c₁ c₃)
    ↔ ((G₀ ≡ G) × (c₁ ≡ second p₁) × (p₃ ≡ sigma (child p₃ 1) (child p₃ 2)) × (c₃ ≡ child p₃ 2 ⟨ first p₁ ⟩))
unfolding nearest
rule_11 = by_candidate (λ m. (cc, cc, cc, cc)) (λ t. (refl, cc, cc))

-- WT-NAT
pub rule_12 : {G G₀ : Context} {c₁ c₃ : Term}
    → Instance 12 (wf G₀ ∷ []) (typed G c₁ c₃)
    ↔ ((G₀ ≡ G) × (c₁ ≡ nat) × IsUniverse c₃)
unfolding nearest
rule_12 {c₃ = c₃} = by_candidate (λ m. (cc, cc, (number_in c₃, cc))) (λ t. (refl, cc, cc))

-- WT-ZERO
pub rule_13 : {G G₀ : Context} {c₁ c₃ : Term}
    → Instance 13 (wf G₀ ∷ []) (typed G c₁ c₃)
    ↔ ((G₀ ≡ G) × (c₁ ≡ zer) × (c₃ ≡ nat))
unfolding nearest
rule_13 = by_candidate (λ m. (cc, cc, cc)) (λ t. (refl, cc, cc))

-- WT-SUCC
pub rule_14 : {G G₀ : Context} {c₁ c₃ p₁ p₃ : Term}
    → Instance 14 (typed G₀ p₁ p₃ ∷ []) (typed G c₁ c₃)
    ↔ ((G₀ ≡ G) × (c₁ ≡ succ p₁) × (p₃ ≡ nat) × (c₃ ≡ nat))
unfolding nearest
rule_14 = by_candidate (λ m. (cc, cc, cc, cc)) (λ t. (refl, cc, cc))

-- WT-IND
pub rule_15 : {G G₀ G₁ G₂ G₃ : Context} {c₁ c₃ p₁ p₃ q₁ q₃ r₁ r₃ s₁ s₃ : Term}
    → Instance 15 (typed G₀ p₁ p₃ ∷ typed G₁ q₁ q₃ ∷ typed G₂ r₁ r₃ ∷ typed G₃ s₁ s₃ ∷ []) (typed G c₁ c₃)
    ↔ ((G₀ ≡ nat ∷ G) × (G₁ ≡ G) × (G₂ ≡ G) × (G₃ ≡ p₁ ∷ nat ∷ G) × IsUniverse p₃ × (q₃ ≡ nat) × (r₃ ≡ p₁ ⟨ zer ⟩) × (s₃ ≡ on_succ p₁)
    × (c₁ ≡ ind p₁ q₁ r₁ s₁) × (c₃ ≡ p₁ ⟨ q₁ ⟩))
unfolding nearest
rule_15 {p₃ = p₃} = by_candidate (λ m. (cc, cc, cc, cc, (number_in p₃, cc), cc, cc, cc, cc, cc)) (λ t. (refl, cc, cc))

-- WT-CONV
pub rule_16 : {G G₀ G₁ : Context} {c₁ c₃ p₁ p₃ q₁ q₂ : Term}
    → Instance 16 (typed G₀ p₁ p₃ ∷ sub G₁ q₁ q₂ ∷ []) (typed G c₁ c₃)
    ↔ ((G₀ ≡ G) × (G₁ ≡ G) × (c₁ ≡ p₁) × (q₁ ≡ p₃) × (c₃ ≡ q₂))
unfolding nearest
rule_16 = by_candidate (λ m. (cc, cc, cc, cc, cc)) (λ t. (refl, cc, cc))
