-- The laws of rules 35 to 43, subtyping: see CandidateLaws.antt.
use mathlib.Core.Path.{◌≡◌, refl, sym, subst₂}
use mathlib.Core.Logic.{◌↔◌, ◌⊎◌, inl, inr, ⊎_elim}
use mathlib.Core.List.{List, [], ◌∷◌}
use Rattle.terms.specs.Term.{Term, pi, sigma}
use Rattle.terms.specs.Tag.{child, number_in}
use Rattle.terms.specs.Substitution.{◌⟨◌⟩}
use Rattle.rules.specs.Judgment.{Context, Judgment, wf, equal, sub}
use Rattle.rules.specs.Instance.{Instance, l_univ, l_pi, l_pi_smaller}
use Rattle.rules.specs.Conditions.{IsUniverse, UniversesRise}
use Rattle.rules.specs.Readings.{PrintedReading, SmallerReading}
use Rattle.rules.specs.Decision.{nearest}
use Rattle.rules.proofs.CandidateLaws.{by_candidate}

-- L-TRANS
pub rule_35 : {G G₀ G₁ : Context} {c₁ c₂ p₁ p₂ q₁ q₂ : Term}
    → Instance 35 (sub G₀ p₁ p₂ ∷ sub G₁ q₁ q₂ ∷ []) (sub G c₁ c₂)
    ↔ ((G₀ ≡ G) × (G₁ ≡ G) × (c₁ ≡ p₁) × (q₁ ≡ p₂) × (c₂ ≡ q₂))
unfolding nearest
rule_35 = by_candidate (λ m. (cc, cc, cc, cc, cc)) (λ t. (refl, cc, cc))

-- L-EQ
pub rule_36 : {G G₀ : Context} {c₁ c₂ p₁ p₂ p₃ : Term}
    → Instance 36 (equal G₀ p₁ p₂ p₃ ∷ []) (sub G c₁ c₂)
    ↔ ((G₀ ≡ G) × (c₁ ≡ p₁) × (c₂ ≡ p₂) × IsUniverse p₃)
unfolding nearest
rule_36 {p₃ = p₃} = by_candidate (λ m. (cc, cc, cc, (number_in p₃, cc))) (λ t. (refl, cc, cc))

-- L-UNIV. Its condition is no part of the judgments, so the instance itself is taken apart.
rising : {ps : List Judgment} {c : Judgment} {G G₀ : Context} {c₁ c₂ : Term}
    → Instance 37 ps c → ps ≡ wf G₀ ∷ [] → c ≡ sub G c₁ c₂ → (G₀ ≡ G) × UniversesRise c₁ c₂
rising (l_univ H i j l) f g = (cc, (i, j, l, cc, cc))

pub rule_37 : {G G₀ : Context} {c₁ c₂ : Term}
    → Instance 37 (wf G₀ ∷ []) (sub G c₁ c₂)
    ↔ ((G₀ ≡ G) × UniversesRise c₁ c₂)
rule_37 {G} = (λ i. rising i refl refl, λ t. subst₂ (Instance 37) (cc) (cc) (l_univ G t.1.0 t.1.1 t.1.2))

-- L-PI. It has two readings, so the instance itself is taken apart.
readings : {ps : List Judgment} {c : Judgment} → Instance 38 ps c → PrintedReading ps c ⊎ SmallerReading ps c
readings (l_pi G A₀ A₁ B₀ B₁) = inl (G, A₀, A₁, B₀, B₁, refl, refl)
readings (l_pi_smaller G A₀ A₁ B₀ B₁) = inr (G, A₀, A₁, B₀, B₁, refl, refl)

module _ {ps : List Judgment} {c : Judgment} where
  -- document 02, A3: "Everything admitted before is admitted still"
  pub printed_reading : PrintedReading ps c → Instance 38 ps c
  printed_reading u = subst₂ (Instance 38) (sym u.5) (sym u.6) (l_pi u.0 u.1 u.2 u.3 u.4)

  smaller_reading : SmallerReading ps c → Instance 38 ps c
  smaller_reading u = subst₂ (Instance 38) (sym u.5) (sym u.6) (l_pi_smaller u.0 u.1 u.2 u.3 u.4)

  -- document 02, A3: number 10 "is given for rule 38 only if neither reading fits"
  pub either_reading : Instance 38 ps c ↔ (PrintedReading ps c ⊎ SmallerReading ps c)
  either_reading = (readings, ⊎_elim printed_reading smaller_reading)

pub rule_38 : {G G₀ G₁ : Context} {c₁ c₂ p₁ p₂ q₁ q₂ : Term}
    → Instance 38 (sub G₀ p₁ p₂ ∷ sub G₁ q₁ q₂ ∷ []) (sub G c₁ c₂)
    ↔ ((G₀ ≡ G) × ((G₁ ≡ p₂ ∷ G) ⊎ (G₁ ≡ p₁ ∷ G)) × (c₁ ≡ pi p₂ q₁) × (c₂ ≡ pi p₁ q₂))
rule_38 {G} {p₁ = p₁} {p₂ = p₂} {q₁ = q₁} {q₂ = q₂} = (
  λ i. ⊎_elim
      (λ u. let f = u.5 in let g = u.6 in (cc, inl (cc), cc, cc))
      (λ u. let f = u.5 in let g = u.6 in (cc, inr (cc), cc, cc))
      (either_reading.0 i),
  λ t. either_reading.1
      (⊎_elim (λ e. inl (G, p₂, p₁, q₁, q₂, cc, cc)) (λ e. inr (G, p₂, p₁, q₁, q₂, cc, cc)) t.1),
)

-- L-SIG
pub rule_39 : {G G₀ G₁ : Context} {c₁ c₂ p₁ p₂ q₁ q₂ : Term}
    → Instance 39 (sub G₀ p₁ p₂ ∷ sub G₁ q₁ q₂ ∷ []) (sub G c₁ c₂)
    ↔ ((G₀ ≡ G) × (G₁ ≡ p₂ ∷ G) × (c₁ ≡ sigma p₁ q₁) × (c₂ ≡ sigma p₂ q₂))
unfolding nearest
rule_39 = by_candidate (λ m. (cc, cc, cc, cc)) (λ t. (refl, cc, cc))

-- L-PIPROJ1
pub rule_40 : {G G₀ : Context} {c₁ c₂ p₁ p₂ : Term}
    → Instance 40 (sub G₀ p₁ p₂ ∷ []) (sub G c₁ c₂)
    ↔ ((G₀ ≡ G) × (p₁ ≡ pi c₂ (child p₁ 2)) × (p₂ ≡ pi c₁ (child p₂ 2)))
unfolding nearest
rule_40 = by_candidate (λ m. (cc, cc, cc)) (λ t. (refl, cc, cc))

-- L-PIPROJ2
pub rule_41 : {G G₀ G₁ : Context} {c₁ c₂ p₁ p₂ q₁ q₂ q₃ : Term}
    → Instance 41 (sub G₀ p₁ p₂ ∷ equal G₁ q₁ q₂ q₃ ∷ []) (sub G c₁ c₂)
    ↔ ((G₀ ≡ G) × (G₁ ≡ G) × (p₁ ≡ pi (child p₁ 1) (child p₁ 2)) × (p₂ ≡ pi q₃ (child p₂ 2)) × (c₁ ≡ child p₁ 2 ⟨ q₁ ⟩)
    × (c₂ ≡ child p₂ 2 ⟨ q₂ ⟩))
unfolding nearest
rule_41 = by_candidate (λ m. (cc, cc, cc, cc, cc, cc)) (λ t. (refl, cc, cc))

-- L-SIGPROJ1
pub rule_42 : {G G₀ : Context} {c₁ c₂ p₁ p₂ : Term}
    → Instance 42 (sub G₀ p₁ p₂ ∷ []) (sub G c₁ c₂)
    ↔ ((G₀ ≡ G) × (p₁ ≡ sigma c₁ (child p₁ 2)) × (p₂ ≡ sigma c₂ (child p₂ 2)))
unfolding nearest
rule_42 = by_candidate (λ m. (cc, cc, cc)) (λ t. (refl, cc, cc))

-- L-SIGPROJ2
pub rule_43 : {G G₀ G₁ : Context} {c₁ c₂ p₁ p₂ q₁ q₂ q₃ : Term}
    → Instance 43 (sub G₀ p₁ p₂ ∷ equal G₁ q₁ q₂ q₃ ∷ []) (sub G c₁ c₂)
    ↔ ((G₀ ≡ G) × (G₁ ≡ G) × (p₁ ≡ sigma q₃ (child p₁ 2)) × (p₂ ≡ sigma (child p₂ 1) (child p₂ 2)) × (c₁ ≡ child p₁ 2 ⟨ q₁ ⟩)
    × (c₂ ≡ child p₂ 2 ⟨ q₂ ⟩))
unfolding nearest
rule_43 = by_candidate (λ m. (cc, cc, cc, cc, cc, cc)) (λ t. (refl, cc, cc))
