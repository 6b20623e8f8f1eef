-- The two readings of rule 38, L-PI, whatever its premises and its conclusion are: document 02, A3.
use Rattle.std.specs.Prelude.{◌≡◌, List, [], ◌∷◌}
use Rattle.terms.specs.Term.{Term, pi}
use Rattle.rules.specs.Judgment.{Context, Judgment, sub}

-- the second premise stands under the domain that is chosen of A₀ and A₁
abbrev FunctionsUnder : (Term → Term → Term) → List Judgment → Judgment → Type 0
FunctionsUnder domain ps c =
    (G : Context) × (A₀ : Term) × (A₁ : Term) × (B₀ : Term) × (B₁ : Term)
    × (ps ≡ sub G A₁ A₀ ∷ sub (domain A₀ A₁ ∷ G) B₀ B₁ ∷ []) × (c ≡ sub G (pi A₀ B₀) (pi A₁ B₁))

abbrev pub PrintedReading : List Judgment → Judgment → Type 0
PrintedReading = FunctionsUnder (λ A₀ A₁. A₀)

-- under the smaller domain
abbrev pub SmallerReading : List Judgment → Judgment → Type 0
SmallerReading = FunctionsUnder (λ A₀ A₁. A₁)
