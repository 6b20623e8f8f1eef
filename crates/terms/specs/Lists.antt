-- Lists: what holds of every element, numbers below a bound, lists by their places, and parts of a list.
use Rattle.std.specs.Prelude.{Bool, true, false, List, [], ◌∷◌, ℕ, zero, suc, ◌<◌}

-- P holds of every element
abbrev pub All : {A : Type 0} → (A → Type 0) → List A → Type 0
All P [] = Unit {0}
All P (x ∷ l) = P x × All P l

-- every number of the list is below the count
abbrev pub AllBelow : ℕ → List ℕ → Type 0
AllBelow count = All (λ n. n < count)

-- f 0, f 1 and so on, n of them
unfoldable pub listed : {A : Type 0} → (ℕ → A) → ℕ → List A
listed f zero = []
listed f (suc n) = f 0 ∷ listed (λ i. f (suc i)) n

-- the list without element n
unfoldable pub without : {A : Type 0} → ℕ → List A → List A
without n [] = []
without zero (x ∷ l) = l
without (suc n) (x ∷ l) = x ∷ without n l

-- the elements at whose places the other list has true
unfoldable pub selected : {A : Type 0} → List Bool → List A → List A
selected [] xs = []
selected (b ∷ bs) [] = []
selected (true ∷ bs) (x ∷ xs) = x ∷ selected bs xs
selected (false ∷ bs) (x ∷ xs) = selected bs xs
