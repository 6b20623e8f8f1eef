-- Lists: how many different elements a list has.
use Rattle.std.specs.Prelude.{◌≡◌, ◌⊎◌, ℕ, ◌≤◌, length}
use Rattle.std.proofs.Common.{inl, inr}
use mathlib.Core.List.Memᴰ
use mathlib.Core.List.{List, [], ◌∷◌, Memᴰ}

-- x stands in the list
infix 50 ◌∈◌
abbrev pub ◌∈◌ : {A : Type 0} → A → List A → Type 0
x ∈ l = Memᴰ x l

next? : {A : Type 0} {x y : A} {l : List A} → Dec (x ≡ y) → Dec (x ∈ l) → Dec (x ∈ (y ∷ l))
next? (yes e) d = yes (Memᴰ.head e)
next? (no e) (yes m) = yes (Memᴰ.tail m)
next? {A} {x} {y} {l} (no e) (no m) = no (λ h. neither (Memᴰ.cases_cons h))
  where
    neither : (x ≡ y) ⊎ (x ∈ l) → ⊥
    neither (inl f) = e f
    neither (inr n) = m n

-- whether x stands in the list, where equality is decided
unfoldable pub member? : {A : Type 0} → Discrete A → (x : A) (l : List A) → Dec (x ∈ l)
unfolding next?
member? d x [] = no Memᴰ.not-nil
member? d x (y ∷ l) = next? (d x y) (member? d x l)

-- x put before the list r, unless it stands in l
unfoldable pub before : {A : Type 0} {x : A} {l : List A} → Dec (x ∈ l) → List A → List A
before (yes m) r = r
before {A} {x} (no m) r = x ∷ r

-- the list without repetitions: of equal elements the last one stays
unfoldable pub distinct : {A : Type 0} → Discrete A → List A → List A
unfolding member? before
distinct d [] = []
distinct d (x ∷ l) = before (member? d x l) (distinct d l)

-- the list has at most n different elements; law at_most_is: some list of at most n elements has them all
abbrev pub AtMost : {A : Type 0} → Discrete A → ℕ → List A → Type 0
AtMost d n l = length (distinct d l) ≤ n
