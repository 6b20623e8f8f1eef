-- Sets of lines, listed by their numbers, and the numbers of the lines that stay once they are away: document 02, A6,
-- "The set is a strictly rising list of line numbers, possibly empty."
use Rattle.std.specs.Prelude.{◌≡◌, Bool, true, false, not, ◌||◌, List, [], ◌∷◌, ℕ, zero, suc, ◌+◌, ◌-◌, ◌<◌, leb, ltb, eqb, length, get_or}
use Rattle.terms.specs.Search.{first_at}
use Rattle.terms.specs.Lists.{listed, selected}

-- each number is below the next
unfoldable pub rises : List ℕ → Bool
rises set = first_at (λ i. leb (get_or set (i + 1) 0) (get_or set i 0)) (λ _. false) true (length set - 1) 0

-- the same without computing
abbrev pub Rises : List ℕ → Type 0
Rises set = (i : ℕ) → i + 1 < length set → get_or set i 0 < get_or set (i + 1) 0

-- line k is listed
unfoldable pub is_listed : List ℕ → ℕ → Bool
is_listed [] k = false
is_listed (n ∷ set) k = eqb n k || is_listed set k

-- the same without computing
abbrev pub Listed : List ℕ → ℕ → Type 0
Listed set k = (i : ℕ) × (i < length set) × (get_or set i 0 ≡ k)

-- line k is not listed: it stays
abbrev pub Stays : List ℕ → ℕ → Type 0
Stays set k = Listed set k → ⊥

-- the last number of the list, the highest if it rises
unfoldable pub last_listed : List ℕ → ℕ
last_listed set = get_or set (length set - 1) 0

-- how many of the listed numbers are below k
unfoldable pub count_below : List ℕ → ℕ → ℕ
count_below [] k = 0
count_below (n ∷ set) k = elim (ltb n k) [ true ↦ suc (count_below set k) | false ↦ count_below set k ]

-- the number that line k has once the listed lines are away
abbrev pub new_number : List ℕ → ℕ → ℕ
new_number set k = k - count_below set k

-- the number that line k had before line n was away
unfoldable pub number_before : ℕ → ℕ → ℕ
number_before zero k = suc k
number_before (suc n) zero = zero
number_before (suc n) (suc k) = suc (number_before n k)

-- the number that line k had before the listed lines, the last of them first, were away
unfoldable pub old_number : List ℕ → ℕ → ℕ
old_number [] k = k
old_number (n ∷ set) k = old_number set (number_before n k)

-- the elements of a list at the places that are not listed, in order
unfoldable pub without_places : {A : Type 0} → List ℕ → List A → List A
without_places set l = selected (listed (λ k. not (is_listed set k)) (length l)) l
