-- The easiest of the lines that are chosen: document 02, A8, "the line of least height; among those the highest
-- number".
use Rattle.std.specs.Prelude.{◌≡◌, Bool, true, false, ℕ, zero, suc, ◌≤◌, ◌<◌, leb, Option, Some, None}

-- line n against the best line before it: the later one, if it is no higher
unfoldable pub better : (ℕ → ℕ) → Option ℕ → ℕ → Option ℕ
better height None n = Some n
better height (Some m) n = elim (leb (height n) (height m)) [ true ↦ Some n | false ↦ Some m ]

-- the easiest of the first n lines that are chosen
unfoldable pub easiest : (ℕ → Bool) → (ℕ → ℕ) → ℕ → Option ℕ
easiest chosen height zero = None
easiest chosen height (suc n) =
    elim (chosen n) [ true ↦ better height (easiest chosen height n) n | false ↦ easiest chosen height n ]

-- line i is the easiest of the first count lines that are chosen
pub record Easiest (Chosen : ℕ → Type 0) (height : ℕ → ℕ) (count i : ℕ) : Type 0 where
  pub within : i < count
  pub is : Chosen i
  pub least : (n : ℕ) → n < count → Chosen n → height i ≤ height n
  pub last : (n : ℕ) → n < count → Chosen n → height n ≡ height i → n ≤ i
