-- Two arrays with the numbers that a withdrawal of a set goes by. Only the code's own steps cite this.
use Rattle.std.specs.Prelude.{◌≡◌, List, ℕ, ◌≤◌, ◌<◌, get_or}
use Rattle.sheets.specs.LineSets.{Stays, count_below, new_number}

-- for the first `count` lines: how many listed numbers are below each, and the old number of each line that stays, at
-- the place of its new one
pub record Numbering (set : List ℕ) (count : ℕ) (below kept : List ℕ) : Type 0 where
  pub counts : (k : ℕ) → k ≤ count → get_or below k 0 ≡ count_below set k
  pub numbers : (k : ℕ) → k < count → Stays set k → get_or kept (new_number set k) 0 ≡ k
