-- The last arm of a `match` over all numbers of a range is never taken.
-- Assumes nothing.
use mathlib.Core.Path.{◌≡◌}
use Prim.Native.Nat.{ℕ, zero, suc, ◌+◌, ◌≤◌, ◌<◌}
use native.Mathlib.Omega.{arith}
use mathlib.Core.Logic.{⊎_elim}
use native.Mathlib.Nat.{eq-or-lt_of_le}

-- n is none of the k numbers from the first on
abbrev pub NoneFrom : ℕ → ℕ → ℕ → Type 0
NoneFrom from zero n = Unit {0}
NoneFrom from (suc k) n = NoneFrom from k n × (n ≡ from + k → ⊥)

pub none_from : (from k n : ℕ) → NoneFrom from k n → from ≤ n → n < from + k → ⊥
none_from from zero n h low high = omega arith
none_from from (suc k) n h low high = ⊎_elim (λ e. h.1 e) (λ l. none_from from k n h.0 low l) (eq-or-lt_of_le (last high))
  where
    last : n < from + suc k → n ≤ from + k
    last l = omega arith
