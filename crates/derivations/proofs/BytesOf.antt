-- Words that come one group after another.
-- Assumes nothing.
use mathlib.Core.Path.{◌≡◌, ◌∙◌, ap}
use Prim.Native.Nat.{ℕ, ◌+◌, ◌-◌, ◌<◌}
use native.Mathlib.Decide.{dec_lt}
use native.Mathlib.Omega.{arith}
use Rattle.derivations.proofs.Numbering.{pick, pick_yes, pick_no, pick_either}

-- n words of f, then those of g
pub follow : ℕ → (ℕ → ℕ) → (ℕ → ℕ) → ℕ → ℕ
follow n f g i = pick (dec_lt i n) (f i) (g (i - n))

module _ (n : ℕ) (f g : ℕ → ℕ) where
  pub follow_first : (i : ℕ) → i < n → follow n f g i ≡ f i
  unfolding follow
  follow_first i h = pick_yes (dec_lt i n) (f i) (g (i - n)) h

  pub follow_then : (i : ℕ) → follow n f g (n + i) ≡ g i
  unfolding follow
  follow_then i = pick_no (dec_lt (n + i) n) (f (n + i)) (g (n + i - n)) (λ h. omega arith) ∙ ap g behind
    where
      behind : n + i - n ≡ i
      behind = omega arith

  pub follow_below : (bound m : ℕ) → ((i : ℕ) → i < n → f i < bound) → ((i : ℕ) → i < m → g i < bound) → (i : ℕ) → i < n + m → follow n f g i < bound
  unfolding follow
  follow_below bound m p q i h = pick_either (λ w. w < bound) (dec_lt i n) (f i) (g (i - n)) (λ k. p i k) (λ k. q (i - n) (omega arith))
