-- The number of a line once another line is away, and before.
-- Assumes nothing.
use mathlib.Core.Path.{◌≡◌, refl, ◌∙◌, ap}
use Prim.Native.Nat.{ℕ, zero, suc, ◌-◌, ◌≤◌, ◌<◌}
use native.Mathlib.Decide.{dec_lt}
use native.Mathlib.Omega.{arith}
use borrow.Author.Tests.{lt-ltb, le-ltb}
use Rattle.sheets.specs.LineSets.{number_before}
use Rattle.sheets.specs.Withdrawal.{lower_premise}

-- a step of lowering
pub lower_above : (n p : ℕ) → n < p → lower_premise n p ≡ p - 1
unfolding lower_premise
lower_above n p h = rw (lt-ltb n p h, lower_premise)

pub lower_upto : (n p : ℕ) → p ≤ n → lower_premise n p ≡ p
unfolding lower_premise
lower_upto n p h = rw (le-ltb n p h, lower_premise)

pub lower_less : (n p q : ℕ) → (p ≡ n → ⊥) → p < q → lower_premise n p < lower_premise n q
lower_less n p q f h = at (dec_lt n p) (dec_lt n q)
  where
    at : Dec (n < p) → Dec (n < q) → lower_premise n p < lower_premise n q
    at (yes a) (yes c) = omega (arith, lower_above n p a, lower_above n q c)
    at (yes a) (no c) = absurd (omega arith)
    at (no a) (yes c) = omega (arith, lower_upto n p (omega arith), lower_above n q c)
    at (no a) (no c) = omega (arith, lower_upto n p (omega arith), lower_upto n q (omega arith))

-- and the way back, which leaves out n
pub before_below : (n k : ℕ) → k < n → number_before n k ≡ k
unfolding number_before
before_below zero k h = absurd (omega arith)
before_below (suc n) zero h = refl
before_below (suc n) (suc k) h = ap suc (before_below n k (omega arith))

pub before_behind : (n k : ℕ) → n ≤ k → number_before n k ≡ suc k
unfolding number_before
before_behind zero k h = refl
before_behind (suc n) zero h = absurd (omega arith)
before_behind (suc n) (suc k) h = ap suc (before_behind n k (omega arith))

pub before_lower : (n p : ℕ) → (p ≡ n → ⊥) → number_before n (lower_premise n p) ≡ p
before_lower n p f = at (dec_lt n p)
  where
    at : Dec (n < p) → number_before n (lower_premise n p) ≡ p
    at (yes h) = ap (number_before n) (lower_above n p h) ∙ omega (arith, before_behind n (p - 1) (omega arith))
    at (no h) = ap (number_before n) (lower_upto n p (omega arith)) ∙ before_below n p (omega arith)

pub lower_before : (n k : ℕ) → lower_premise n (number_before n k) ≡ k
lower_before n k = at (dec_lt k n)
  where
    at : Dec (k < n) → lower_premise n (number_before n k) ≡ k
    at (yes h) = ap (lower_premise n) (before_below n k h) ∙ lower_upto n k (omega arith)
    at (no h) =
        ap (lower_premise n) (before_behind n k (omega arith)) ∙ omega (arith, lower_above n (suc k) (omega arith))

pub before_other : (n k : ℕ) → number_before n k ≡ n → ⊥
before_other n k e = at (dec_lt k n)
  where
    at : Dec (k < n) → ⊥
    at (yes h) = omega (arith, before_below n k h)
    at (no h) = omega (arith, before_behind n k (omega arith))

pub before_least : (n k : ℕ) → k ≤ number_before n k
before_least n k = at (dec_lt k n)
  where
    at : Dec (k < n) → k ≤ number_before n k
    at (yes h) = omega (arith, before_below n k h)
    at (no h) = omega (arith, before_behind n k (omega arith))

-- a line that is before another is so afterwards
pub lower_below : (n m p : ℕ) → (p ≡ n → ⊥) → p < number_before n m → lower_premise n p < m
lower_below n m p f h = at (dec_lt n p) (dec_lt m n)
  where
    at : Dec (n < p) → Dec (m < n) → lower_premise n p < m
    at (yes a) (yes c) = absurd (omega (arith, before_below n m c))
    at (yes a) (no c) = omega (arith, lower_above n p a, before_behind n m (omega arith))
    at (no a) (yes c) = omega (arith, lower_upto n p (omega arith), before_below n m c)
    at (no a) (no c) = omega (arith, lower_upto n p (omega arith))
