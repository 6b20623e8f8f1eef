-- Lists of numbers below a bound: their members by place, and their images under functions that agree there.
-- Assumes nothing.
use mathlib.Core.Path.{◌≡◌, refl, ap₂}
use mathlib.Core.List.{List, [], ◌∷◌, map}
use Prim.Native.Nat.{ℕ, zero, suc, ◌<◌}
use native.Mathlib.Omega.{arith}
use lib.ListN.{length, get_or}
use Rattle.terms.specs.Lists.{AllBelow}
use Rattle.terms.proofs.AllLaws.{all_at}

pub map_below : {A : Type 0} (f g : ℕ → A) (n : ℕ) (l : List ℕ) → AllBelow n l → ((k : ℕ) → k < n → f k ≡ g k)
    → map f l ≡ map g l
map_below f g n [] b h = refl
map_below f g n (k ∷ l) b h = ap₂ ◌∷◌ (h k b.0) (map_below f g n l b.1 h)

pub all_below_lem : (n : ℕ) (l : List ℕ) → ((i : ℕ) → i < length l → get_or l i 0 < n) → AllBelow n l
all_below_lem n = all_at (λ k. k < n) 0

pub below_at : (n : ℕ) (l : List ℕ) → AllBelow n l → (i : ℕ) → i < length l → get_or l i 0 < n
below_at n [] b i h = absurd (omega arith)
below_at n (k ∷ l) b zero h = b.0
below_at n (k ∷ l) b (suc i) h = below_at n l b.1 i (omega arith)
