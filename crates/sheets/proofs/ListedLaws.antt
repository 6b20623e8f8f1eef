-- The values of a function in order (`listed`): how many they are, each at its place, one more; and the images of a
-- list's elements so.
-- Assumes nothing.
use mathlib.Core.Path.{◌≡◌, refl, ap}
use mathlib.Core.List.{List, [], ◌∷◌, ◌++◌, map}
use Prim.Native.Nat.{ℕ, zero, suc, ◌<◌}
use native.Mathlib.Omega.{arith}
use lib.ListN.{length, get_or}
use Rattle.terms.specs.Lists.{listed}

module _ {A : Type 0} where
  pub listed-length : (f : ℕ → A) (n : ℕ) → length (listed f n) ≡ n
  unfolding listed
  listed-length f zero = refl
  listed-length f (suc n) = ap suc (listed-length (λ i. f (suc i)) n)

  pub listed_at : (f : ℕ → A) (n i : ℕ) (d : A) → i < n → get_or (listed f n) i d ≡ f i
  unfolding listed
  listed_at f zero i d h = absurd (omega arith)
  listed_at f (suc n) zero d h = refl
  listed_at f (suc n) (suc i) d h = listed_at (λ k. f (suc k)) n i d (omega arith)

  pub listed_next : (f : ℕ → A) (n : ℕ) → listed f (suc n) ≡ listed f n ++ f n ∷ []
  unfolding listed
  listed_next f zero = refl
  listed_next f (suc n) = ap (λ l. f 0 ∷ l) (listed_next (λ i. f (suc i)) n)

pub map-listed : {A B : Type 0} (f : A → B) (d : A) (l : List A) → map f l ≡ listed (λ i. f (get_or l i d)) (length l)
unfolding listed
map-listed f d [] = refl
map-listed f d (x ∷ l) = ap (λ r. f x ∷ r) (map-listed f d l)
