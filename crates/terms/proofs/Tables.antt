-- A constant table's rule, proved once over the whole table: the table is computed from the rule, or every entry is
-- tested.
-- Assumes nothing.
use mathlib.Core.Path.{◌≡◌, refl}
use mathlib.Core.Bool.{Bool, true, false, ◌&&◌, false≢true}
use mathlib.Core.List.{List, [], ◌∷◌}
use Prim.Native.Nat.{ℕ, zero, suc, ◌≤◌, zero-le}
use borrow.Author.Tests.{leb-true}
use lib.Dec.{leb}
use lib.ListN.{get_or}

abbrev pub all_at_most : ℕ → List ℕ → Bool
all_at_most m [] = true
all_at_most m (x ∷ xs) = leb x m && all_at_most m xs

pub and_left : (a b : Bool) → a && b ≡ true → a ≡ true
and_left true b h = refl
and_left false b h = h

pub and_right : (a b : Bool) → a && b ≡ true → b ≡ true
and_right true b h = h
and_right false b h = absurd (false≢true h)

pub at_most : (m : ℕ) (xs : List ℕ) → all_at_most m xs ≡ true → (n : ℕ) → get_or xs n 0 ≤ m
at_most m [] h n = zero-le
at_most m (x ∷ xs) h zero = leb-true x m (and_left (leb x m) (all_at_most m xs) h)
at_most m (x ∷ xs) h (suc n) = at_most m xs (and_right (leb x m) (all_at_most m xs) h) n
