-- Free indices and the ranges that the format gives to a term's head.
use Rattle.std.specs.Prelude.{ℕ, suc, ◌≤◌, ◌<◌}
use Rattle.terms.specs.Term.{Term, var, univ, pi, lam, app, sigma, pair, first, second, nat, zer, succ, ind}
use Rattle.terms.specs.Tag.{arity, binders, under, tag_in, child}

-- i is a free index of the term: the term is the variable i, or i, raised by what the child at place j binds, is a free
-- index of that child
pub data FreeIn : ℕ → Term → Type 0 where
  itself : {i : ℕ} → FreeIn i (var i)
  deeper : {i : ℕ} {t : Term} (j : ℕ) → 1 ≤ j → j ≤ arity (tag_in t)
      → FreeIn (under (binders (tag_in t) j) i) (child t j) → FreeIn i t

-- every free index of the term is below n; law free_below_is says so by FreeIn
unfoldable pub FreeBelow : ℕ → Term → Type 0
FreeBelow n (var i) = i < n
FreeBelow n (univ l) = Unit {0}
FreeBelow n (pi a b) = FreeBelow n a × FreeBelow (suc n) b
FreeBelow n (lam b) = FreeBelow (suc n) b
FreeBelow n (app b a) = FreeBelow n b × FreeBelow n a
FreeBelow n (sigma a b) = FreeBelow n a × FreeBelow (suc n) b
FreeBelow n (pair a b) = FreeBelow n a × FreeBelow n b
FreeBelow n (first a) = FreeBelow n a
FreeBelow n (second a) = FreeBelow n a
FreeBelow n nat = Unit {0}
FreeBelow n zer = Unit {0}
FreeBelow n (succ a) = FreeBelow n a
FreeBelow n (ind p a b c) = FreeBelow (suc n) p × FreeBelow n a × FreeBelow n b × FreeBelow (suc (suc n)) c

-- document 01, "The sheet": a variable's index is 0 to 4,095 and a universe's level 0 to 1,023; looks at the head alone
unfoldable pub InRange : Term → Type 0
InRange (var i) = i ≤ 4095
InRange (univ l) = l ≤ 1023
InRange (pi a b) = Unit {0}
InRange (lam b) = Unit {0}
InRange (app b a) = Unit {0}
InRange (sigma a b) = Unit {0}
InRange (pair a b) = Unit {0}
InRange (first a) = Unit {0}
InRange (second a) = Unit {0}
InRange nat = Unit {0}
InRange zer = Unit {0}
InRange (succ a) = Unit {0}
InRange (ind p a b c) = Unit {0}
