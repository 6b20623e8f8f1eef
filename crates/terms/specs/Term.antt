-- Plain terms: document 01, "The sheet" (tags 1 to 13) and "Derivations that fit" (read as plain terms).
-- Variables are de Bruijn indices, 0 the nearest binder. B of pi and sigma, b of lam and P of ind bind one
-- variable; c of ind binds two, the number x (index 1) and the earlier result y (index 0).
use Rattle.std.specs.Prelude.{ℕ, ◌+◌}

pub data Term : Type 0 where
  var : ℕ → Term
  univ : ℕ → Term
  pi : Term → Term → Term
  lam : Term → Term
  app : Term → Term → Term
  sigma : Term → Term → Term
  pair : Term → Term → Term
  first : Term → Term
  second : Term → Term
  nat : Term
  zer : Term
  succ : Term → Term
  ind : Term → Term → Term → Term → Term
  deriving Discrete as Term_discrete

-- A term's size: its node count as a tree, repeated children counted each time.
unfoldable pub size : Term → ℕ
size (var i) = 1
size (univ i) = 1
size (pi a b) = 1 + size a + size b
size (lam b) = 1 + size b
size (app b a) = 1 + size b + size a
size (sigma a b) = 1 + size a + size b
size (pair a b) = 1 + size a + size b
size (first a) = 1 + size a
size (second a) = 1 + size a
size nat = 1
size zer = 1
size (succ a) = 1 + size a
size (ind p a b c) = 1 + size p + size a + size b + size c
