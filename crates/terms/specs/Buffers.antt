-- A buffer once its beginning is overwritten.
use Rattle.std.specs.Prelude.{List, ◌++◌, ℕ, length, drop}

-- the first elements are overwritten, the others stay
abbrev pub over : List ℕ → List ℕ → List ℕ
over xs buffer = xs ++ drop (length xs) buffer
