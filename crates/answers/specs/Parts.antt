-- Texts parted by a byte.
use Rattle.std.specs.Prelude.{cond, List, [], ◌∷◌, ℕ, eqb}

-- the part of a text before the first such byte; all of it if there is none
unfoldable pub up_to : ℕ → List ℕ → List ℕ
up_to byte [] = []
up_to byte (first ∷ text) = cond (eqb first byte) [] (first ∷ up_to byte text)

-- what stands behind the first such byte; nothing if there is none
unfoldable pub past : ℕ → List ℕ → List ℕ
past byte [] = []
past byte (first ∷ text) = cond (eqb first byte) text (past byte text)
