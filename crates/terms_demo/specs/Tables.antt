-- Rows of ten bytes as one row of bytes.
use Rattle.std.specs.Prelude.{◌≡◌, List, [], ℕ, ◌/◌, ◌%◌, ◌<◌, get_or}

-- byte i of the rows, one behind the other
unfoldable pub byte_in : List (List ℕ) → ℕ → ℕ
byte_in rows i = get_or (get_or rows (i / 10) []) (i % 10) 0

-- the first n bytes are those of the rows
abbrev pub Filled : List (List ℕ) → List ℕ → ℕ → Type 0
Filled rows bytes n = (i : ℕ) → i < n → get_or bytes i 0 ≡ byte_in rows i
