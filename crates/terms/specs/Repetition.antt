-- Repetition among term rows: document 02, A4. The five words may be any, whether or not a sheet holds them.
use Rattle.std.specs.Prelude.{◌≡◌, List, ℕ, ◌<◌}
use Rattle.terms.specs.Rows.{row_of}
use Rattle.terms.specs.declared.rows.Row.{Row}

-- one of the first n rows holds these five words
abbrev pub OlderRowHolds : List ℕ → Row → ℕ → Type 0
OlderRowHolds bytes r n = (m : ℕ) × (m < n) × (row_of bytes m ≡ r)
