-- What a search hands on from step to step: only for the code, no answer speaks of it.
use Rattle.std.specs.Prelude.{List, ℕ, replicate}
use Rattle.terms.specs.Lists.{listed}
use Rattle.terms.specs.Buffers.{over}
use Rattle.sheets.specs.Heights.{line_height}

-- an array with the heights of the first count lines; the rest of it stays 0
unfoldable pub heights_of : ℕ → List ℕ → ℕ → List ℕ
heights_of edition lines count = over (listed (line_height edition lines) count) (replicate 1024 0)
