-- What admission leaves in the work buffer: document 01, "What the desk says".
use Rattle.std.specs.Prelude.{◌≡◌, List, ℕ, ◌≤◌, ◌<◌, length, get_or}
use Rattle.terms.specs.Term.{size}
use Rattle.terms.specs.Rows.{term}
use Rattle.sheets.specs.Layout.{trailer_of}

-- the first k words of the buffer are sizes of terms, and the words beyond are untouched
pub record SizesLeft (bytes : List ℕ) (k : ℕ) (before after : List ℕ) : Type 0 where
  pub long : length after ≡ length before
  pub sizes : (i : ℕ) → i < k → get_or after i 0 ≡ size (term bytes i)
  pub beyond : (i : ℕ) → k ≤ i → get_or after i 0 ≡ get_or before i 0

-- "The work buffer: after 1 to 4 it is untouched. After 5 to 7 at term k its first k words hold the sizes of terms 0 to
-- k-1. Otherwise its first T words hold all sizes. Words beyond are untouched."
pub record WorkLeft (bytes before after : List ℕ) (number place : ℕ) : Type 0 where
  pub untouched : number ≤ 4 → after ≡ before
  pub partly : 5 ≤ number → number ≤ 7 → SizesLeft bytes place before after
  pub wholly : 8 ≤ number → SizesLeft bytes (trailer_of bytes).terms before after
