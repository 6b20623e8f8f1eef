-- What the steps of the converter's code hand on to each other.
use Rattle.std.specs.Prelude.{◌≡◌, List, ℕ, ◌+◌, ◌*◌, ◌/◌, ◌%◌, ◌<◌, get_or, set}
use Rattle.rules.specs.MotiveNumbers.{MotiveGivenBy}
use Rattle.sheets.specs.Layout.{contexts_in}
use Rattle.sheets.specs.Lines.{judgment_of, line_at}
use Rattle.sheets.specs.Conversion.{new_premise}

-- the array holds for each of the first n lines the number of the motive to which it gives a universe
abbrev pub MotivesGiven : List ℕ → ℕ → ℕ → List ℕ → ℕ → Type 0
MotivesGiven bytes T C given n =
    (k : ℕ) → k < n → MotiveGivenBy bytes (contexts_in bytes T) (judgment_of (line_at bytes T C k)) (get_or given k 0)

-- the array holds for each of the first n lines the line that it is to cite first
abbrev pub NewPremises : List ℕ → ℕ → ℕ → List ℕ → ℕ → Type 0
NewPremises bytes T C first n = (k : ℕ) → k < n → get_or first k 0 ≡ new_premise bytes T C k

-- bytes once word i is overwritten, low byte first
abbrev pub with_word : List ℕ → ℕ → ℕ → List ℕ
with_word bytes i w = set (set bytes (2 * i) (w % 256)) (2 * i + 1) (w / 256)
