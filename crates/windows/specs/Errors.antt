-- The numbers of what is refused: document 02, A1, "It refuses with 15 if any of the three dates does not exist or lies
-- outside those years, and then a last date before the first with 16." The place that goes with them is 0.
use Rattle.std.specs.Prelude.{ℕ}
use Rattle.windows.specs.declared.errors.WindowError.{WindowError}
use Rattle.windows.specs.declared.errors.WindowError.TheVariants.{NoSuchDate, Reversed}

abbrev pub number_of : WindowError → ℕ
number_of NoSuchDate = 15
number_of Reversed = 16
