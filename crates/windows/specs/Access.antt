-- What a window answers: document 02, A1, "The sheet is open from the first date's day to the last date's day, both
-- included. A window is asked with a third date and answers open or closed."
use Rattle.std.specs.Prelude.{◌⊎◌, Bool, ◌&&◌, cond, leb, ltb, Result, Ok, Err}
use Rattle.windows.specs.declared.dates.Date.{Date}
use Rattle.windows.specs.declared.access.Window.{Window}
use Rattle.windows.specs.declared.access.Access.{Access}
use Rattle.windows.specs.declared.access.Access.TheVariants.{Open, Closed}
use Rattle.windows.specs.declared.errors.WindowError.{WindowError}
use Rattle.windows.specs.declared.errors.WindowError.TheVariants.{NoSuchDate, Reversed}
use Rattle.windows.specs.Dates.{Exists, exists, Earlier, day_number}

-- the window from one date to another
unfoldable pub window_of : Date → Date → Window
window_of first last = record { first = first; last = last }

-- all three dates exist, as a test
abbrev pub all_exist : Window → Date → Bool
all_exist w d = exists w.first && exists w.last && exists d

-- the day is one of the window's, both ends included
abbrev pub is_within : Window → Date → Bool
is_within w d = leb (day_number w.first) (day_number d) && leb (day_number d) (day_number w.last)

-- "It refuses with 15 if any of the three dates does not exist or lies outside those years, and then a last date before
-- the first with 16": these are `number_of` of the two
unfoldable pub open_on : Window → Date → Result Access WindowError
open_on w d =
    cond (all_exist w d) (cond ends_early (Err Reversed) (Ok (cond (is_within w d) Open Closed))) (Err NoSuchDate)
  where
    ends_early : Bool
    ends_early = ltb (day_number w.last) (day_number w.first)

-- all three dates exist
pub record AllExist (w : Window) (d : Date) : Type 0 where
  pub first : Exists w.first
  pub last : Exists w.last
  pub asked : Exists d

-- what each answer means, by the order of dates; `access_is` in proofs/AccessLaws: each is answered exactly if it holds
pub data AccessMeans (w : Window) (d : Date) : Result Access WindowError → Type 0 where
  is_open : AllExist w d → (Earlier d w.first → ⊥) → (Earlier w.last d → ⊥) → AccessMeans w d (Ok Open)
  is_closed : AllExist w d → (Earlier w.last w.first → ⊥) → Earlier d w.first ⊎ Earlier w.last d →
      AccessMeans w d (Ok Closed)
  no_date : (AllExist w d → ⊥) → AccessMeans w d (Err NoSuchDate)
  no_days : AllExist w d → Earlier w.last w.first → AccessMeans w d (Err Reversed)
