-- Dates and their day numbers: document 02, A1, "A date is year, month, day in the Gregorian calendar, 1970 to 2199;
-- its day number counts from 1 January 1970, which is 0." That the number is the count is `count_is` in
-- proofs/CountLaws.
use Rattle.std.specs.Prelude.{◌≡◌, Bool, ◌&&◌, cond, ℕ, zero, suc, ◌+◌, ◌-◌, ◌≤◌, ◌<◌, leb, ltb, Result, Ok, Err}
use Rattle.windows.specs.declared.dates.Date.{Date}
use Rattle.windows.specs.declared.errors.WindowError.{WindowError}
use Rattle.windows.specs.declared.errors.WindowError.TheVariants.{NoSuchDate}
use Rattle.windows.specs.Calendar.{month_length, days_before_month, days_of_years}

unfoldable pub date_of : ℕ → ℕ → ℕ → Date
date_of year month day = record { year = year; month = month; day = day }

-- a date exists: its year is 1970 to 2199, that year has the month, and the month has the day
pub record Exists (d : Date) : Type 0 where
  pub since : 1970 ≤ d.year
  pub until : d.year ≤ 2199
  pub month_from : 1 ≤ d.month
  pub month_to : d.month ≤ 12
  pub day_from : 1 ≤ d.day
  pub day_to : d.day ≤ month_length d.year d.month

-- the same as a test
unfoldable pub exists : Date → Bool
exists d =
    leb 1970 d.year && leb d.year 2199 && leb 1 d.month && leb d.month 12 && leb 1 d.day
    && leb d.day (month_length d.year d.month)

-- a date before another
pub data Earlier (d e : Date) : Type 0 where
  by_year : d.year < e.year → Earlier d e
  by_month : d.year ≡ e.year → d.month < e.month → Earlier d e
  by_day : d.year ≡ e.year → d.month ≡ e.month → d.day < e.day → Earlier d e

-- the number of a day: the days of the years before, of the months before in its year, and of its month before it
unfoldable pub day_number : Date → ℕ
day_number d = days_of_years (d.year - 1970) + days_before_month d.year d.month + (d.day - 1)

-- the date that follows: the next day of the month, else the first of the next month, else the first of the next year
unfoldable pub next_day : Date → Date
next_day d =
    cond (ltb d.day (month_length d.year d.month))
    (date_of d.year d.month (suc d.day))
    (cond (ltb d.month 12) (date_of d.year (suc d.month) 1) (date_of (suc d.year) 1 1))

-- the date so many days after 1 January 1970
unfoldable pub date_after : ℕ → Date
date_after zero = date_of 1970 1 1
date_after (suc n) = next_day (date_after n)

-- "It refuses with 15 if any of the .. dates does not exist or lies outside those years": 15 is `number_of NoSuchDate`
unfoldable pub day_number_of : Date → Result ℕ WindowError
day_number_of d = cond (exists d) (Ok (day_number d)) (Err NoSuchDate)

-- what each answer means; `day_number_is` in proofs/CountLaws: each is answered exactly if it holds
pub data DayNumberMeans (d : Date) : Result ℕ WindowError → Type 0 where
  counted : {n : ℕ} → Exists d → date_after n ≡ d → DayNumberMeans d (Ok n)
  no_date : (Exists d → ⊥) → DayNumberMeans d (Err NoSuchDate)
