-- The Gregorian calendar (document 02, A1): leap years, and the lengths of months and years.
use Rattle.std.specs.Prelude.{Bool, ◌&&◌, ◌||◌, not, cond, List, [], ◌∷◌, ℕ, zero, suc, ◌+◌, ◌%◌, eqb, get_or, sum, take}

-- every fourth year; of those that end a century, every fourth
unfoldable pub leap : ℕ → Bool
leap year = eqb (year % 4) 0 && (not (eqb (year % 100) 0) || eqb (year % 400) 0)

-- the days of January to December, in a leap year or in another; what stands first is no month
unfoldable pub month_lengths : Bool → List ℕ
month_lengths in_leap_year = 0 ∷ 31 ∷ cond in_leap_year 29 28 ∷ 31 ∷ 30 ∷ 31 ∷ 30 ∷ 31 ∷ 31 ∷ 30 ∷ 31 ∷ 30 ∷ 31 ∷ []

-- the days of a month; a number other than 1 to 12 has none
unfoldable pub month_length : ℕ → ℕ → ℕ
month_length year month = get_or (month_lengths (leap year)) month 0

-- the days of a year in the months before the given one
unfoldable pub days_before_month : ℕ → ℕ → ℕ
days_before_month year month = sum (take month (month_lengths (leap year)))

-- the days of a year
unfoldable pub year_length : ℕ → ℕ
year_length year = sum (month_lengths (leap year))

-- the days of so many years from 1970 on
unfoldable pub days_of_years : ℕ → ℕ
days_of_years zero = 0
days_of_years (suc years) = days_of_years years + year_length (1970 + years)
