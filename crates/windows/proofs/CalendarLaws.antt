-- The constant table of the days before the months agrees with the calendar, and the days before a year have a closed
-- form.
-- Assumes nothing.
use mathlib.Core.Path.{◌≡◌, refl, sym, ◌∙◌, ap, subst}
use mathlib.Core.Bool.{Bool, true, false, ◌&&◌, ◌||◌, cond}
use mathlib.Core.List.{List, [], ◌∷◌}
use Rattle.std.specs.Prelude.{sum}
use Prim.Native.Nat.{ℕ, zero, suc, ◌+◌, ◌-◌, ◌*◌, ◌/◌, ◌≤◌}
use native.Mathlib.Omega.{arith}
use lib.Dec.{eqb, ltb, leb}
use lib.ListN.{get_or, take}
use borrow.Author.Tests.{eqb-true, leb-true}
use Rattle.std.proofs.lemmas.Bool.{agree_below, agree_below_at}
use Rattle.std.proofs.lemmas.Bool.Decides.{nat_tests}
use Rattle.windows.specs.Calendar.{leap, month_lengths, month_length}
use Rattle.windows.specs.Calendar.{days_before_month, year_length, days_of_years}

-- a test that holds at each month, and at 0, which is none
at_months : (test : ℕ → Bool) → agree_below test (λ _. true) 13 ≡ true → (month : ℕ) → month ≤ 12 → test month ≡ true
at_months test e month h = agree_below_at test (λ _. true) 13 month e (omega arith)

-- the table of the days before the months
unfoldable pub before : List ℕ
before = 0 ∷ 0 ∷ 31 ∷ 59 ∷ 90 ∷ 120 ∷ 151 ∷ 181 ∷ 212 ∷ 243 ∷ 273 ∷ 304 ∷ 334 ∷ []

-- what is read of it, if the leap day is known to be among them or not
abbrev before_by : Bool → ℕ → ℕ
before_by with_leap_day month = cond with_leap_day (get_or before month 0 + 1) (get_or before month 0)

before_entry : (l : Bool) (month : ℕ) → month ≤ 12
    → sum (take month (month_lengths l)) ≡ before_by (l && ltb 2 month) month
unfolding month_lengths before
before_entry l month h = eqb-true _ _ (at_months (same l) (tested l) month h)
  where
    same : Bool → ℕ → Bool
    same l m = eqb (sum (take m (month_lengths l))) (before_by (l && ltb 2 m) m)

    tested : (l : Bool) → agree_below (same l) (λ _. true) 13 ≡ true
    tested true = refl
    tested false = refl

-- the table as the code reads it
pub days_before_month_is : (year month : ℕ) {l test : Bool} → l ≡ leap year → month ≤ 12 → l && ltb 2 month ≡ test
    → before_by test month ≡ days_before_month year month
unfolding days_before_month
days_before_month_is year month {l = l} is h e =
    ap (λ b. before_by b month) (sym e) ∙ sym (before_entry l month h) ∙ ap (λ b. sum (take month (month_lengths b))) is

-- the days of a month, if the leap day is known to be among them or not
abbrev length_by : Bool → ℕ → ℕ
length_by with_leap_day month =
    cond with_leap_day (get_or (month_lengths false) month 0 + 1) (get_or (month_lengths false) month 0)

-- a leap day makes February longer, and no other month
pub month_length_is : (year month : ℕ) {l test : Bool} → l ≡ leap year → l && eqb month 2 ≡ test
    → length_by test month ≡ month_length year month
unfolding month_length month_lengths
month_length_is year month {l = l} is e =
    ap (λ b. length_by b month) (sym e) ∙ same l month ∙ ap (λ b. get_or (month_lengths b) month 0) is
  where
    later : (month : ℕ) → eqb (suc (suc (suc month))) 2 ≡ false
    later month = grind (arith, nat_tests)

    same : (l : Bool) (month : ℕ) → length_by (l && eqb month 2) month ≡ get_or (month_lengths l) month 0
    same false month = refl
    same true zero = refl
    same true (suc zero) = refl
    same true (suc (suc zero)) = refl
    same true (suc (suc (suc month))) = rw (later month)

pub month_most : (year month : ℕ) → month ≤ 12 → month_length year month ≤ 31
unfolding month_length month_lengths
month_most year month h = leb-true _ _ (at_months (short (leap year)) (tested (leap year)) month h)
  where
    short : Bool → ℕ → Bool
    short l m = leb (get_or (month_lengths l) m 0) 31

    tested : (l : Bool) → agree_below (short l) (λ _. true) 13 ≡ true
    tested true = refl
    tested false = refl

pub month_some : (year month : ℕ) → 1 ≤ month → month ≤ 12 → 1 ≤ month_length year month
unfolding month_length month_lengths
month_some year month low high = grind (arith, nat_tests, at_months (some (leap year)) (tested (leap year)) month high)
  where
    some : Bool → ℕ → Bool
    some l m = eqb m 0 || leb 1 (get_or (month_lengths l) m 0)

    tested : (l : Bool) → agree_below (some l) (λ _. true) 13 ≡ true
    tested true = refl
    tested false = refl

-- 1 for what holds
abbrev once : Bool → ℕ
once b = cond b 1 0

-- a leap day for every fourth year, but for the centuries, but for every fourth of them
leap_quotients : (last year : ℕ) → year ≡ suc last
    → year / 4 + year / 400 + last / 100 ≡ last / 4 + last / 400 + year / 100 + once (leap year)
unfolding leap
leap_quotients last year e = grind (arith, nat_tests)

year_length_lem : (year : ℕ) → year_length year ≡ 365 + once (leap year)
unfolding year_length month_lengths
year_length_lem year = pick (leap year)
  where
    pick : (l : Bool) → sum (month_lengths l) ≡ 365 + once l
    pick true = refl
    pick false = refl

-- 365 days for each year, and the leap days of the years up to the one before; 477 of those are before 1970
years_closed : (n : ℕ) → days_of_years n + (1969 + n) / 100 + 477 ≡ 365 * n + (1969 + n) / 4 + (1969 + n) / 400
unfolding days_of_years
years_closed zero = refl
years_closed (suc n) =
    subst (λ y. days_of_years n + year_length (1970 + n) + y / 100 + 477 ≡ 365 * suc n + y / 4 + y / 400) year
    (omega (arith, years_closed n, year_length_lem (1970 + n), leap_quotients (1969 + n) (1970 + n) (omega arith)))
  where
    year : 1970 + n ≡ 1969 + suc n
    year = omega arith

-- the same by the year
pub year_closed : (year : ℕ) → 1970 ≤ year
    → days_of_years (year - 1970) + (year - 1) / 100 + 477 ≡ 365 * (year - 1970) + (year - 1) / 4 + (year - 1) / 400
year_closed year h = subst Closed last (years_closed (year - 1970))
  where
    Closed : ℕ → Type 0
    Closed y = days_of_years (year - 1970) + y / 100 + 477 ≡ 365 * (year - 1970) + y / 4 + y / 400

    last : 1969 + (year - 1970) ≡ year - 1
    last = omega arith
