-- Earlier dates have lower numbers, and no two dates have one number.
-- Assumes nothing.
use mathlib.Core.Path.{◌≡◌, sym, ap}
use mathlib.Core.Logic.{◌↔◌, ◌⊎◌, inl, inr, ⊎_elim}
use Prim.Native.Nat.{ℕ, zero, suc, ◌+◌, ◌-◌, ◌≤◌, ◌<◌}
use native.Mathlib.Nat.{eq-or-lt_of_le, le_of_eq}
use native.Mathlib.Omega.{arith}
use Rattle.std.proofs.lemmas.Bool.{cases_order}
use Rattle.windows.specs.declared.dates.Date.{Date}
use Rattle.windows.specs.Calendar.{days_before_month, days_of_years}
use Rattle.windows.specs.Dates.{Exists, day_number, Earlier, by_year, by_month, by_day}
use Rattle.windows.proofs.DateLaws.{Proper, proper, month_step, year_end, year_step}

-- what never falls at a step never falls
rises : (f : ℕ → ℕ) → ((n : ℕ) → f n ≤ f (suc n)) → (m n : ℕ) → m ≤ n → f m ≤ f n
rises f step m zero h = le_of_eq (ap f none)
  where
    none : m ≡ 0
    none = omega arith
rises f step m (suc n) h =
    ⊎_elim (λ same. le_of_eq (ap f same)) (λ less. omega (arith, step n, rises f step m n (omega arith)))
    (eq-or-lt_of_le h)

months_rise : (year m n : ℕ) → m ≤ n → days_before_month year m ≤ days_before_month year n
months_rise year = rises (days_before_month year) (λ n. omega (arith, month_step year n))

pub years_rise : (m n : ℕ) → m ≤ n → days_of_years m ≤ days_of_years n
unfolding days_of_years
years_rise = rises days_of_years (λ n. omega arith)

-- a date's number is below that of the first day of the next month, and of the next year
month_ends : (d : Date) → Proper d
    → day_number d < days_of_years (d.year - 1970) + days_before_month d.year (suc d.month)
unfolding day_number
month_ends d p = omega (arith, p.day_from, p.day_to, month_step d.year d.month)

pub year_ends : (d : Date) → Proper d → day_number d < days_of_years (suc d.year - 1970)
year_ends d p =
    let month = months_rise d.year (suc d.month) 13 (omega (arith, p.month_to)) in
    let last = year_end d.year in
    omega (arith, month_ends d p, month, month_step d.year 12, last, year_step d.year p.since)

-- the number of a month's first day
abbrev month_start : ℕ → ℕ → ℕ
month_start year month = days_of_years (year - 1970) + days_before_month year month

module _ (d e : Date) (p : Proper d) where
  lower : Earlier d e → day_number d < day_number e
  unfolding day_number
  lower (by_year y) = omega (arith, year_ends d p, years_rise (suc d.year - 1970) (e.year - 1970) (omega arith))
  lower (by_month y m) = omega (arith, month_ends d p, months_rise d.year (suc d.month) e.month m, same)
    where
      same : month_start d.year e.month ≡ month_start e.year e.month
      same = ap (λ year. month_start year e.month) y
  lower (by_day y m day) = omega (arith, p.day_from, same)
    where
      same : month_start d.year d.month ≡ month_start e.year e.month
      same i = month_start (y i) (m i)

-- two dates are one date, or one is earlier
abbrev Ordered : Date → Date → Type 0
Ordered d e = (d ≡ e) ⊎ (Earlier d e ⊎ Earlier e d)

ordered : (d e : Date) → Ordered d e
ordered d e = by_years (cases_order d.year e.year)
  where
    -- two numbers in this order
    Apart : ℕ → ℕ → Type 0
    Apart m n = (m ≡ n) ⊎ ((m < n) ⊎ (n < m))

    by_days : d.year ≡ e.year → d.month ≡ e.month → Apart d.day e.day → Ordered d e
    by_days y m (inl same) = inl (λ i. record { year = y i; month = m i; day = same i })
    by_days y m (inr (inl less)) = inr (inl (by_day y m less))
    by_days y m (inr (inr more)) = inr (inr (by_day (sym y) (sym m) more))

    by_months : d.year ≡ e.year → Apart d.month e.month → Ordered d e
    by_months y (inl same) = by_days y same (cases_order d.day e.day)
    by_months y (inr (inl less)) = inr (inl (by_month y less))
    by_months y (inr (inr more)) = inr (inr (by_month (sym y) more))

    by_years : Apart d.year e.year → Ordered d e
    by_years (inl same) = by_months same (cases_order d.month e.month)
    by_years (inr (inl less)) = inr (inl (by_year less))
    by_years (inr (inr more)) = inr (inr (by_year more))

module _ (d e : Date) (p : Proper d) (q : Proper e) where
  -- no two dates have one number
  pub one_number : day_number d ≡ day_number e → d ≡ e
  one_number n = pick (ordered d e)
    where
      pick : Ordered d e → d ≡ e
      pick (inl same) = same
      pick (inr (inl before)) = absurd (omega (arith, lower d e p before))
      pick (inr (inr behind)) = absurd (omega (arith, lower e d q behind))

-- an existing date is earlier than another exactly if its number is lower
pub earlier_is : (d e : Date) → Exists d → Exists e → Earlier d e ↔ (day_number d < day_number e)
earlier_is d e x y = (lower d e (proper x), λ h. pick h (ordered d e))
  where
    pick : day_number d < day_number e → Ordered d e → Earlier d e
    pick h (inl same) = absurd (omega (arith, ap day_number same))
    pick h (inr (inl before)) = before
    pick h (inr (inr behind)) = absurd (omega (arith, lower e d (proper y) behind))

pub not_earlier_is : (d e : Date) → Exists d → Exists e → (Earlier d e → ⊥) ↔ (day_number e ≤ day_number d)
not_earlier_is d e x y = (at_most, λ h before. omega (arith, (earlier_is d e x y).0 before))
  where
    at_most : (Earlier d e → ⊥) → day_number e ≤ day_number d
    at_most none =
        let no_less : day_number d < day_number e → ⊥ = λ h. none ((earlier_is d e x y).1 h) in
        omega (arith, no_less)
