-- Day numbers are the count of the days since 1 January 1970: every existing date is reached by counting, and its
-- number is the count.
-- Assumes nothing.
use mathlib.Core.Path.{◌≡◌, refl, sym, ◌∙◌, ap, subst}
use mathlib.Core.Logic.{◌↔◌, ⊎_elim}
use mathlib.Core.Bool.{Bool, true, false, cond}
use Rattle.std.specs.Prelude.{Result, Ok, Err}
use Prim.Native.Nat.{ℕ, zero, suc, ◌+◌, ◌-◌, ◌≤◌, ◌<◌}
use native.Mathlib.Omega.{arith}
use Rattle.std.proofs.lemmas.Bool.{cases_lt, iff_false, false_from_ne_true}
use Rattle.windows.specs.declared.dates.Date.{Date}
use Rattle.windows.specs.declared.errors.WindowError.{WindowError}
use Rattle.windows.specs.declared.errors.WindowError.TheVariants.{NoSuchDate}
use Rattle.windows.specs.Calendar.{leap, month_lengths, days_before_month, year_length, days_of_years}
use Rattle.windows.specs.Dates.{date_of, Exists, exists, day_number, next_day, date_after, day_number_of}
use Rattle.windows.specs.Dates.{DayNumberMeans, counted, no_date}
use Rattle.windows.proofs.CalendarLaws.{month_some}
use Rattle.windows.proofs.DateLaws.{Proper, proper, exists_is, next_follows}
use Rattle.windows.proofs.OrderLaws.{one_number, years_rise, year_ends}

pub first_day : day_number (date_of 1970 1 1) ≡ 0
unfolding day_number date_of days_of_years days_before_month month_lengths
first_day = refl

pub last_day : day_number (date_of 2199 12 31) ≡ 84005
unfolding day_number date_of days_of_years year_length days_before_month month_lengths leap
last_day = refl

-- the next day's number is one more, over the ends of months and years
pub next_day_lem : (d : Date) → Exists d → day_number (next_day d) ≡ suc (day_number d)
next_day_lem d x = (next_follows d (proper x)).1

-- "28 February and 1 March 2100 are neighbours; in 2000 they are not": there is a day between
pub neighbours_2100 : day_number (date_of 2100 3 1) ≡ day_number (date_of 2100 2 28) + 1
unfolding day_number date_of days_of_years year_length days_before_month month_lengths leap
neighbours_2100 = refl

pub no_neighbours_2000 : day_number (date_of 2000 3 1) ≡ day_number (date_of 2000 2 28) + 2
unfolding day_number date_of days_of_years year_length days_before_month month_lengths leap
no_neighbours_2000 = refl

-- counting days gives dates of the calendar, and their numbers are the count
counting : (n : ℕ) → Proper (date_after n) × (day_number (date_after n) ≡ n)
unfolding date_after date_of
counting zero = (
  record {
    since = omega arith;
    month_from = omega arith;
    month_to = omega arith;
    day_from = omega arith;
    day_to = month_some 1970 1 (omega arith) (omega arith);
  },
  first_day,
)
counting (suc n) =
    let before = counting n in
    let next = next_follows (date_after n) before.0 in
    (next.0, next.1 ∙ ap suc before.1)

-- no two existing dates have one number
pub no_two : (d e : Date) → Exists d → Exists e → day_number d ≡ day_number e → d ≡ e
no_two d e x y = one_number d e (proper x) (proper y)

-- an existing date has number n exactly if counting n days comes to it
pub count_is : (d : Date) → Exists d → (n : ℕ) → (day_number d ≡ n) ↔ (date_after n ≡ d)
count_is d x n = (
  λ e. one_number (date_after n) d (counting n).0 (proper x) ((counting n).1 ∙ sym e),
  λ e. ap day_number (sym e) ∙ (counting n).1,
)

all_years : days_of_years 230 ≡ 84006
unfolding days_of_years year_length month_lengths leap
all_years = refl

low : (d : Date) → Exists d → day_number d ≤ 84005
low d x =
    omega (arith, year_ends d (proper x), years_rise (suc d.year - 1970) 230 (omega (arith, x.until)), all_years)

early : (d : Date) → Proper d → day_number d ≤ 84005 → Exists d
unfolding day_number
early d p h = record {
  since = p.since;
  until = ⊎_elim late (λ h. h) (cases_lt 2199 d.year);
  month_from = p.month_from;
  month_to = p.month_to;
  day_from = p.day_from;
  day_to = p.day_to;
}
  where
    late : 2199 < d.year → d.year ≤ 2199
    late after = absurd (omega (arith, all_years, years_rise 230 (d.year - 1970) (omega (arith, after))))

-- the dates that exist are those that counting comes to in at most 84,005 days
pub existing_are : (d : Date) → Exists d ↔ ((n : ℕ) × (n ≤ 84005) × (date_after n ≡ d))
existing_are d = (
  λ x. (day_number d, low d x, (count_is d x (day_number d)).0 refl),
  λ k.
      let there = counting k.0 in
      subst Exists k.2 (early (date_after k.0) there.0 (subst (λ n. n ≤ 84005) (sym there.1) k.1)),
)

module _ (d : Date) where
  means : DayNumberMeans d (day_number_of d)
  unfolding day_number_of
  means = pick (exists d) refl
    where
      pick : (t : Bool) → exists d ≡ t → DayNumberMeans d (cond t (Ok (day_number d)) (Err NoSuchDate))
      pick true e = let x = (exists_is d).0 e in counted x ((count_is d x (day_number d)).0 refl)
      pick false e = no_date (iff_false (exists_is d) e)

  back : {a : Result ℕ WindowError} → DayNumberMeans d a → day_number_of d ≡ a
  unfolding day_number_of
  back (counted {n} x e) = rw ((exists_is d).1 x, (count_is d x n).1 e)
  back (no_date none) = rw (false_from_ne_true (exists d) (λ e. none ((exists_is d).0 e)))

  pub day_number_is : (a : Result ℕ WindowError) → (day_number_of d ≡ a) ↔ DayNumberMeans d a
  day_number_is a = (λ e. subst (DayNumberMeans d) e means, back)
