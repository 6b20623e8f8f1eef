-- The test of a date says what it means, and the next day has the next number, over the ends of months and years.
-- Assumes nothing.
use mathlib.Core.Path.{◌≡◌, refl, sym, ◌∙◌, ap, subst}
use mathlib.Core.Logic.{◌↔◌, ◌⊎◌, inl, inr, ⊎_elim}
use mathlib.Core.Bool.{Bool, true, false, cond}
use mathlib.Core.List.{List}
use Rattle.std.specs.Prelude.{sum}
use Prim.Native.Nat.{ℕ, suc, ◌+◌, ◌-◌, ◌≤◌}
use native.Mathlib.Numerals.{add-one}
use native.Mathlib.Omega.{arith}
use lib.Dec.{ltb}
use lib.ListN.{get_or, length, take}
use borrow.Author.Tests.{ltb-true, ltb-false}
use Rattle.std.proofs.lemmas.Bool.{cases_lt, iff_false}
use Rattle.std.proofs.lemmas.Bool.Decides.{nat_tests}
use Rattle.std.proofs.lemmas.List.{take_all, get_or_past}
use Rattle.std.proofs.lemmas.List.Sums.{sum_by_more}
use Rattle.windows.specs.declared.dates.Date.{Date}
use Rattle.windows.specs.Calendar.{leap, month_lengths, month_length}
use Rattle.windows.specs.Calendar.{days_before_month, year_length, days_of_years}
use Rattle.windows.specs.Dates.{date_of, Exists, exists, day_number, next_day}
use Rattle.windows.proofs.CalendarLaws.{month_some}

pub exists_is : (d : Date) → (exists d ≡ true) ↔ Exists d
unfolding exists
exists_is d = (
  λ e. record {
    since = grind (arith, nat_tests);
    until = grind (arith, nat_tests);
    month_from = grind (arith, nat_tests);
    month_to = grind (arith, nat_tests);
    day_from = grind (arith, nat_tests);
    day_to = grind (arith, nat_tests);
  },
  λ x. grind (arith, nat_tests),
)

-- what a test decides
pub decided : {P : Type 0} (t : Bool) → (t ≡ true) ↔ P → P ⊎ (P → ⊥)
decided true is = inl (is.0 refl)
decided false is = inr (iff_false is refl)

pub exists? : (d : Date) → Exists d ⊎ (Exists d → ⊥)
exists? d = decided (exists d) (exists_is d)

-- a date of the calendar from 1970 on, without an end
pub record Proper (d : Date) : Type 0 where
  pub since : 1970 ≤ d.year
  pub month_from : 1 ≤ d.month
  pub month_to : d.month ≤ 12
  pub day_from : 1 ≤ d.day
  pub day_to : d.day ≤ month_length d.year d.month

pub proper : {d : Date} → Exists d → Proper d
proper x = record {
  since = x.since;
  month_from = x.month_from;
  month_to = x.month_to;
  day_from = x.day_from;
  day_to = x.day_to;
}

-- the days before the next month, and before the next year
sum_step : (l : List ℕ) (m : ℕ) → sum (take (suc m) l) ≡ sum (take m l) + get_or l m 0
sum_step l m = ⊎_elim (λ h. rw (add-one m) at (sum_by_more (λ n. n) l m 0 h)) past (cases_lt m (length l))
  where
    past : length l ≤ m → sum (take (suc m) l) ≡ sum (take m l) + get_or l m 0
    past h = rw (take_all (suc m) l (omega arith), take_all m l h, get_or_past l m 0 h) (omega arith)

pub month_step : (year month : ℕ)
    → days_before_month year (suc month) ≡ days_before_month year month + month_length year month
unfolding days_before_month month_length
month_step year month = sum_step (month_lengths (leap year)) month

pub year_end : (year : ℕ) → year_length year ≡ days_before_month year 12 + month_length year 12
unfolding year_length days_before_month month_length month_lengths
year_end year = pick (leap year)
  where
    pick : (l : Bool) → sum (month_lengths l) ≡ sum (take 12 (month_lengths l)) + get_or (month_lengths l) 12 0
    pick true = refl
    pick false = refl

pub year_step : (year : ℕ) → 1970 ≤ year
    → days_of_years (suc year - 1970) ≡ days_of_years (year - 1970) + year_length year
unfolding days_of_years
year_step year h = ap days_of_years next ∙ ap (λ y. days_of_years (year - 1970) + year_length y) same
  where
    next : suc year - 1970 ≡ suc (year - 1970)
    next = omega arith

    same : 1970 + (year - 1970) ≡ year
    same = omega arith

january : (year : ℕ) → days_before_month year 1 ≡ 0
unfolding days_before_month month_lengths
january year = refl

abbrev Follows : Date → Date → Type 0
Follows d e = Proper e × (day_number e ≡ suc (day_number d))

-- a date of the calendar is followed by another, whose number is one more
pub next_follows : (d : Date) → Proper d → Follows d (next_day d)
unfolding next_day date_of day_number
next_follows d p = pick (ltb d.day long) (ltb d.month 12) refl refl
  where
    long : ℕ
    long = month_length d.year d.month

    at_end : ltb d.day long ≡ false → d.day ≡ long
    at_end e = omega (arith, p.day_to, ltb-false d.day long e)

    december : ltb d.month 12 ≡ false → days_before_month d.year d.month + long ≡ year_length d.year
    december f = subst Whole last (sym (year_end d.year))
      where
        Whole : ℕ → Type 0
        Whole m = days_before_month d.year m + month_length d.year m ≡ year_length d.year

        last : 12 ≡ d.month
        last = omega (arith, p.month_to, ltb-false d.month 12 f)

    tomorrow : Date
    tomorrow = date_of d.year d.month (suc d.day)

    first_of_month : Date
    first_of_month = date_of d.year (suc d.month) 1

    first_of_year : Date
    first_of_year = date_of (suc d.year) 1 1

    pick : (a b : Bool) → ltb d.day long ≡ a → ltb d.month 12 ≡ b
        → Follows d (cond a tomorrow (cond b first_of_month first_of_year))
    pick true b e f = (
      record {
        since = p.since;
        month_from = p.month_from;
        month_to = p.month_to;
        day_from = omega arith;
        day_to = ltb-true d.day long e;
      },
      omega (arith, p.day_from),
    )
    pick false true e f = (
      record {
        since = p.since;
        month_from = omega arith;
        month_to = ltb-true d.month 12 f;
        day_from = omega arith;
        day_to = month_some d.year (suc d.month) (omega arith) (ltb-true d.month 12 f);
      },
      omega (arith, p.day_from, at_end e, month_step d.year d.month),
    )
    pick false false e f = (
      record {
        since = omega (arith, p.since);
        month_from = omega arith;
        month_to = omega arith;
        day_from = omega arith;
        day_to = month_some (suc d.year) 1 (omega arith) (omega arith);
      },
      omega (arith, p.day_from, at_end e, december f, year_step d.year p.since, january (suc d.year)),
    )
