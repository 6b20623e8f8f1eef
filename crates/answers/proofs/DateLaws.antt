-- Dates in text: that a number too large for a date may be held as 2^32.
-- Assumes nothing.
use mathlib.Core.Path.{◌≡◌, refl, sym, ◌∙◌, ap, subst}
use mathlib.Core.Logic.{⊎_elim}
use mathlib.Core.Bool.{Bool, true, false, cond, false≢true}
use mathlib.Core.List.{List, [], ◌∷◌}
use Prim.Native.Nat.{ℕ, ◌≤◌}
use native.Mathlib.Omega.{arith}
use lib.Dec.{ltb}
use borrow.Author.Tests.{lt-ltb}
use Rattle.std.specs.Prelude.{Option, Some, None, unwrap_or, Result, Err}
use Rattle.windows.specs.declared.dates.Date.{Date}
use Rattle.windows.specs.declared.access.Access.{Access}
use Rattle.windows.specs.declared.errors.WindowError.{WindowError}
use Rattle.windows.specs.declared.errors.WindowError.TheVariants.{NoSuchDate}
use Rattle.windows.specs.Dates.{date_of, Exists, day_number_of, no_date as no_such_day}
use Rattle.windows.specs.Access.{window_of, open_on, AllExist, no_date}
use Rattle.windows.proofs.CalendarLaws.{month_most}
use Rattle.windows.proofs.CountLaws.{day_number_is}
use Rattle.windows.proofs.DateLaws.{exists?}
use Rattle.windows.proofs.AccessLaws.{all_exist?, access_is}
use Rattle.answers.specs.Numbers.{is_numeral, spelled, read_from, read_number}
use Rattle.answers.specs.Dates.{numeral_of, date_from, date_in, held, held_number, held_date, held_reading}
use Rattle.answers.specs.Text.{access_text, window_text, day_text, date_text}

-- a text that is no numeral is not read; a numeral is held as it is read, or as 2^32 if it is too large to be
pub no_numeral : (text : List ℕ) → is_numeral text ≡ false → None ≡ held_number (numeral_of text)
unfolding numeral_of held_number
no_numeral text e = rw (e, held_number)

read_numeral : (text : List ℕ) → is_numeral text ≡ true
    → read_number text ≡ cond (ltb (spelled 0 text) 18446744073709551616) (Some (spelled 0 text)) None
unfolding is_numeral read_number read_from
read_numeral [] e = absurd (false≢true e)
read_numeral (byte ∷ text) e = rw e

pub numeral_held : (text : List ℕ) → is_numeral text ≡ true
    → Some (unwrap_or (read_number text) 4294967296) ≡ held_number (numeral_of text)
unfolding numeral_of held_number held
numeral_held text is =
    ap (λ r. Some (unwrap_or r 4294967296)) (read_numeral text is) ∙ pick (ltb n 18446744073709551616)
    ∙ ap (λ t. held_number (cond t (Some n) None)) (sym is)
  where
    n : ℕ
    n = spelled 0 text

    pick : (t : Bool) → Some (unwrap_or (cond t (Some n) None) 4294967296) ≡ Some (cond t n 4294967296)
    pick true = refl
    pick false = refl

pub from_held : (year month day : Option ℕ)
    → date_from (held_number year) (held_number month) (held_number day) ≡ held_reading (date_from year month day)
unfolding date_from date_of held_number held_date held_reading
from_held (Some year) (Some month) (Some day) = refl
from_held (Some year) (Some month) None = refl
from_held (Some year) None day = refl
from_held None month day = refl

-- a date that exists is held as it is, and what is held as an existing date is that date
small : (n : ℕ) → n ≤ 2199 → held n ≡ n
unfolding held
small n h = rw (lt-ltb n 18446744073709551616 (omega arith))

held_small : (n : ℕ) → held n ≤ 2199 → held n ≡ n
unfolding held
held_small n = pick (ltb n 18446744073709551616)
  where
    pick : (t : Bool) → cond t n 4294967296 ≤ 2199 → cond t n 4294967296 ≡ n
    pick true h = refl
    pick false h = absurd (omega arith)

parts_small : {d : Date} → Exists d → (d.year ≤ 2199) × (d.month ≤ 2199) × (d.day ≤ 2199)
parts_small {d} x =
    (x.until, omega (arith, x.month_to), omega (arith, x.day_to, month_most d.year d.month x.month_to))

kept : (d : Date) → Exists d → held_date d ≡ d
unfolding date_of held_date
kept d x i =
    let parts = parts_small x in
    date_of (small d.year parts.0 i) (small d.month parts.1 i) (small d.day parts.2 i)

held_kept : (d : Date) → Exists (held_date d) → held_date d ≡ d
unfolding date_of held_date
held_kept d x i =
    let parts = parts_small x in
    date_of (held_small d.year parts.0 i) (held_small d.month parts.1 i) (held_small d.day parts.2 i)

existed : (d : Date) → Exists (held_date d) → Exists d
existed d x = subst Exists (held_kept d x) x

-- so the answers are those to the dates as they are spelled
held_day : (d : Date) → day_number_of (held_date d) ≡ day_number_of d
held_day d = ⊎_elim (λ x. ap day_number_of (kept d x)) no_day_lem (exists? d)
  where
    no_day_lem : (Exists d → ⊥) → day_number_of (held_date d) ≡ day_number_of d
    no_day_lem none =
        (day_number_is (held_date d) (Err NoSuchDate)).1 (no_such_day (λ x. none (existed d x)))
        ∙ sym ((day_number_is d (Err NoSuchDate)).1 (no_such_day none))

module _ (f l d : Date) where
  abbrev SameAccess : Type 0
  SameAccess = open_on (window_of (held_date f) (held_date l)) (held_date d) ≡ open_on (window_of f l) d

  held_access : SameAccess
  unfolding window_of
  held_access = ⊎_elim all_kept no_access_lem (all_exist? (window_of f l) d)
    where
      all_kept : AllExist (window_of f l) d → SameAccess
      all_kept x i = open_on (window_of (kept f x.first i) (kept l x.last i)) (kept d x.asked i)

      all_existed : AllExist (window_of (held_date f) (held_date l)) (held_date d) → AllExist (window_of f l) d
      all_existed x = record { first = existed f x.first; last = existed l x.last; asked = existed d x.asked }

      no_access_lem : (AllExist (window_of f l) d → ⊥) → SameAccess
      no_access_lem none =
          let held_none = no_date (λ x. none (all_existed x)) in
          (access_is (window_of (held_date f) (held_date l)) (held_date d) (Err NoSuchDate)).1 held_none
          ∙ sym ((access_is (window_of f l) d (Err NoSuchDate)).1 (no_date none))

window_held : (first last day : Option Date)
    → window_text (held_reading first) (held_reading last) (held_reading day) ≡ window_text first last day
unfolding window_text held_reading
window_held (Some f) (Some l) (Some d) = ap (λ a. Some (access_text a)) (held_access f l d)
window_held (Some f) (Some l) None = refl
window_held (Some f) None d = refl
window_held None l d = refl

-- the text of a window's answer, by what is read of each date
module _ (first last day : List ℕ) where
  abbrev answered : Option (List ℕ)
  answered = window_text (date_in first) (date_in last) (date_in day)

  as_read : {a b c : Option Date} → held_reading (date_in first) ≡ a → held_reading (date_in last) ≡ b
      → held_reading (date_in day) ≡ c → window_text a b c ≡ answered
  as_read e f g = sym (λ i. window_text (e i) (f i) (g i)) ∙ window_held (date_in first) (date_in last) (date_in day)

  pub first_unread : held_reading (date_in first) ≡ None → None ≡ answered
  unfolding window_text
  first_unread e = as_read e refl refl

  module _ {f : Date} (read_first : held_reading (date_in first) ≡ Some f) where
    pub last_unread : held_reading (date_in last) ≡ None → None ≡ answered
    unfolding window_text
    last_unread e = as_read read_first e refl

    module _ {l : Date} (read_last : held_reading (date_in last) ≡ Some l) where
      pub day_unread : held_reading (date_in day) ≡ None → None ≡ answered
      unfolding window_text
      day_unread e = as_read read_first read_last e

      pub window_read : {d : Date} {a : Result Access WindowError} → held_reading (date_in day) ≡ Some d → a ≡ open_on (window_of f l) d
          → Some (access_text a) ≡ answered
      unfolding window_text
      window_read e is = ap (λ a. Some (access_text a)) is ∙ as_read read_first read_last e

day_held : (date : Option Date) → date_text (held_reading date) ≡ date_text date
unfolding date_text held_reading
day_held (Some d) = ap (λ a. Some (day_text a)) (held_day d)
day_held None = refl

-- the text of a day number likewise
module _ (date : List ℕ) where
  date_as_read : {a : Option Date} → held_reading (date_in date) ≡ a → date_text a ≡ date_text (date_in date)
  date_as_read e = ap date_text (sym e) ∙ day_held (date_in date)

  pub date_unread : held_reading (date_in date) ≡ None → None ≡ date_text (date_in date)
  unfolding date_text
  date_unread e = date_as_read e

  pub date_read : {d : Date} {a : Result ℕ WindowError} → held_reading (date_in date) ≡ Some d → a ≡ day_number_of d
      → Some (day_text a) ≡ date_text (date_in date)
  unfolding date_text
  date_read e is = ap (λ a. Some (day_text a)) is ∙ date_as_read e

-- what `window_reply` answers, by what is read of each date
pub ruleset asking = (first_unread, last_unread, day_unread, window_read)
