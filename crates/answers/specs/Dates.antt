-- Dates in text: three decimal numbers parted by hyphens, 45, each of any number of digits.
use Rattle.std.specs.Prelude.{◌≡◌, true, cond, List, ◌∷◌, ◌++◌, ℕ, ◌≤◌, ltb, length, Option, Some, None}
use Rattle.windows.specs.declared.dates.Date.{Date}
use Rattle.windows.specs.Dates.{date_of}
use Rattle.answers.specs.Numbers.{all_digits, is_numeral, spelled}
use Rattle.answers.specs.Parts.{up_to, past}

-- the number of a text, however large
unfoldable pub numeral_of : List ℕ → Option ℕ
numeral_of text = cond (is_numeral text) (Some (spelled 0 text)) None

-- the date with three numbers, if all three were read
unfoldable pub date_from : Option ℕ → Option ℕ → Option ℕ → Option Date
date_from (Some year) (Some month) (Some day) = Some (date_of year month day)
date_from (Some year) (Some month) None = None
date_from (Some year) None day = None
date_from None month day = None

-- the date that a text spells, however large its numbers are
unfoldable pub date_in : List ℕ → Option Date
date_in text = date_from (numeral_of (up_to 45 text)) (numeral_of (up_to 45 rest)) (numeral_of (past 45 rest))
  where
    rest : List ℕ
    rest = past 45 text

-- a number as it is held: 2^64 and more as 2^32, and neither makes a date
unfoldable pub held : ℕ → ℕ
held n = cond (ltb n 18446744073709551616) n 4294967296

unfoldable pub held_number : Option ℕ → Option ℕ
held_number (Some n) = Some (held n)
held_number None = None

-- a date as it is held
unfoldable pub held_date : Date → Date
held_date d = date_of (held d.year) (held d.month) (held d.day)

unfoldable pub held_reading : Option Date → Option Date
held_reading (Some d) = Some (held_date d)
held_reading None = None

-- a decimal number in text: digits, at least one
pub record Numeral (text : List ℕ) : Type 0 where
  pub some : 1 ≤ length text
  pub digits : all_digits text ≡ true

-- a text spells a date; `date_in_is` in proofs/DateTextLaws: `date_in` gives it exactly then
pub record SpellsDate (text : List ℕ) (d : Date) : Type 0 where
  pub year : List ℕ
  pub month : List ℕ
  pub day : List ℕ
  pub numerals : Numeral year × Numeral month × Numeral day
  pub parted : text ≡ year ++ (45 ∷ (month ++ (45 ∷ day)))
  pub date : d ≡ date_of (spelled 0 year) (spelled 0 month) (spelled 0 day)
