-- The numbers that texts spell in decimal.
use Rattle.std.specs.Prelude.{Bool, true, false, ◌&&◌, cond, List, [], ◌∷◌, ℕ, ◌+◌, ◌-◌, ◌*◌, ltb, leb}
use Rattle.std.specs.Prelude.{Option, Some, None}
use Rattle.sheets.specs.declared.finding.Wanted.{Wanted}

-- a byte is a decimal digit
unfoldable pub is_digit : ℕ → Bool
is_digit byte = leb 48 byte && leb byte 57

-- every byte is a decimal digit
unfoldable pub all_digits : List ℕ → Bool
all_digits [] = true
all_digits (byte ∷ text) = is_digit byte && all_digits text

-- a decimal number in text, however large: digits, at least one
unfoldable pub is_numeral : List ℕ → Bool
is_numeral [] = false
is_numeral (byte ∷ text) = all_digits (byte ∷ text)

-- the number that digits spell behind those of the number before
unfoldable pub spelled : ℕ → List ℕ → ℕ
spelled before [] = before
spelled before (byte ∷ text) = spelled (10 * before + (byte - 48)) text

-- a text of digits is a number if that is below 2^64
unfoldable pub read_from : ℕ → List ℕ → Option ℕ
read_from before text = cond (all_digits text && ltb (spelled before text) 18446744073709551616) (Some (spelled before text)) None

-- the number of a text; an empty one has none
unfoldable pub read_number : List ℕ → Option ℕ
read_number [] = None
read_number (byte ∷ text) = read_from 0 (byte ∷ text)

-- a field of a judgment that is looked for has 32 bits
unfoldable pub field_of : Option ℕ → Option ℕ
field_of (Some n) = cond (ltb 4294967295 n) None (Some n)
field_of None = None

-- the judgment with five numbers, if all five were read
unfoldable pub request_of : Option ℕ → Option ℕ → Option ℕ → Option ℕ → Option ℕ → Option Wanted
request_of (Some form) (Some context) (Some s1) (Some s2) (Some s3) =
    Some (record { form = form; context = context; s1 = s1; s2 = s2; s3 = s3 })
request_of (Some form) (Some context) (Some s1) (Some s2) None = None
request_of (Some form) (Some context) (Some s1) None s3 = None
request_of (Some form) (Some context) None s2 s3 = None
request_of (Some form) None s1 s2 s3 = None
request_of None context s1 s2 s3 = None
