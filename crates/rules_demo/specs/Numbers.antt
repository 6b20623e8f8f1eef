-- The decimal numbers of a text: runs of digits, parted by any other byte. A comment goes from # to the end of its
-- line. A number is read modulo 2^16, and only if a byte stands behind it.
use Rattle.std.specs.Prelude.{Bool, ◌&&◌, cond, List, [], ◌∷◌, ◌++◌, ℕ, ◌+◌, ◌-◌, ◌*◌, ◌%◌, leb, eqb}
use Rattle.rules_demo.specs.declared.numbers.Place.{Place}
use Rattle.rules_demo.specs.declared.numbers.Place.TheVariants.{Blank, Comment, Number}

-- a byte is a decimal digit
unfoldable pub is_digit : ℕ → Bool
is_digit byte = leb 48 byte && leb byte 57

-- the place behind a byte that is in no comment, where the digits before it spell a value; # is 35
unfoldable pub place_behind : ℕ → ℕ → Place
place_behind value byte =
    cond (eqb byte 35) Comment (cond (is_digit byte) (Number ((10 * value + (byte - 48)) % 65536)) Blank)

-- the place behind a byte; a line ends with 10
unfoldable pub next_place : Place → ℕ → Place
next_place Blank byte = place_behind 0 byte
next_place (Number value) byte = place_behind value byte
next_place Comment byte = cond (eqb byte 10) Blank Comment

-- the number that ends between two places, if one does
unfoldable pub ended : Place → Place → List ℕ
ended (Number value) Blank = value ∷ []
ended (Number value) Comment = value ∷ []
ended (Number value) (Number more) = []
ended Blank next = []
ended Comment next = []

-- the numbers of a text whose reader starts at a place
unfoldable pub numbers_from : Place → List ℕ → List ℕ
numbers_from place [] = []
numbers_from place (byte ∷ text) = ended place (next_place place byte) ++ numbers_from (next_place place byte) text

-- the numbers of a text
abbrev pub numbers_in : List ℕ → List ℕ
numbers_in text = numbers_from Blank text
