-- Reading a number digit by digit: what the digits read so far make of the rest.
-- Assumes nothing.
use mathlib.Core.Path.{◌≡◌, refl, sym, ◌∙◌, ap}
use mathlib.Core.Bool.{true, false, ◌&&◌, cond, and-eq-true_iff}
use mathlib.Core.List.{List, [], ◌∷◌}
use Prim.Native.Nat.{ℕ, suc, ◌+◌, ◌-◌, ◌*◌, ◌≤◌, ◌<◌}
use native.Mathlib.Numerals.{add-one}
use native.Mathlib.Omega.{arith}
use lib.Dec.{leb, ltb}
use lib.ListN.{length, get_or, drop, drop_of_length-le}
use lib.Seq.{drop-cons}
use borrow.Author.Tests.{le-ltb, lt-ltb, leb-true}
use Rattle.std.proofs.Math.Bool.{and-false}
use Rattle.std.specs.Prelude.{Some, None}
use Rattle.std.specs.Char.{is_ascii_digit}
use Rattle.std.specs.List.{list_all}
use Rattle.answers.specs.Numbers.{is_digit, all_digits, is_numeral, spelled, read_from, read_number}

-- after i digits the number read so far, with the rest of the text, answers for the whole
pub record ReadSoFar (text : List ℕ) (number i : ℕ) : Type 0 where
  pub within : i ≤ length text
  pub small : number < 18446744073709551616
  pub answer : read_number text ≡ read_from number (drop i text)

pub digit_range : (byte : ℕ) → is_digit byte ≡ true → (48 ≤ byte) × (byte ≤ 57)
unfolding is_digit
digit_range byte e =
    let tests = (and-eq-true_iff (leb 48 byte) (leb byte 57)).0 e in
    (leb-true 48 byte tests.0, leb-true byte 57 tests.1)

spelled_grows : (before : ℕ) (text : List ℕ) → before ≤ spelled before text
unfolding spelled
spelled_grows before [] = omega arith
spelled_grows before (byte ∷ text) = omega (arith, spelled_grows (10 * before + (byte - 48)) text)

no_digit : (before byte : ℕ) (text : List ℕ) → is_digit byte ≡ false → read_from before (byte ∷ text) ≡ None
unfolding read_from all_digits
no_digit before byte text e = rw e

digit : (before byte : ℕ) (text : List ℕ) → is_digit byte ≡ true → read_from before (byte ∷ text) ≡ read_from (10 * before + (byte - 48)) text
unfolding read_from all_digits spelled
digit before byte text e = rw e

too_large : (before : ℕ) (text : List ℕ) → 18446744073709551615 < before → read_from before text ≡ None
unfolding read_from
too_large before text h =
    rw (le-ltb (spelled before text) 18446744073709551616 (omega (arith, spelled_grows before text)), and-false)

pub start : (text : List ℕ) → (length text ≡ 0 → ⊥) → ReadSoFar text 0 0
unfolding read_number
start [] h = absurd (h refl)
start (byte ∷ text) h = record { within = omega arith; small = omega arith; answer = refl }

pub empty : (text : List ℕ) → length text ≡ 0 → None ≡ read_number text
unfolding read_number
empty [] e = refl
empty (byte ∷ text) e = absurd (omega arith)

module _ (text : List ℕ) (number i : ℕ) (so_far : ReadSoFar text number i) where
  pub done : length text ≤ i → Some number ≡ read_number text
  unfolding read_from all_digits spelled
  done h = sym (so_far.answer ∙ ap (read_from number) (drop_of_length-le text h) ∙ simp (lt-ltb number 18446744073709551616 so_far.small))

  module _ (inside : i < length text) (byte : ℕ) (here : byte ≡ get_or text i 0) where
    at_byte : read_number text ≡ read_from number (byte ∷ drop (suc i) text)
    at_byte = so_far.answer ∙ ap (read_from number) (drop-cons text i 0 inside ∙ ap (λ b. b ∷ drop (suc i) text) (sym here))

    pub not_read : is_digit byte ≡ false → None ≡ read_number text
    not_read e = sym (at_byte ∙ no_digit number byte (drop (suc i) text) e)

    module _ (is : is_digit byte ≡ true) (digit_is : ℕ) (here_digit : digit_is ≡ byte - 48) where
      with_digit : read_number text ≡ read_from (10 * number + digit_is) (drop (suc i) text)
      with_digit = at_byte ∙ digit number byte (drop (suc i) text) is ∙ ap (λ d. read_from (10 * number + d) (drop (suc i) text)) (sym here_digit)

      pub overflows : 18446744073709551616 ≤ 10 * number + digit_is → None ≡ read_number text
      overflows h = sym (with_digit ∙ too_large (10 * number + digit_is) (drop (suc i) text) (omega (arith, digit_range byte is)))

      pub goes_on : {next : ℕ} → next ≡ 10 * number + digit_is → next < 18446744073709551616 → ReadSoFar text next (i + 1)
      goes_on e h = record {
        within = omega arith;
        small = h;
        answer =
            with_digit
            ∙ (λ j. read_from (sym e j) (drop (sym (add-one i) j) text));
      }

-- a numeral is a number if that is below 2^64
pub number_is : (text : List ℕ)
    → read_number text
    ≡ cond (is_numeral text && ltb (spelled 0 text) 18446744073709551616) (Some (spelled 0 text)) None
unfolding read_number read_from is_numeral
number_is [] = refl
number_is (byte ∷ text) = refl

-- std's test of all bytes is ours
all_ascii : (text : List ℕ) → list_all is_ascii_digit text ≡ all_digits text
unfolding all_digits is_digit
all_ascii [] = refl
all_ascii (byte ∷ text) = ap (λ t. is_ascii_digit byte && t) (all_ascii text)

pub numeral_all : (text : List ℕ) → (length text ≡ 0 → ⊥) → list_all is_ascii_digit text ≡ is_numeral text
unfolding is_numeral
numeral_all [] h = absurd (h refl)
numeral_all (byte ∷ text) h = all_ascii (byte ∷ text)

pub empty_numeral : (text : List ℕ) → length text ≡ 0 → false ≡ is_numeral text
unfolding is_numeral
empty_numeral [] e = refl
empty_numeral (byte ∷ text) e = absurd (omega arith)

-- what `read_number` answers, by the digits that are read
pub ruleset reading = (empty, start, not_read, overflows, done)
