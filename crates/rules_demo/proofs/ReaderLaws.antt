-- Reading numbers byte by byte: the place behind each byte, and the numbers put so far.
-- Assumes nothing.
use mathlib.Core.Path.{◌≡◌, refl, sym, ◌∙◌, ap, subst}
use mathlib.Core.List.{List, [], ◌∷◌, ◌++◌, append_assoc, append-nil}
use Prim.Native.Nat.{ℕ, ◌+◌, ◌-◌, ◌*◌, ◌/◌, ◌%◌, ◌≤◌, ◌<◌}
use native.Mathlib.Nat.{add-mul-mod_self_left}
use native.Mathlib.Numerals.{add-one}
use native.Mathlib.Omega.{arith}
use lib.ListN.{length, get_or, drop, drop_of_length-le}
use lib.Seq.{drop-cons}
use borrow.Author.Tests.{eq-eqb, ne_eqb, le-leb, lt-leb}
use Rattle.rules_demo.specs.declared.numbers.Place.{Place}
use Rattle.rules_demo.specs.declared.numbers.Place.TheVariants.{Blank, Comment, Number}
use Rattle.rules_demo.specs.Numbers.{is_digit, place_behind, next_place, ended, numbers_from, numbers_in}
use Rattle.rules_demo.specs.WordBuffer.{WordsPut}
use Rattle.rules_demo.proofs.WordBufferLaws.{none_put, joined}

-- the ways on from a byte that is in no comment
module _ (value byte : ℕ) where
  pub comment_behind : byte ≡ 35 → Comment ≡ place_behind value byte
  unfolding place_behind
  comment_behind e = rw (eq-eqb byte 35 e)

  pub digit_behind : (digit : ℕ) → digit ≡ byte - 48 → 48 ≤ byte → byte < 58
      → Number ((value * 10 % 65536 + digit) % 65536) ≡ place_behind value byte
  unfolding place_behind is_digit
  digit_behind digit e low high =
      rw (ne_eqb byte 35 (λ q. omega arith), le-leb 48 byte low, le-leb byte 57 (omega arith)) (ap Number (sym same))
    where
      parts : 10 * value + (byte - 48) ≡ value * 10 % 65536 + digit + 65536 * (value * 10 / 65536)
      parts = omega arith

      same : (10 * value + (byte - 48)) % 65536 ≡ (value * 10 % 65536 + digit) % 65536
      same = ap (λ n. n % 65536) parts
          ∙ add-mul-mod_self_left (value * 10 % 65536 + digit) 65536 (value * 10 / 65536)

  pub below_digits : (byte ≡ 35 → ⊥) → byte < 48 → Blank ≡ place_behind value byte
  unfolding place_behind is_digit
  below_digits other low = rw (ne_eqb byte 35 other, lt-leb 48 byte low)

  pub above_digits : 58 ≤ byte → Blank ≡ place_behind value byte
  unfolding place_behind is_digit
  above_digits high = rw (ne_eqb byte 35 (λ q. omega arith), le-leb 48 byte (omega arith), lt-leb byte 57 high)

-- the place is none of a number
abbrev NoNumber : Place → Type 0
NoNumber place = (value : ℕ) → place ≡ Number value → ⊥

no_number : (value : ℕ) → NoNumber (Number value) → ⊥
no_number value h = h value refl

pub none_ends : (place next : Place) → NoNumber place → ended place next ≡ []
unfolding ended
none_ends Blank next h = refl
none_ends Comment next h = refl
none_ends (Number value) next h = absurd (no_number value h)

pub not_ended : (place next : Place) (value more : ℕ) → place ≡ Number value → next ≡ Number more
    → ended place next ≡ []
unfolding ended
not_ended place next value more e f = rw (e, f)

pub one_ends : (place next : Place) (value : ℕ) → place ≡ Number value → NoNumber next
    → ended place next ≡ value ∷ []
unfolding ended
one_ends place next value e h = rw e (number_ends next h)
  where
    number_ends : (next : Place) → NoNumber next → ended (Number value) next ≡ value ∷ []
    number_ends Blank h = refl
    number_ends Comment h = refl
    number_ends (Number more) h = absurd (no_number more h)

-- after i bytes the numbers that have ended are put, and those of the rest of the text, read from the place, come next
pub record ReadSoFar (text before after : List ℕ) (count : ℕ) (place : Place) (i : ℕ) : Type 0 where
  pub within : i ≤ length text
  pub done : List ℕ
  pub numbers : numbers_in text ≡ done ++ numbers_from place (drop i text)
  pub put : WordsPut before 0 done after count

pub start : (text out : List ℕ) → ReadSoFar text out out 0 Blank 0
start text out = record { within = omega arith; done = []; numbers = refl; put = none_put out 0 (omega arith) }

module _ {text before after : List ℕ} {count i : ℕ} {place : Place}
    (so_far : ReadSoFar text before after count place i) where
  pub goes_on : {out : List ℕ} {more : ℕ} {next : Place} → i < length text → next ≡ next_place place (get_or text i 0)
      → WordsPut after count (ended place next) out more → ReadSoFar text before out more next (i + 1)
  unfolding numbers_from
  goes_on {next = next} inside e put = record {
    within = omega arith;
    done = so_far.done ++ ended place next;
    numbers = so_far.numbers ∙ ap (λ l. so_far.done ++ l) here
        ∙ sym (append_assoc so_far.done (ended place next) (numbers_from next (drop (i + 1) text)));
    put = joined so_far.put put;
  }
    where
      here : numbers_from place (drop i text) ≡ ended place next ++ numbers_from next (drop (i + 1) text)
      here = rw (add-one, e, drop-cons text i 0)

  pub finished : length text ≤ i → WordsPut before 0 (numbers_in text) after count
  unfolding numbers_from
  finished end = subst (λ l. WordsPut before 0 l after count) (sym whole) so_far.put
    where
      whole : numbers_in text ≡ so_far.done
      whole = so_far.numbers ∙ ap (λ l. so_far.done ++ numbers_from place l) (drop_of_length-le text end)
          ∙ append-nil so_far.done
