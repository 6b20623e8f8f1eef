-- The numbers of a line, read one by one.
-- Assumes nothing.
use mathlib.Core.Path.{◌≡◌, sym, ◌∙◌, ap}
use mathlib.Core.List.{List}
use Prim.Native.Nat.{ℕ, ◌+◌, ◌≤◌, ◌<◌}
use native.Mathlib.Decide.{ℕ_discrete}
use native.Mathlib.Omega.{arith}
use lib.ListN.{length, get_or, set, length-set}
use Rattle.std.specs.Prelude.{Some, None}
use lib.Seq.{get_or-set_same, get_or-set_other, length-take-le}
use Rattle.answers.specs.Counts.{IsPrefixLen}
use Rattle.answers.specs.Numbers.{read_number}
use Rattle.samples.specs.Text.{word_of, NumbersFrom}

-- so many numbers are read
pub record NumbersSoFar (line : List ℕ) (first : ℕ) (numbers : List ℕ) (count : ℕ) : Type 0 where
  pub within : count ≤ length numbers
  pub spelled : (i : ℕ) → i < count → read_number (word_of (first + i) line) ≡ Some (get_or numbers i 0)

pub no_numbers : (line : List ℕ) (first : ℕ) (numbers : List ℕ) → NumbersSoFar line first numbers 0
no_numbers line first numbers = record { within = omega arith; spelled = λ i h. absurd (omega arith) }

module _ {line : List ℕ} {first : ℕ} {numbers : List ℕ} {count : ℕ}
    (so_far : NumbersSoFar line first numbers count) where
  pub next_number : {number : ℕ} → count < length numbers → read_number (word_of (first + count) line) ≡ Some number
      → NumbersSoFar line first (set numbers count number) (count + 1)
  next_number {number} room read = record {
    within = omega (arith, length-set numbers count number);
    spelled = λ i h. at i h (ℕ_discrete i count);
  }
    where
      at : (i : ℕ) → i < count + 1 → Dec (i ≡ count)
          → read_number (word_of (first + i) line) ≡ Some (get_or (set numbers count number) i 0)
      at i h (yes e) = rw (e, get_or-set_same numbers count number 0 room) read
      at i h (no e) = so_far.spelled i (omega arith) ∙ ap Some (sym (get_or-set_other numbers count i number 0 e))

  -- no number is left, or no room
  pub numbers_read : (count < length numbers → read_number (word_of (first + count) line) ≡ None)
      → NumbersFrom line first numbers count × IsPrefixLen count numbers
  numbers_read end = (
    record { spelled = so_far.spelled; end = end },
    (so_far.within, sym (length-take-le count numbers so_far.within)),
  )
