-- The words of a line, the length that one of them names, and the numbers that some of them spell; the lines of a text.
use Rattle.std.specs.Prelude.{◌≡◌, Option, Some, None, List, ℕ, zero, suc, ◌+◌, ◌<◌, min, length, get_or}
use Rattle.answers.specs.Numbers.{read_number}
use Rattle.answers.specs.Parts.{up_to, past}

-- word n of a text, counted from 0: words are parted by single spaces, 32
unfoldable pub word_of : ℕ → List ℕ → List ℕ
word_of zero text = up_to 32 text
word_of (suc n) text = word_of n (past 32 text)

-- what stands behind the first so many lines, which byte 10 ends
unfoldable pub behind_lines : ℕ → List ℕ → List ℕ
behind_lines zero text = text
behind_lines (suc count) text = behind_lines count (past 10 text)

-- a length that is named, at most that of the longest sheet, which it is where no number is read
unfoldable pub length_of : Option ℕ → ℕ
length_of (Some n) = min n 52240
length_of None = 52240

-- the first `count` numbers of a buffer are those that the words from word `first` on spell, as many as one word after
-- the other spells a number, or as the buffer holds
pub record NumbersFrom (line : List ℕ) (first : ℕ) (numbers : List ℕ) (count : ℕ) : Type 0 where
  pub spelled : (i : ℕ) → i < count → read_number (word_of (first + i) line) ≡ Some (get_or numbers i 0)
  pub end : count < length numbers → read_number (word_of (first + count) line) ≡ None
