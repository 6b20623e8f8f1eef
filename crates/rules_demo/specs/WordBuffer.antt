-- Words in a buffer of bytes: 16 bits each, low byte first (document 01, "The sheet").
use Rattle.std.specs.Prelude.{◌≡◌, List, [], ◌∷◌, ◌++◌, ℕ, ◌+◌, ◌-◌, ◌*◌, ◌/◌, ◌%◌, ◌≤◌, length, take, drop}

-- the bytes of words
unfoldable pub bytes_of : List ℕ → List ℕ
bytes_of [] = []
bytes_of (word ∷ words) = word % 256 ∷ word / 256 % 256 ∷ bytes_of words

-- as many of the words as there is room for behind the first words of a buffer
abbrev pub fitting : List ℕ → ℕ → List ℕ → List ℕ
fitting buffer first words = take (length buffer / 2 - first) words

-- the words that there is room for stand behind the first words of a buffer, which makes so many in all; the other
-- bytes are as they were
pub record WordsPut (before : List ℕ) (first : ℕ) (words after : List ℕ) (all : ℕ) : Type 0 where
  pub count : all ≡ first + length (fitting before first words)
  pub room : 2 * all ≤ length after
  pub whole : length after ≡ length before
  pub text : take (2 * all) after ≡ take (2 * first) before ++ bytes_of (fitting before first words)
  pub rest : drop (2 * all) after ≡ drop (2 * all) before
