-- Bytes from words, low byte first: what is written is read back, from the head and from behind a part that is left
-- out.
-- Assumes nothing.
use mathlib.Core.Path.{◌≡◌, refl, sym, ◌∙◌, ap}
use mathlib.Core.List.{List, [], ◌∷◌, ◌++◌}
use Prim.Native.Nat.{ℕ, zero, suc, ◌+◌, ◌*◌, ◌/◌, ◌%◌, ◌<◌}
use native.Mathlib.Omega.{arith}
use lib.ListN.{length, get_or, drop}
use lib.Seq.{get_or-drop}
use Rattle.terms.specs.Words.{word_at, bytes_of}
use Rattle.terms.specs.Lists.{AllBelow, listed}

-- the words f 0, f 1 and so on, n of them
abbrev pub written : (ℕ → ℕ) → ℕ → List ℕ
written f n = bytes_of (listed f n)

pub written_length : (f : ℕ → ℕ) (n : ℕ) → length (written f n) ≡ 2 * n
unfolding bytes_of listed
written_length f zero = refl
written_length f (suc n) = omega (arith, written_length (λ i. f (suc i)) n)

pub written_bytes : (f : ℕ → ℕ) (n : ℕ) → ((i : ℕ) → i < n → f i < 65536) → AllBelow 256 (written f n)
unfolding bytes_of listed
written_bytes f zero h = tt
written_bytes f (suc n) h =
    let w = h 0 (omega arith) in
    (omega arith, (omega arith, written_bytes (λ i. f (suc i)) n (λ i k. h (suc i) (omega arith))))

word_next : (x y : ℕ) (l : List ℕ) (i : ℕ) → word_at (x ∷ y ∷ l) (suc i) ≡ word_at l i
unfolding word_at
word_next x y l i = λ j. get_or (x ∷ y ∷ l) (low j) 0 + 256 * get_or (x ∷ y ∷ l) (high j) 0
  where
    low : 2 * suc i ≡ suc (suc (2 * i))
    low = omega arith

    high : 2 * suc i + 1 ≡ suc (suc (2 * i + 1))
    high = omega arith

pub word_written : (f : ℕ → ℕ) (n i : ℕ) → i < n → word_at (written f n) i ≡ f i
unfolding bytes_of listed word_at
word_written f zero i h = absurd (omega arith)
word_written f (suc n) zero h = omega arith
word_written f (suc n) (suc i) h = word_next (f 0 % 256) (f 0 / 256) (written (λ k. f (suc k)) n) i ∙ word_written (λ k. f (suc k)) n i (omega arith)

-- bytes of which each word is known are the bytes of these words
pub written_only : (f : ℕ → ℕ) (n : ℕ) (l : List ℕ) → AllBelow 256 l → length l ≡ 2 * n
    → ((i : ℕ) → i < n → word_at l i ≡ f i) → l ≡ written f n
unfolding bytes_of listed word_at
written_only f zero [] b e h = refl
written_only f zero (x ∷ l) b e h = absurd (omega arith)
written_only f (suc n) [] b e h = absurd (omega arith)
written_only f (suc n) (x ∷ []) b e h = absurd (omega arith)
written_only f (suc n) (x ∷ y ∷ l) b e h =
    let w : x + 256 * y ≡ f 0 = h 0 (omega arith) in
    let low : x ≡ f 0 % 256 = omega (arith, b.0) in
    let high : y ≡ f 0 / 256 = omega (arith, b.0) in
    let words : (i : ℕ) → i < n → word_at l i ≡ f (suc i) = λ i k. sym (word_next x y l i) ∙ h (suc i) (omega arith) in
    let rest : l ≡ written (λ i. f (suc i)) n = written_only (λ i. f (suc i)) n l b.1.1 (omega arith) words in
    λ i. low i ∷ high i ∷ rest i

-- the words behind the first m
pub word-drop : (l : List ℕ) (k m i : ℕ) → k ≡ 2 * m → word_at (drop k l) i ≡ word_at l (m + i)
unfolding word_at
word-drop l k m i e =
    λ j. (get_or-drop k l (2 * i) 0 ∙ ap (λ p. get_or l p 0) low) j + 256 * (get_or-drop k l (2 * i + 1) 0 ∙ ap (λ p. get_or l p 0) high) j
  where
    low : k + 2 * i ≡ 2 * (m + i)
    low = omega arith

    high : k + (2 * i + 1) ≡ 2 * (m + i) + 1
    high = omega arith

-- one more word
pub written_next : (f : ℕ → ℕ) (i : ℕ) → written f (suc i) ≡ written f i ++ (f i % 256 ∷ f i / 256 ∷ [])
unfolding bytes_of listed
written_next f zero = refl
written_next f (suc i) = ap (λ l. f 0 % 256 ∷ f 0 / 256 ∷ l) (written_next (λ k. f (suc k)) i)
