-- The words of a line, and the lines of a text, passed one by one.
-- Assumes nothing.
use mathlib.Core.Path.{◌≡◌, sym, ◌∙◌, ap}
use mathlib.Core.List.{List}
use Prim.Native.Nat.{ℕ, suc, ◌+◌, ◌-◌, ◌≤◌, ◌<◌, min}
use native.Mathlib.Omega.{arith}
use lib.ListN.{length, take, drop}
use lib.Seq.{length-take-le}
use Rattle.answers.specs.Counts.{IsPrefixLen}
use Rattle.answers.specs.Parts.{up_to}
use Rattle.answers.proofs.PartLaws.{part_is, rest_is}
use Rattle.samples.specs.Text.{word_of, behind_lines}

-- so many words are passed: word n of the line is one of those from a place on
pub record WordsPassed (line : List ℕ) (n start passed : ℕ) : Type 0 where
  pub few : passed ≤ n
  pub within : start ≤ length line
  pub word : word_of n line ≡ word_of (n - passed) (drop start line)

pub no_words_passed : (line : List ℕ) (n : ℕ) → WordsPassed line n 0 0
no_words_passed line n = record { few = omega arith; within = omega arith; word = ap (λ m. word_of m line) all }
  where
    all : n ≡ n - 0
    all = omega arith

module _ {line : List ℕ} {n start passed place : ℕ} (so_far : WordsPassed line n start passed)
    (is : place ≡ start + length (up_to 32 (drop start line))) where
  pub word_passes : {next : ℕ} → passed < n → next ≡ min (place + 1) (length line)
      → WordsPassed line n next (passed + 1)
  unfolding word_of
  word_passes {next} more e = record {
    few = omega arith;
    within = omega arith;
    word =
        so_far.word ∙ ap (λ m. word_of m (drop start line)) left
        ∙ ap (word_of (n - (passed + 1))) (sym (rest_is 32 line start is so_far.within e));
  }
    where
      left : n - passed ≡ suc (n - (passed + 1))
      left = omega arith

  -- the word that is reached
  pub word_is : n ≤ passed → take (place - start) (drop start line) ≡ word_of n line
  unfolding word_of
  word_is end = part_is 32 line start is ∙ sym (so_far.word ∙ ap (λ m. word_of m (drop start line)) none)
    where
      none : n - passed ≡ 0
      none = omega arith

-- so many lines are passed: what is to be passed stands from a place on
pub record LinesPassed (text : List ℕ) (from count place passed : ℕ) : Type 0 where
  pub few : passed ≤ count
  pub behind : from ≤ place
  pub within : place ≤ length text
  pub rest : behind_lines (count - passed) (drop place text) ≡ behind_lines count (drop from text)

pub no_lines_passed : (text : List ℕ) (from count : ℕ) → from ≤ length text → LinesPassed text from count from 0
no_lines_passed text from count h = record {
  few = omega arith;
  behind = omega arith;
  within = h;
  rest = ap (λ n. behind_lines n (drop from text)) all;
}
  where
    all : count - 0 ≡ count
    all = omega arith

module _ {text : List ℕ} {from count place passed : ℕ} (so_far : LinesPassed text from count place passed) where
  pub line_passes : {end next : ℕ} → end ≡ place + length (up_to 10 (drop place text)) → passed < count
      → next ≡ min (end + 1) (length text) → LinesPassed text from count next (passed + 1)
  unfolding behind_lines
  line_passes {end} {next} is more e = record {
    few = omega arith;
    behind = omega (arith, so_far.behind, so_far.within, is);
    within = omega arith;
    rest =
        ap (behind_lines (count - (passed + 1))) (rest_is 10 text place is so_far.within e)
        ∙ ap (λ n. behind_lines n (drop place text)) (sym left) ∙ so_far.rest;
  }
    where
      left : count - passed ≡ suc (count - (passed + 1))
      left = omega arith

  -- all are passed
  pub lines_passed : count ≤ passed
      → (drop place text ≡ behind_lines count (drop from text)) × ((from ≤ place) × IsPrefixLen place text)
  unfolding behind_lines
  lines_passed end = (
    sym (ap (λ n. behind_lines n (drop place text)) none) ∙ so_far.rest,
    (so_far.behind, (so_far.within, sym (length-take-le place text so_far.within))),
  )
    where
      none : count - passed ≡ 0
      none = omega arith
