-- A list of judgments: its lines one by one, the five numbers of a line, and the words of the judgments that are read.
-- Assumes nothing.
use mathlib.Core.Path.{◌≡◌, refl, sym, ◌∙◌, ap}
use mathlib.Core.Bool.{Bool, true, false, cond}
use mathlib.Core.List.{List, [], ◌∷◌, ◌++◌, append-nil}
use Prim.Native.Nat.{ℕ, suc, ◌+◌, ◌-◌, ◌*◌, ◌≤◌, ◌<◌}
use native.Mathlib.Omega.{arith}
use lib.Dec.{eqb}
use lib.ListN.{length, take, drop, length-append}
use lib.Seq.{take-nil, append_snoc, take_at, drop_at, drop-drop}
use borrow.Author.Tests.{eq-eqb, ne_eqb}
use Rattle.std.specs.Prelude.{Option, Some, None, Result, Ok, Err}
use Rattle.answers.specs.declared.listing.ListError.{ListError}
use Rattle.answers.specs.declared.listing.ListError.TheVariants.{Unreadable, TooMany}
use Rattle.sheets.specs.declared.finding.Wanted.{Wanted}
use Rattle.answers.specs.Parts.{up_to, past}
use Rattle.answers.specs.Listing.{start_with, lines_of, request_in, before, judgments_in, judgments_of}
use Rattle.answers.specs.Listing.{numbers_of, numbers_after, listing_of, InRoom}

-- a text that is not empty has a first line, and others behind its end
pub first_line : (text : List ℕ) → 0 < length text → lines_of text ≡ up_to 10 text ∷ lines_of (past 10 text)
unfolding lines_of start_with up_to past
first_line [] h = absurd (omega arith)
first_line (byte ∷ text) h = pick (eqb byte 10) (goes_on text (first_line text))
  where
    goes_on : (l : List ℕ) → (0 < length l → lines_of l ≡ up_to 10 l ∷ lines_of (past 10 l))
        → start_with byte (lines_of l) ≡ (byte ∷ up_to 10 l) ∷ lines_of (past 10 l)
    goes_on [] rest = refl
    goes_on (b ∷ l) rest = ap (start_with byte) (rest (omega arith))

    pick : (same : Bool) → start_with byte (lines_of text) ≡ (byte ∷ up_to 10 text) ∷ lines_of (past 10 text)
        → cond same ([] ∷ lines_of text) (start_with byte (lines_of text))
        ≡ cond same [] (byte ∷ up_to 10 text) ∷ lines_of (cond same text (past 10 text))
    pick true rest = refl
    pick false rest = rest

-- five words a judgment
pub words_long : (ws : List Wanted) → length (numbers_of ws) ≡ 5 * length ws
unfolding numbers_of
words_long [] = refl
words_long (w ∷ ws) = omega (arith, words_long ws)

numbers_append : (a b : List Wanted) → numbers_of (a ++ b) ≡ numbers_of a ++ numbers_of b
unfolding numbers_of
numbers_append [] b = refl
numbers_append (w ∷ a) b = ap (λ l. w.form ∷ w.context ∷ w.s1 ∷ w.s2 ∷ w.s3 ∷ l) (numbers_append a b)

empty : (l : List ℕ) → length l ≡ 0 → l ≡ []
empty [] e = refl
empty (byte ∷ l) e = absurd (omega arith)

-- so many lines are read, up to the rest of the text, and their words are put
pub record ListSoFar (text buffer numbers : List ℕ) (count : ℕ) (rest : List ℕ) : Type 0 where
  pub room : count ≤ 1024
  pub read : List Wanted
  pub many : length read ≡ count
  pub judgments : judgments_of text ≡ read ++ judgments_in (take (1024 - count) (lines_of rest))
  pub lines : length (lines_of text) ≡ count + length (lines_of rest)
  pub put : numbers ≡ numbers_of read ++ drop (5 * count) buffer

pub no_lines : (text buffer : List ℕ) → ListSoFar text buffer buffer 0 text
unfolding judgments_of numbers_of
no_lines text buffer = record {
  room = omega arith;
  read = [];
  many = refl;
  judgments = refl;
  lines = omega arith;
  put = refl;
}

-- what `read_list` ensures
abbrev IsListing : List ℕ → List ℕ → List ℕ → Result ℕ ListError → Type 0
IsListing text buffer numbers listing =
    (listing ≡ listing_of text) × ((numbers ≡ numbers_after text buffer) × InRoom (length numbers) listing)

module _ {text buffer numbers : List ℕ} {count : ℕ} {rest : List ℕ} (so_far : ListSoFar text buffer numbers count rest) where
  read_long : length (numbers_of so_far.read) ≡ 5 * count
  read_long = omega (arith, words_long so_far.read, so_far.many)

  pub words_fit : 5 * count ≤ length numbers
  words_fit =
      omega (
        arith,
        ap length so_far.put,
        length-append (numbers_of so_far.read) (drop (5 * count) buffer),
        read_long,
      )

  -- no more judgments are read
  module _ (none : judgments_in (take (1024 - count) (lines_of rest)) ≡ []) where
    read_all : judgments_of text ≡ so_far.read
    read_all = so_far.judgments ∙ ap (λ l. so_far.read ++ l) none ∙ append-nil so_far.read

    how_many : length (judgments_of text) ≡ count
    how_many = ap length read_all ∙ so_far.many

    words_put : numbers ≡ numbers_after text buffer
    unfolding numbers_after
    words_put =
        so_far.put ∙ ap (λ n. numbers_of so_far.read ++ drop n buffer) (sym read_long)
        ∙ ap (λ ws. numbers_of ws ++ drop (length (numbers_of ws)) buffer) (sym read_all)

  pub list_read : length rest ≡ 0 → IsListing text buffer numbers (Ok count)
  unfolding listing_of lines_of judgments_in
  list_read end = (
    rw (how_many none, eq-eqb count (length (lines_of text)) (omega (arith, so_far.lines, ap length no_more))),
    (words_put none, (so_far.room, words_fit)),
  )
    where
      no_more : lines_of rest ≡ []
      no_more = ap lines_of (empty rest end)

      none : judgments_in (take (1024 - count) (lines_of rest)) ≡ []
      none = ap (λ l. judgments_in (take (1024 - count) l)) no_more ∙ ap judgments_in (take-nil (1024 - count))

  module _ (some : length rest ≡ 0 → ⊥) where
    next_line : lines_of rest ≡ up_to 10 rest ∷ lines_of (past 10 rest)
    next_line = first_line rest (omega arith)

    more : count < length (lines_of text)
    more = omega (arith, so_far.lines, ap length next_line)

    pub too_many : count ≡ 1024 → IsListing text buffer numbers (Err TooMany)
    unfolding listing_of judgments_in
    too_many full = (
      rw (
        how_many none,
        ne_eqb count (length (lines_of text)) (λ e. omega (arith, more, e)),
        eq-eqb count 1024 full,
      ),
      (words_put none, tt),
    )
      where
        no_room_lem : 1024 - count ≡ 0
        no_room_lem = omega arith

        none : judgments_in (take (1024 - count) (lines_of rest)) ≡ []
        none = ap (λ n. judgments_in (take n (lines_of rest))) no_room_lem

    module _ (space : count ≡ 1024 → ⊥) {line : List ℕ} (cut : line ≡ up_to 10 rest) {request : Option Wanted}
        (is : request ≡ request_in line) where
      left : 1024 - count ≡ suc (1024 - (count + 1))
      left = omega (arith, so_far.room, space)

      requested : request_in (up_to 10 rest) ≡ request
      requested = sym (is ∙ ap request_in cut)

      one_more_lem : judgments_in (take (1024 - count) (lines_of rest))
          ≡ before request (judgments_in (take (1024 - (count + 1)) (lines_of (past 10 rest))))
      unfolding judgments_in
      one_more_lem =
          (λ i. judgments_in (take (left i) (next_line i)))
          ∙ ap (λ r. before r (judgments_in (take (1024 - (count + 1)) (lines_of (past 10 rest))))) requested

      pub no_judgment_lem : request ≡ None → IsListing text buffer numbers (Err Unreadable)
      unfolding listing_of before
      no_judgment_lem e = (
        rw (
          how_many none,
          ne_eqb count (length (lines_of text)) (λ same. omega (arith, more, same)),
          ne_eqb count 1024 space,
        ),
        (words_put none, tt),
      )
        where
          none : judgments_in (take (1024 - count) (lines_of rest)) ≡ []
          none =
              one_more_lem
              ∙ ap (λ r. before r (judgments_in (take (1024 - (count + 1)) (lines_of (past 10 rest))))) e

      pub line_read : {w : Wanted} {after next : List ℕ} → request ≡ Some w
          → after ≡ (take (5 * count) numbers ++ numbers_of (w ∷ [])) ++ drop (5 * count + 5) numbers → next ≡ past 10 rest
          → ListSoFar text buffer after (count + 1) next
      unfolding before
      line_read {w} {after} {next} e put goes = record {
        room = omega (arith, left);
        read = so_far.read ++ w ∷ [];
        many = omega (arith, length-append so_far.read (w ∷ []), so_far.many);
        judgments =
            so_far.judgments ∙ ap (λ l. so_far.read ++ l) (one_more_lem ∙ ap (λ r. before r others) e)
            ∙ sym (append_snoc so_far.read w others)
            ∙ ap (λ l. (so_far.read ++ w ∷ []) ++ judgments_in (take (1024 - (count + 1)) (lines_of l))) (sym goes);
        lines = omega (arith, so_far.lines, ap length next_line, ap (λ l. length (lines_of l)) goes);
        put =
            put ∙ ap (λ l. (take (5 * count) l ++ numbers_of (w ∷ [])) ++ drop (5 * count + 5) l) so_far.put
            ∙ (λ i. (before_it i ++ numbers_of (w ∷ [])) ++ behind_it i)
            ∙ ap (λ l. l ++ drop (5 * (count + 1)) buffer) (sym (numbers_append so_far.read (w ∷ [])));
      }
        where
          others : List Wanted
          others = judgments_in (take (1024 - (count + 1)) (lines_of (past 10 rest)))

          left_alone : List ℕ
          left_alone = drop (5 * count) buffer

          before_it : take (5 * count) (numbers_of so_far.read ++ left_alone) ≡ numbers_of so_far.read
          before_it = take_at (numbers_of so_far.read) left_alone (5 * count) read_long

          five : 5 * count + 5 ≡ 5 * (count + 1)
          five = omega arith

          behind_it : drop (5 * count + 5) (numbers_of so_far.read ++ left_alone) ≡ drop (5 * (count + 1)) buffer
          behind_it =
              sym (drop-drop 5 (5 * count) (numbers_of so_far.read ++ left_alone))
              ∙ ap (drop 5) (drop_at (numbers_of so_far.read) left_alone (5 * count) read_long)
              ∙ drop-drop 5 (5 * count) buffer ∙ ap (λ n. drop n buffer) five
