-- The words of the sheet without listed lines, by the places of the old ones: they fix it.
-- Assumes nothing.
use mathlib.Core.Path.{◌≡◌, refl, sym, ◌∙◌, ap, subst}
use mathlib.Core.List.{List, [], ◌∷◌}
use Prim.Native.Nat.{ℕ, zero, suc, ◌+◌, ◌-◌, ◌*◌, ◌/◌, ◌%◌, ◌≤◌, ◌<◌}
use native.Mathlib.Decide.{dec_lt}
use native.Mathlib.Omega.{arith}
use lib.ListN.{length}
use Rattle.terms.specs.Words.{word_at, bytes_of}
use Rattle.terms.proofs.Shape.{each}
use Rattle.sheets.specs.Layout.{lines_in, trailer_word, trailer_of, edition_of}
use Rattle.sheets.specs.Lines.{line_word}
use Rattle.sheets.specs.GoodLayout.{trailer_for, LaidOut}
use Rattle.sheets.specs.Accepted.{Bytes}
use Rattle.sheets.specs.Withdrawal.{lines_start, sheet_without, without_line}
use Rattle.sheets.specs.LineSets.{Rises, Stays, new_number, old_number}
use Rattle.sheets.specs.WithdrawalSet.{without_lines, AllLines}
use Rattle.sheets.specs.SetOutput.{LinesAway}
use Rattle.sheets.specs.KeptWords.{word_of_trailer}
use Rattle.sheets.proofs.WrittenLaws.{written, written_length, word_written, word-drop, written_only}
use Rattle.sheets.proofs.SheetWithout.{listed_same}
use Rattle.sheets.proofs.LineSetLaws.{old_stays, new_old, old_within}

-- a list that consists of the bytes of its words, and so is fixed by them
abbrev pub OfWords : List ℕ → Type 0
OfWords l = (n : ℕ) × (l ≡ written (word_at l) n)

pub of_bytes : (l : List ℕ) (n : ℕ) → Bytes l → length l ≡ 2 * n → OfWords l
of_bytes l n bytes long = (n, written_only (word_at l) n l bytes long (λ i h. refl))

pub of_written : (f : ℕ → ℕ) (n : ℕ) → OfWords (written f n)
of_written f n = (n, ap bytes_of (listed_same f (word_at (written f n)) n (λ i h. sym (word_written f n i h))))

pub words_only : (l : List ℕ) → OfWords l → (f : ℕ → ℕ) (n : ℕ) → length l ≡ 2 * n
    → ((i : ℕ) → i < n → word_at l i ≡ f i) → l ≡ written f n
words_only l (m, e) f n long same =
    e ∙ ap (written (word_at l)) count ∙ ap bytes_of (listed_same (word_at l) f n same)
  where
    count : m ≡ n
    count = omega (arith, ap length e, written_length (word_at l) m)

-- the sheet without the listed lines does, if the old one has bytes
pub left_of_words : {b : List ℕ} {T C L : ℕ} → LaidOut b T C L → Bytes b → (set : List ℕ) → OfWords (without_lines b set)
unfolding without_lines without_line sheet_without
left_of_words {b} {T} {C} {L} laid bytes [] =
    of_bytes b (lines_start T C + 10 * L + 8) bytes (omega (arith, laid.long))
left_of_words laid bytes (n ∷ set) = of_written _ _

-- what holds of each part of a sheet holds of all words
pub by_part : (start L : ℕ) (P : ℕ → Type 0) → ((i : ℕ) → i < start → P i)
    → ((n j : ℕ) → n < L → j < 10 → P (start + (10 * n + j))) → ((j : ℕ) → P (start + 10 * L + j)) → (i : ℕ) → P i
by_part start L P tables lines trailer i = at (dec_lt i start) (dec_lt i (start + 10 * L))
  where
    at : Dec (i < start) → Dec (i < start + 10 * L) → P i
    at (yes l) d = tables i l
    at (no l) (yes m) =
        let n = (i - start) / 10 in
        let j = (i - start) % 10 in
        let e : start + (10 * n + j) ≡ i = omega arith in
        subst P e (lines n j (omega arith) (omega arith))
    at (no l) (no m) =
        let j = i - (start + 10 * L) in
        let e : start + 10 * L + j ≡ i = omega arith in
        subst P e (trailer j)

-- where the words of lines and of the trailer stand in a sheet
pub line_place : (s : List ℕ) (T C k j : ℕ) → line_word (lines_in s T C) k j ≡ word_at s (lines_start T C + (10 * k + j))
unfolding line_word lines_in
line_place s T C k j = word-drop s (10 * T + 4 * C) (lines_start T C) (10 * k + j) (omega arith)

pub trailer_place : (s : List ℕ) (T C L : ℕ) → LaidOut s T C L → (j : ℕ)
    → trailer_word s j ≡ word_at s (lines_start T C + 10 * L + j)
unfolding trailer_word
trailer_place s T C L laid j = word-drop s (length s - 16) (lines_start T C + 10 * L) j (omega (arith, laid.long))

-- a proof for each of the eight words of a trailer
pub each_word : (P : ℕ → Type 0) → P 0 → P 1 → P 2 → P 3 → P 4 → P 5 → P 6 → P 7 → (j : ℕ) → j < 8 → P j
each_word P p0 p1 p2 p3 p4 p5 p6 p7 zero h = p0
each_word P p0 p1 p2 p3 p4 p5 p6 p7 (suc j) h =
    each P 7 (((((((tt, p1), p2), p3), p4), p5), p6), p7) (suc j) (omega arith) (omega arith)

pub trailer_read : (s : List ℕ) (j : ℕ) → j < 8 → trailer_word s j ≡ word_of_trailer (trailer_of s) j
unfolding trailer_of word_of_trailer
trailer_read s =
    each_word (λ j. trailer_word s j ≡ word_of_trailer (trailer_of s) j) refl refl refl refl refl refl refl refl

-- the words of the sheet that is left, given by the places of the old ones
pub record WordsLeft (old : List ℕ) (T C L : ℕ) (set : List ℕ) (word : ℕ → ℕ) : Type 0 where
  pub tables : (i : ℕ) → i < lines_start T C → word i ≡ word_at old i
  pub fields : (k j : ℕ) → k < L → Stays set k → j < 6
      → word (lines_start T C + (10 * new_number set k + j)) ≡ word_at old (lines_start T C + (10 * k + j))
  pub premises : (k j : ℕ) → k < L → Stays set k → 6 ≤ j → j < 10
      → word (lines_start T C + (10 * new_number set k + j)) ≡ new_number set (word_at old (lines_start T C + (10 * k + j)))
  pub trailer : (j : ℕ) → j < 8
      → word (lines_start T C + 10 * (L - length set) + j)
      ≡ word_of_trailer (trailer_for (edition_of old) T C (L - length set)) j

pub sheet_words : {old new : List ℕ} {T C L : ℕ} {set : List ℕ} → LinesAway old new T C L set
    → WordsLeft old T C L set (word_at new)
sheet_words {old} {new} {T} {C} {L} {set} away =
    record {
      tables = away.tables;
      fields = λ k j within stays h.
          sym (line_place new T C (new_number set k) j) ∙ (away.lines k within stays).fields j h
          ∙ line_place old T C k j;
      premises = λ k j within stays low high.
          sym (line_place new T C (new_number set k) j) ∙ (away.lines k within stays).premises j low high
          ∙ ap (new_number set) (line_place old T C k j);
      trailer = λ j h.
          sym (trailer_place new T C (L - length set) away.laid j) ∙ trailer_read new j h
          ∙ ap (λ t. word_of_trailer t j) same_trailer;
    }
  where
    same_trailer : trailer_of new ≡ trailer_for (edition_of old) T C (L - length set)
    same_trailer = away.laid.trailer ∙ ap (λ e. trailer_for e T C (L - length set)) away.edition

-- they are all its words: each line that is left is an old one that stays
module _ {old : List ℕ} {T C L : ℕ} {set : List ℕ} (rising : Rises set) (all : AllLines L set) {v w : ℕ → ℕ}
    (x : WordsLeft old T C L set v) (y : WordsLeft old T C L set w) where
  abbrev Same : ℕ → Type 0
  Same i = v i ≡ w i

  in_line : (m j : ℕ) → m < L - length set → j < 10 → Same (lines_start T C + (10 * m + j))
  in_line m j h l = subst (λ n. Same (lines_start T C + (10 * n + j))) (new_old set rising m) (at (dec_lt j 6))
    where
      k : ℕ
      k = old_number set m

      within : k < L
      within = old_within set L rising all m h

      stays : Stays set k
      stays = old_stays set rising m

      at : Dec (j < 6) → Same (lines_start T C + (10 * new_number set k + j))
      at (yes f) = x.fields k j within stays f ∙ sym (y.fields k j within stays f)
      at (no f) = x.premises k j within stays (omega arith) l ∙ sym (y.premises k j within stays (omega arith) l)

  pub same_word : (i : ℕ) → i < lines_start T C + 10 * (L - length set) + 8 → Same i
  same_word =
      by_part (lines_start T C) (L - length set) (λ i. i < lines_start T C + 10 * (L - length set) + 8 → Same i)
      (λ i l _. x.tables i l ∙ sym (y.tables i l)) (λ m j h l _. in_line m j h l)
      (λ j h. x.trailer j (omega arith) ∙ sym (y.trailer j (omega arith)))

-- two sheets that are the old one without the listed lines are one
pub same_away : {old s t : List ℕ} {T C L : ℕ} {set : List ℕ} → Rises set → AllLines L set → OfWords s → OfWords t
    → LinesAway old s T C L set → LinesAway old t T C L set → s ≡ t
same_away {old} {s} {t} {T} {C} {L} {set} rising all words_s words_t a c = only s words_s a ∙ sym (only t words_t c)
  where
    count : ℕ
    count = lines_start T C + 10 * (L - length set) + 8

    only : (r : List ℕ) → OfWords r → LinesAway old r T C L set → r ≡ written (word_at t) count
    only r words x =
        words_only r words (word_at t) count (omega (arith, x.laid.long))
        (same_word rising all (sheet_words x) (sheet_words c))
