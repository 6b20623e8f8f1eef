-- The words that the writer writes: what they are part by part, that they are those of the sheet that is left, and that
-- a good sheet and the numbers of its lines are fit for the writer.
-- Assumes nothing.
use mathlib.Core.Path.{◌≡◌, refl, sym, ◌∙◌, ap, subst}
use mathlib.Core.List.{List, [], ◌∷◌, ◌++◌}
use Prim.Native.Nat.{ℕ, zero, suc, ◌+◌, ◌-◌, ◌*◌, ◌/◌, ◌%◌, ◌≤◌, ◌<◌}
use native.Mathlib.Decide.{dec_lt}
use native.Mathlib.Omega.{arith}
use lib.ListN.{length, get_or, take, length-append}
use lib.Seq.{length-take-le, get_or-take}
use borrow.Author.Tests.{lt-ltb, le-ltb}
use Rattle.terms.specs.Words.{word_at}
use Rattle.terms.specs.Buffers.{over}
use Rattle.rules.specs.RuleTable.{premise_count}
use Rattle.sheets.specs.declared.layout.Trailer.{Trailer}
use Rattle.sheets.specs.Layout.{lines_in, edition_of}
use Rattle.sheets.specs.Lines.{line_word, premises_of, line_at}
use Rattle.sheets.specs.Good.{Good}
use Rattle.sheets.specs.GoodLayout.{trailer_for}
use Rattle.sheets.specs.Accepted.{Bytes}
use Rattle.sheets.specs.Withdrawal.{lines_start}
use Rattle.sheets.specs.LineSets.{Rises, Stays, count_below, new_number, old_number}
use Rattle.sheets.specs.Numbering.{Numbering}
use Rattle.sheets.specs.WithdrawalSet.{without_lines, AllLines}
use Rattle.sheets.specs.SetOutput.{LinesAway}
use Rattle.sheets.specs.KeptWords.{word_of_trailer, start_of, end_of, renumbered, renumbered_word, kept_line_word}
use Rattle.sheets.specs.KeptWords.{kept_word, SmallTrailer, LineKept, KeptLines}
use Rattle.sheets.proofs.LineLaws.{premise_word}
use Rattle.sheets.proofs.WrittenLaws.{written, written_length, written_only}
use Rattle.sheets.proofs.FillingLaws.{tail_of, with_tail, over_tail, Filling, filling_part, written_append}
use Rattle.sheets.proofs.LinesWithout.{lines_away}
use Rattle.sheets.proofs.LineSetLaws.{count_within, new_within, old_stays, new_old, old_within}
use Rattle.sheets.proofs.LinesAwayLaws.{words_only, left_of_words, line_place, each_word}
use Rattle.sheets.proofs.LinesAwayLaws.{WordsLeft, sheet_words, same_word}

-- the words of the new sheet, part by part
module _ (b : List ℕ) (t : Trailer) (below kept : List ℕ) (i : ℕ) where
  kept_head : i < start_of t → kept_word b t below kept i ≡ word_at b i
  unfolding kept_word
  kept_head h = rw (lt-ltb i (start_of t) h, kept_word)

  kept_line : start_of t ≤ i → i < end_of t
      → kept_word b t below kept i ≡ kept_line_word b (start_of t) below kept (i - start_of t)
  unfolding kept_word
  kept_line h k = rw (le-ltb i (start_of t) h, lt-ltb i (end_of t) k, kept_word)

  kept_trailer : start_of t ≤ i → end_of t ≤ i → kept_word b t below kept i ≡ word_of_trailer t (i - end_of t)
  unfolding kept_word
  kept_trailer h k = rw (le-ltb i (start_of t) h, le-ltb i (end_of t) k, kept_word)

-- a list of bytes, and the words of its beginning
pub all_bytes : (l : List ℕ) → ((i : ℕ) → get_or l i 0 < 256) → Bytes l
all_bytes [] h = tt
all_bytes (x ∷ l) h = (h 0, all_bytes l (λ i. h (suc i)))

take_bytes : (n : ℕ) (l : List ℕ) → Bytes l → Bytes (take n l)
take_bytes zero l h = tt
take_bytes (suc n) [] h = tt
take_bytes (suc n) (x ∷ l) h = (h.0, take_bytes n l h.1)

word-take : (n : ℕ) (l : List ℕ) (i : ℕ) → i < n → word_at (take (2 * n) l) i ≡ word_at l i
unfolding word_at
word-take n l i h = λ k. low k + 256 * high k
  where
    low : get_or (take (2 * n) l) (2 * i) 0 ≡ get_or l (2 * i) 0
    low = get_or-take (2 * n) l (2 * i) 0 (omega arith)

    high : get_or (take (2 * n) l) (2 * i + 1) 0 ≡ get_or l (2 * i + 1) 0
    high = get_or-take (2 * n) l (2 * i + 1) 0 (omega arith)

-- the parts of the new sheet, one behind the other
module _ (b : List ℕ) (t : Trailer) (below kept : List ℕ) (known : (i : ℕ) → get_or b i 0 < 256)
    (long : 2 * start_of t ≤ length b) where
  abbrev tables : List ℕ
  tables = take (2 * start_of t) b

  abbrev lines : List ℕ
  lines = written (kept_line_word b (start_of t) below kept) (10 * t.lines)

  abbrev trailer : List ℕ
  trailer = written (word_of_trailer t) 8

  to_lines_lem : length tables ≡ 2 * start_of t
  to_lines_lem = length-take-le (2 * start_of t) b long

  to_trailer : length (tables ++ lines) ≡ 2 * end_of t
  to_trailer =
      omega (
        arith,
        length-append tables lines,
        to_lines_lem,
        written_length (kept_line_word b (start_of t) below kept) (10 * t.lines),
      )

  kept_tables : written (kept_word b t below kept) (start_of t) ≡ tables
  kept_tables =
      sym
      (written_only (kept_word b t below kept) (start_of t) tables (take_bytes (2 * start_of t) b (all_bytes b known))
      to_lines_lem (λ i h. word-take (start_of t) b i h ∙ sym (kept_head b t below kept i h)))

  kept_parts : written (kept_word b t below kept) (end_of t + 8) ≡ tables ++ lines ++ trailer
  kept_parts =
      written_append (kept_word b t below kept) (word_of_trailer t) (end_of t) 8 at_trailer
      ∙ ap (λ l. l ++ trailer)
      (written_append (kept_word b t below kept) (kept_line_word b (start_of t) below kept) (start_of t) (10 * t.lines)
      at_lines ∙ ap (λ l. l ++ lines) kept_tables)
    where
      at_trailer : (j : ℕ) → j < 8 → kept_word b t below kept (end_of t + j) ≡ word_of_trailer t j
      at_trailer j h =
          kept_trailer b t below kept (end_of t + j) (omega arith) (omega arith) ∙ ap (word_of_trailer t) (omega arith)

      at_lines : (j : ℕ) → j < 10 * t.lines
          → kept_word b t below kept (start_of t + j) ≡ kept_line_word b (start_of t) below kept j
      at_lines j h =
          kept_line b t below kept (start_of t + j) (omega arith) (omega arith)
          ∙ ap (kept_line_word b (start_of t) below kept) (omega arith)

  -- each written to the tail behind those before
  pub parts_written : (before copied first second : List ℕ) → copied ≡ over tables before
      → first ≡ over lines (tail_of (2 * start_of t) copied)
      → second ≡ over trailer (tail_of (2 * end_of t) (with_tail (2 * start_of t) copied first))
      → with_tail (2 * end_of t) (with_tail (2 * start_of t) copied first) second
      ≡ over (written (kept_word b t below kept) (end_of t + 8)) before
  parts_written before copied first second one two three =
      over_tail (tables ++ lines) before (2 * end_of t) to_trailer (with_tail (2 * start_of t) copied first) second trailer
      (over_tail tables before (2 * start_of t) to_lines_lem copied first lines one two) three
      ∙ ap (λ l. over l before) (sym kept_parts)

-- the words of a line: fields stay, premises are lowered
module _ (below : List ℕ) (j w : ℕ) where
  renumbered-field : j < 6 → renumbered below j w ≡ w
  unfolding renumbered
  renumbered-field h = rw (lt-ltb j 6 h, renumbered)

  renumbered_premise : 6 ≤ j → renumbered below j w ≡ w - get_or below w 0
  unfolding renumbered
  renumbered_premise h = rw (le-ltb j 6 h, renumbered)

-- the words of the lines that stay, line by line
in_line : (b : List ℕ) (start : ℕ) (below kept : List ℕ) (m j : ℕ) → j < 10
    → kept_line_word b start below kept (10 * m + j) ≡ renumbered_word b start below (get_or kept m 0) j
unfolding kept_line_word
in_line b start below kept m j h = λ i. renumbered_word b start below (get_or kept (line i) 0) (word i)
  where
    line : (10 * m + j) / 10 ≡ m
    line = omega arith

    word : (10 * m + j) % 10 ≡ j
    word = omega arith

-- the lines that stay are written, each to the tail behind those before
module _ (b : List ℕ) (start : ℕ) (below kept : List ℕ) where
  abbrev words : ℕ → ℕ
  words = kept_line_word b start below kept

  line_behind : (m : ℕ) → written words (10 * suc m)
      ≡ written words (10 * m) ++ written (renumbered_word b start below (get_or kept m 0)) 10
  line_behind m =
      ap (written words) more
      ∙ written_append words (renumbered_word b start below (get_or kept m 0)) (10 * m) 10 (in_line b start below kept m)
    where
      more : 10 * suc m ≡ 10 * m + 10
      more = omega arith

  abbrev pub LinesFilling : ℕ → List ℕ → List ℕ → ℕ → Type 0
  LinesFilling = Filling (λ m. written words (10 * m))

  pub filling_line : {left m : ℕ} {before out tail : List ℕ} → 20 * left ≤ length before
      → LinesFilling left before out m → m < left
      → tail ≡ over (written (renumbered_word b start below (get_or kept m 0)) 10) (tail_of (20 * m) out)
      → LinesFilling left before (with_tail (20 * m) out tail) (m + 1)
  filling_line {left} {m} room at h done =
      let line = renumbered_word b start below (get_or kept m 0) in
      filling_part _ _ _ at (20 * m) (written line 10) h (omega (arith, written_length words (10 * m)))
      (omega (arith, written_length line 10)) (line_behind m) done

-- word j of line k, where w is the old word: its two ways
module _ (b : List ℕ) (start : ℕ) (below : List ℕ) (k j : ℕ) {w : ℕ} (read : w ≡ word_at b (start + (10 * k + j))) where
  pub line_field : j < 6 → w ≡ renumbered_word b start below k j
  unfolding renumbered_word
  line_field h = read ∙ sym (renumbered-field below j _ h)

  pub line_premise : 6 ≤ j → w - get_or below w 0 ≡ renumbered_word b start below k j
  unfolding renumbered_word
  line_premise h = sym (ap (renumbered below j) (sym read) ∙ renumbered_premise below j w h)

-- the premises of a good sheet's lines are earlier lines, or 0 where they are unused
module _ {b : List ℕ} {T C L : ℕ} (g : Good b T C L) where
  premise_earlier : (k j : ℕ) → k < L → 6 ≤ j → j < 10 → word_at b (lines_start T C + (10 * k + j)) ≤ k
  unfolding line_at
  premise_earlier k j h low high =
      subst (λ w. w ≤ k) (sym premise ∙ line_place b T C k j)
      (at (dec_lt (j - 6) (premise_count (line_at b T C k).rule)))
    where
      behind : j ≡ 6 + (j - 6)
      behind = omega arith

      premise : line_word (lines_in b T C) k j ≡ get_or (premises_of (line_at b T C k)) (j - 6) 0
      premise =
          ap (line_word (lines_in b T C) k) behind
          ∙ premise_word (edition_of b) (lines_in b T C) k (j - 6) (omega arith)

      at : Dec (j - 6 < premise_count (line_at b T C k).rule) → get_or (premises_of (line_at b T C k)) (j - 6) 0 ≤ k
      at (yes used) = omega (arith, (g.lines k h).ok.earlier (j - 6) (omega arith) used)
      at (no unused) = omega (arith, (g.lines k h).ok.unused_premise (j - 6) (omega arith) (omega arith))

  -- a set of its lines, with the numbers that lines have once these are away
  module _ {set below kept : List ℕ} (rising : Rises set) (all : AllLines L set)
      (numbers : Numbering set L below kept) where
    abbrev left : Trailer
    left = trailer_for (edition_of b) T C (L - length set)

    small_trailer : SmallTrailer left
    unfolding trailer_for word_of_trailer
    small_trailer =
        let laid = g.tables.laid in
        record {
          terms = laid.few_terms;
          contexts = laid.few_contexts;
          lines = omega (arith, laid);
          words =
              each_word (λ j. word_of_trailer left j < 65536) (omega (arith, laid)) (omega (arith, laid))
              (omega (arith, laid)) (omega (arith, laid.edition)) (omega (arith, laid)) (omega (arith, laid))
              (omega (arith, laid)) (omega arith);
        }

    -- below each premise are as many listed lines as the array says
    premise_counted : (k j : ℕ) → k < L → 6 ≤ j → j < 10
        → get_or below (word_at b (lines_start T C + (10 * k + j))) 0
        ≡ count_below set (word_at b (lines_start T C + (10 * k + j)))
    premise_counted k j h low high = numbers.counts _ (omega (arith, premise_earlier k j h low high))

    -- the array gives each line that stays its old number
    number_kept : (k m : ℕ) → k < L → Stays set k → m ≡ new_number set k → get_or kept m 0 ≡ k
    number_kept k m within stays e = ap (λ n. get_or kept n 0) e ∙ numbers.numbers k within stays

    kept_within : (m : ℕ) → m < L - length set → get_or kept m 0 < L
    kept_within m h =
        let within = old_within set L rising all m h in
        omega (arith, number_kept (old_number set m) m within (old_stays set rising m) (sym (new_old set rising m)))

    line_kept : (m : ℕ) → m < L - length set → LineKept b (lines_start T C) below (get_or kept m 0)
    line_kept m h =
        let laid = g.tables.laid in
        let within = kept_within m h in
        record {
          line = omega (arith, laid);
          within = omega (arith, laid);
          premises = λ j low high. omega (arith, laid, premise_earlier _ j within low high);
          lowered = λ j low high.
              let w = word_at b (lines_start T C + (10 * get_or kept m 0 + j)) in
              omega (arith, premise_counted _ j within low high, count_within set rising w);
        }

    -- what the writer asks
    pub kept_lines : SmallTrailer left × (2 * start_of left ≤ length b) × KeptLines b left below kept
    unfolding trailer_for
    kept_lines = (small_trailer, omega (arith, g.tables.laid.long), line_kept)

    kept_words : WordsLeft b T C L set (kept_word b left below kept)
    unfolding trailer_for
    kept_words =
        record {
          tables = kept_head b left below kept;
          fields = λ k j within stays h.
              at_line k j within stays (omega arith) ∙ sym (line_field b (lines_start T C) below k j refl h);
          premises = λ k j within stays low high.
              at_line k j within stays high ∙ sym (line_premise b (lines_start T C) below k j refl low)
              ∙ ap (λ c. word_at b (lines_start T C + (10 * k + j)) - c) (premise_counted k j within low high);
          trailer = λ j h.
              kept_trailer b left below kept (lines_start T C + 10 * (L - length set) + j) (omega arith) (omega arith)
              ∙ ap (word_of_trailer left) (omega arith);
        }
      where
        place : ℕ → ℕ → ℕ
        place k j = 10 * new_number set k + j

        at_line : (k j : ℕ) → k < L → Stays set k → j < 10
            → kept_word b left below kept (lines_start T C + place k j) ≡ renumbered_word b (lines_start T C) below k j
        at_line k j within stays h =
            kept_line b left below kept (lines_start T C + place k j) (omega arith)
            (omega (arith, new_within set L rising all k stays within))
            ∙ ap (kept_line_word b (lines_start T C) below kept) (omega arith)
            ∙ in_line b (lines_start T C) below kept (new_number set k) j h
            ∙ ap (λ n. renumbered_word b (lines_start T C) below n j) (numbers.numbers k within stays)

    -- what the writer writes is the sheet that is left
    away_words : {new : List ℕ} → LinesAway b new T C L set
        → (i : ℕ) → i < end_of left + 8 → word_at new i ≡ kept_word b left below kept i
    unfolding trailer_for
    away_words away = same_word rising all (sheet_words away) kept_words

    -- where the old sheet has bytes
    pub kept_written : ((i : ℕ) → get_or b i 0 < 256)
        → without_lines b set ≡ written (kept_word b left below kept) (end_of left + 8)
    unfolding trailer_for
    kept_written known =
        let away = lines_away b T C L g.tables.laid set rising all in
        words_only (without_lines b set) (left_of_words g.tables.laid (all_bytes b known) set)
        (kept_word b left below kept) (end_of left + 8) (omega (arith, away.laid.long)) (away_words away)
