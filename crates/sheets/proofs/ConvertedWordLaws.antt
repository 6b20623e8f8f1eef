-- The words that the converter writes: what they are part by part, and that the lines of a copy are changed to them one
-- by one.
-- Assumes nothing.
use mathlib.Core.Path.{◌≡◌, refl, sym, ◌∙◌, ap, subst}
use mathlib.Core.Bool.{◌&&◌}
use mathlib.Core.List.{List}
use Prim.Native.Nat.{ℕ, suc, ◌+◌, ◌-◌, ◌*◌, ◌/◌, ◌%◌, ◌≤◌, ◌<◌}
use native.Mathlib.Decide.{ℕ_discrete}
use native.Mathlib.Omega.{arith}
use lib.Dec.{leb, ltb}
use lib.ListN.{length, get_or, take}
use lib.Seq.{take-length}
use borrow.Author.Tests.{lt-ltb, le-ltb, le-leb, eq-eqb, ne_eqb}
use Rattle.terms.specs.Words.{word_at}
use Rattle.terms.specs.Buffers.{over}
use Rattle.terms.proofs.Tests.{refutes, says_lt, says_le, ◌&◌}
use Rattle.sheets.specs.Withdrawal.{lines_start}
use Rattle.sheets.specs.Conversion.{new_edition, new_premise, citing_word, converted_word, sheet_converted}
use Rattle.sheets.specs.MotiveSteps.{with_word}
use Rattle.sheets.proofs.WrittenLaws.{written, written_length, word_written, written_only}
use Rattle.sheets.proofs.FillingLaws.{over_word, Changing, changing_start, changing_on, changing_word}
use Rattle.sheets.proofs.FillingLaws.{changing_end}
use Rattle.sheets.proofs.LinesAwayLaws.{by_part}
use Rattle.sheets.proofs.KeptWordLaws.{all_bytes}

-- the words of a line
module _ (b : List ℕ) (start L : ℕ) (first : ℕ → ℕ) (n : ℕ) where
  old_word : (j : ℕ) → ((first n < n) × (6 ≤ j) → ⊥)
      → citing_word b start L first n j ≡ word_at b (start + (10 * n + j))
  unfolding citing_word
  old_word j not_new =
      rw (refutes (ltb (first n) n && leb 6 j) (says_lt (first n) n & says_le 6 j) not_new, citing_word)

  -- where it is given no earlier line
  pub citing_not : (j : ℕ) → n ≤ first n → citing_word b start L first n j ≡ word_at b (start + (10 * n + j))
  citing_not j h = old_word j (λ p. omega arith)

  -- before its premises
  pub citing_field : (j : ℕ) → j < 6 → citing_word b start L first n j ≡ word_at b (start + (10 * n + j))
  citing_field j h = old_word j (λ p. omega arith)

  -- its premises, where it is given an earlier line: that line, then the old ones
  pub citing_first : first n < n → citing_word b start L first n 6 ≡ first n
  unfolding citing_word
  citing_first earlier = rw (lt-ltb (first n) n earlier, citing_word)

  pub citing_moved : (j : ℕ) → first n < n → 6 ≤ j
      → citing_word b start L first n (suc j) ≡ word_at b (start + (10 * n + j))
  unfolding citing_word
  citing_moved j earlier h =
      rw (
        lt-ltb (first n) n earlier,
        le-leb 6 (suc j) (omega arith),
        ne_eqb (suc j) 6 (λ e. omega arith),
        citing_word,
      )
      (λ i. word_at b (start + (10 * n + back i)))
    where
      back : suc j - 1 ≡ j
      back = omega arith

-- the words of the new sheet, part by part
module _ (b : List ℕ) (start L : ℕ) (first : ℕ → ℕ) where
  pub word_before : (i : ℕ) → i < start → converted_word b start L first i ≡ word_at b i
  unfolding converted_word
  word_before i h = rw (lt-ltb i start h, converted_word)

  pub word_in_line : (n j : ℕ) → n < L → j < 10
      → converted_word b start L first (start + (10 * n + j)) ≡ citing_word b start L first n j
  unfolding converted_word
  word_in_line n j h k =
      let i = start + (10 * n + j) in
      rw (le-ltb i start (omega arith), lt-ltb i (start + 10 * L) (omega arith), converted_word)
      (λ m. citing_word b start L first (line m) (word m))
    where
      line : (start + (10 * n + j) - start) / 10 ≡ n
      line = omega arith

      word : (start + (10 * n + j) - start) % 10 ≡ j
      word = omega arith

  pub trailer_edition : converted_word b start L first (start + 10 * L + 3) ≡ new_edition
  unfolding converted_word
  trailer_edition =
      let i = start + 10 * L + 3 in
      rw (le-ltb i start (omega arith), le-ltb i (start + 10 * L) (omega arith), eq-eqb i i refl, converted_word)

  pub trailer_kept : (j : ℕ) → (j ≡ 3 → ⊥)
      → converted_word b start L first (start + 10 * L + j) ≡ word_at b (start + 10 * L + j)
  unfolding converted_word
  trailer_kept j other =
      let i = start + 10 * L + j in
      rw (
        le-ltb i start (omega arith),
        le-ltb i (start + 10 * L) (omega arith),
        ne_eqb i (start + 10 * L + 3) (λ e. other (omega arith)),
        converted_word,
      )

-- two new sheets of one old sheet
module _ (b : List ℕ) (start L : ℕ) (first other : ℕ → ℕ) where
  abbrev SameLine : ℕ → ℕ → Type 0
  SameLine n j = citing_word b start L first n j ≡ citing_word b start L other n j

  abbrev Same : ℕ → Type 0
  Same i = converted_word b start L first i ≡ converted_word b start L other i

  -- have the same word, unless it is in a line and differs there
  pub same_word : (i : ℕ) → ((n j : ℕ) → n < L → j < 10 → i ≡ start + (10 * n + j) → SameLine n j) → Same i
  same_word =
      by_part start L
      (λ i. ((n j : ℕ) → n < L → j < 10 → i ≡ start + (10 * n + j) → SameLine n j) → Same i)
      (λ i h _. word_before b start L first i h ∙ sym (word_before b start L other i h))
      (λ n j h k line.
      word_in_line b start L first n j h k ∙ line n j h k refl ∙ sym (word_in_line b start L other n j h k))
      (λ j _. in_trailer j (ℕ_discrete j 3))
    where
      in_trailer : (j : ℕ) → Dec (j ≡ 3) → Same (start + 10 * L + j)
      in_trailer j (yes e) =
          subst (λ k. Same (start + 10 * L + k)) (sym e)
          (trailer_edition b start L first ∙ sym (trailer_edition b start L other))
      in_trailer j (no h) = trailer_kept b start L first j h ∙ sym (trailer_kept b start L other j h)

  same_line : (n j : ℕ) → first n ≡ other n → SameLine n j
  unfolding citing_word
  same_line n j e = ap (λ p. citing_word b start L (λ _. p) n j) e

  -- are one if the same lines are given
  pub same_first : ((n : ℕ) → n < L → first n ≡ other n) → (i : ℕ) → Same i
  same_first same i = same_word i (λ n j h k e. same_line n j (same n h))

-- the lines of a copy are changed in order, and those before line n are
module _ (b : List ℕ) (start L : ℕ) (first : ℕ → ℕ) (before : List ℕ) where
  -- the words where no line is given an earlier one
  abbrev old : ℕ → ℕ
  old = converted_word b start L (λ n. n)

  abbrev new : ℕ → ℕ
  new = converted_word b start L first

  abbrev count : ℕ
  count = start + 10 * L + 8

  abbrev pub LinesChanging : List ℕ → ℕ → Type 0
  LinesChanging out n = Changing old new count before out (start + 10 * n)

  -- they are the old sheet's, but for the edition
  edition_only : (k : ℕ) → (k ≡ start + 10 * L + 3 → ⊥) → word_at b k ≡ old k
  edition_only =
      by_part start L (λ k. (k ≡ start + 10 * L + 3 → ⊥) → word_at b k ≡ old k)
      (λ i h _. sym (word_before b start L (λ n. n) i h))
      (λ n j h k _.
      sym (word_in_line b start L (λ m. m) n j h k ∙ citing_not b start L (λ m. m) n j (omega arith)))
      (λ j d. sym (trailer_kept b start L (λ n. n) j (λ e. d (ap (λ k. start + 10 * L + k) e))))

  -- a copy to this buffer is begun with, in which the edition is written
  module _ (buffer copy : List ℕ) (known : (i : ℕ) → get_or b i 0 < 256) (long : 2 * count ≡ length b)
      (same : copy ≡ over (take (length b) b) buffer)
      (named : before ≡ with_word copy (start + 10 * L + 3) new_edition) where
    copied : before ≡ over (written old count) buffer
    copied =
        named
        ∙ ap (λ o. with_word o (start + 10 * L + 3) new_edition)
        (same
        ∙ ap (λ l. over l buffer)
        (take-length b ∙ written_only (word_at b) count b (all_bytes b known) (sym long) (λ i h. refl)))
        ∙ over_word (word_at b) old buffer count (start + 10 * L + 3) new_edition (omega arith)
        (sym (trailer_edition b start L (λ n. n))) (λ k h d. edition_only k d)

    pub lines_start_lem : LinesChanging before 0
    lines_start_lem =
        changing_on _ _ _ _ (changing_start _ _ _ _ buffer copied) (start + 10 * 0) (omega arith) (omega arith)
        (λ k low high. same_word b start L (λ n. n) first k (λ n j h l e. absurd (omega arith)))

    pub lines_end_lem : {out : List ℕ} {n : ℕ} → LinesChanging out n → L ≤ n → out ≡ over (written new count) buffer
    lines_end_lem at h =
        changing_end _ _ _ _ buffer copied
        (changing_on _ _ _ _ at count at.within (omega arith)
        (λ k low high. same_word b start L (λ n. n) first k (λ n j l m e. absurd (omega arith))))

  module _ {out : List ℕ} {n : ℕ} (at : LinesChanging out n) (h : n < L) where
    -- the first words of line n are the old ones
    alike : (d : ℕ) → start + 10 * n ≤ d → d ≤ start + 10 * n + 10
        → ((j : ℕ) → start + (10 * n + j) < d → citing_word b start L first n j ≡ word_at b (start + (10 * n + j)))
        → Changing old new count before out d
    alike d low high same =
        changing_on _ _ _ _ at d low (omega arith)
        (λ k from to. same_word b start L (λ m. m) first k
        (λ m j _ l e.
        let line : n ≡ m = omega arith in
        subst (λ m. citing_word b start L (λ m. m) m j ≡ citing_word b start L first m j) line
        (citing_not b start L (λ m. m) n j (omega arith) ∙ sym (same j (omega arith)))))

    -- all of them, where it is given no earlier line
    pub line_stays : {out' : List ℕ} → n ≤ first n → out' ≡ out → LinesChanging out' (n + 1)
    line_stays own same =
        subst (λ o. LinesChanging o (n + 1)) (sym same)
        (alike (start + 10 * (n + 1)) (omega arith) (omega arith) (λ j _. citing_not b start L first n j own))

    -- only those before its premises, where it is given one
    module _ (earlier : first n < n) where
      -- an old premise stands one word further on
      moved : (i k j : ℕ) → 6 ≤ j → j < 9 → i ≡ start + (10 * n + j) → k ≡ suc i → word_at b i ≡ new k
      moved i k j low high e next =
          ap (word_at b) e
          ∙ sym (word_in_line b start L first n (suc j) h (omega arith) ∙ citing_moved b start L first n j earlier low)
          ∙ ap new (omega arith)

      pub line_changes : {out' : List ℕ} (i : ℕ) → i ≡ start + (10 * n + 6)
          → out'
          ≡ with_word
          (with_word (with_word (with_word out i (first n)) (i + 1) (word_at b i)) (i + 2) (word_at b (i + 1)))
          (i + 3)
          (word_at b (i + 2))
          → LinesChanging out' (n + 1)
      line_changes i e done =
          let fields = alike i (omega arith) (omega arith) (λ j l. citing_field b start L first n j (omega arith)) in
          let motive = word_in_line b start L first n 6 h (omega arith) ∙ citing_first b start L first n earlier in
          let cited = changing_word _ _ _ _ fields i (first n) refl (omega arith) (sym (ap new e ∙ motive)) in
          let one = changing_word _ _ _ _ cited (i + 1) (word_at b i) (omega arith) (omega arith)
          (moved i (i + 1) 6 (omega arith) (omega arith) e (omega arith)) in
          let two = changing_word _ _ _ _ one (i + 2) (word_at b (i + 1)) (omega arith) (omega arith)
          (moved (i + 1) (i + 2) 7 (omega arith) (omega arith) (omega arith) (omega arith)) in
          let three = changing_word _ _ _ _ two (i + 3) (word_at b (i + 2)) (omega arith) (omega arith)
          (moved (i + 2) (i + 3) 8 (omega arith) (omega arith) (omega arith) (omega arith)) in
          subst (λ o. LinesChanging o (n + 1)) (sym done)
          (changing_on _ _ _ _ three (start + 10 * (n + 1)) (omega arith) (omega arith)
          (λ k low high. absurd (omega arith)))

-- the new sheet's length and words
module _ (b : List ℕ) (T C L : ℕ) where
  pub converted_long : length (sheet_converted b T C L) ≡ 2 * (lines_start T C + 10 * L + 8)
  unfolding sheet_converted
  converted_long =
      written_length (converted_word b (lines_start T C) L (new_premise b T C)) (lines_start T C + 10 * L + 8)

  pub word-converted : (i : ℕ) → i < lines_start T C + 10 * L + 8
      → word_at (sheet_converted b T C L) i ≡ converted_word b (lines_start T C) L (new_premise b T C) i
  unfolding sheet_converted
  word-converted =
      word_written (converted_word b (lines_start T C) L (new_premise b T C)) (lines_start T C + 10 * L + 8)
