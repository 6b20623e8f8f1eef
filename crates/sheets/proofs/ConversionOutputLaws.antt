-- The output after a conversion is what document 02 says, for any sheet and buffers; no other bytes are.
-- Assumes nothing.
use Rattle.std.specs.Prelude.{Result, Ok, Err}
use Rattle.sheets.specs.declared.refusals.Refusal.{Refusal}
use mathlib.Core.Path.{◌≡◌, refl, sym, ◌∙◌, ap, subst}
use mathlib.Core.Logic.{⊎_elim}
use mathlib.Core.List.{List}
use Prim.Native.Nat.{ℕ, suc, ◌+◌, ◌-◌, ◌*◌, ◌≤◌, ◌<◌}
use native.Mathlib.Decide.{dec_lt}
use native.Mathlib.Omega.{arith}
use lib.ListN.{length, take}
use Rattle.terms.specs.Words.{word_at}
use Rattle.terms.specs.Buffers.{over}
use Rattle.rules.proofs.EditionLaws.{motive_or_not}
use Rattle.sheets.specs.declared.layout.Trailer.{Trailer}
use Rattle.sheets.specs.Layout.{lines_in, trailer_of}
use Rattle.sheets.specs.Lines.{line_word, line_at}
use Rattle.sheets.specs.Good.{Good}
use Rattle.sheets.specs.GoodLayout.{trailer_for}
use Rattle.sheets.specs.Accepted.{Bytes}
use Rattle.sheets.specs.Withdrawal.{lines_start}
use Rattle.sheets.specs.KeptWords.{word_of_trailer}
use Rattle.sheets.specs.Conversion.{new_edition, LowestMotive, AllMotives, sheet_converted, converted}
use Rattle.sheets.specs.Conversion.{convert_of, output_from, converted_after, whole}
use Rattle.sheets.specs.ConversionOutput.{MotiveAdded, MotivesAdded, ConvertedLeft, ConversionLeft}
use Rattle.sheets.specs.Answered.{ConversionMeans, admitted}
use Rattle.sheets.proofs.BufferLaws.{over_length, over_beyond, over_only}
use Rattle.sheets.proofs.LinesAwayLaws.{OfWords, of_bytes, of_written, words_only, by_part}
use Rattle.sheets.proofs.LinesAwayLaws.{line_place, trailer_place, trailer_read}
use Rattle.sheets.proofs.SetOutputLaws.{bytes_taken}
use Rattle.sheets.proofs.ConversionLaws.{converted_is, converted_added, converted-length, sheet_there}
use Rattle.sheets.proofs.AnsweredLaws.{conversion_is}

-- two sheets that are the old one with its motives added are one
module _ {old s t : List ℕ} {T C L : ℕ} (x : MotivesAdded old s T C L) (y : MotivesAdded old t T C L) where
  abbrev Same : ℕ → Type 0
  Same i = word_at s i ≡ word_at t i

  one_motive : (n j k : ℕ) → LowestMotive old T C n j → LowestMotive old T C n k → j ≡ k
  one_motive n j k a c =
      let not_less : j < k → ⊥ = λ h. c.lowest j h a.gives in
      let not_more : k < j → ⊥ = λ h. a.lowest k h c.gives in
      omega arith

  in_added : (n j : ℕ) → MotiveAdded old T C (lines_in s T C) n → MotiveAdded old T C (lines_in t T C) n → j < 10
      → line_word (lines_in s T C) n j ≡ line_word (lines_in t T C) n j
  in_added n j a c h = at (dec_lt j 6) (dec_lt 6 j)
    where
      at : Dec (j < 6) → Dec (6 < j) → line_word (lines_in s T C) n j ≡ line_word (lines_in t T C) n j
      at (yes f) d = a.fields j f ∙ sym (c.fields j f)
      at (no f) (yes d) =
          let e : suc (j - 1) ≡ j = omega arith in
          subst (λ i. line_word (lines_in s T C) n i ≡ line_word (lines_in t T C) n i) e
          (a.premises (j - 1) (omega arith) (omega arith) ∙ sym (c.premises (j - 1) (omega arith) (omega arith)))
      at (no f) (no d) =
          let e : 6 ≡ j = omega arith in
          subst (λ i. line_word (lines_in s T C) n i ≡ line_word (lines_in t T C) n i) e
          (one_motive n _ _ a.motive c.motive)

  in_line : (n j : ℕ) → n < L → j < 10 → Same (lines_start T C + (10 * n + j))
  in_line n j h k =
      sym (line_place s T C n j)
      ∙ ⊎_elim (λ wants. in_added n j (x.added n h wants) (y.added n h wants) k)
      (λ plain. x.others n h plain j k ∙ sym (y.others n h plain j k))
      (motive_or_not new_edition (line_at old T C n).rule)
      ∙ line_place t T C n j

  in_trailer : (j : ℕ) → j < 8 → Same (lines_start T C + 10 * L + j)
  in_trailer j h =
      sym (trailer_place s T C L x.laid j) ∙ trailer_read s j h
      ∙ ap (λ r. word_of_trailer r j) same_trailer
      ∙ sym (trailer_read t j h) ∙ trailer_place t T C L y.laid j
    where
      same_trailer : trailer_of s ≡ trailer_of t
      same_trailer =
          x.laid.trailer ∙ ap (λ e. trailer_for e T C L) (x.edition ∙ sym y.edition) ∙ sym y.laid.trailer

  same_word : (i : ℕ) → i < lines_start T C + 10 * L + 8 → Same i
  same_word =
      by_part (lines_start T C) L (λ i. i < lines_start T C + 10 * L + 8 → Same i)
      (λ i l _. x.tables i l ∙ sym (y.tables i l)) (λ n j h k _. in_line n j h k)
      (λ j h. in_trailer j (omega arith))

  same_added : OfWords s → OfWords t → s ≡ t
  same_added words_s words_t =
      let count = lines_start T C + 10 * L + 8 in
      words_only s words_s (word_at t) count (omega (arith, x.laid.long)) same_word
      ∙ sym (words_only t words_t (word_at t) count (omega (arith, y.laid.long)) (λ i h. refl))

-- a good sheet with these counts, whose motives are all there, and the output before
module _ {bytes : List ℕ} {T C L : ℕ} (g : Good bytes T C L) (all : AllMotives bytes T C L) (before : List ℕ) where
  -- the counts are those of the trailer
  abbrev AddedBy : List ℕ → Trailer → Type 0
  AddedBy s t = MotivesAdded bytes s t.terms t.contexts t.lines

  size : length (converted bytes) ≡ length bytes
  size = converted-length bytes T C L g

  added_left : length bytes ≤ length before
      → ConvertedLeft bytes before (over (converted bytes) before) (length bytes)
  unfolding trailer_for
  added_left room =
      record {
        same = refl;
        sheet =
            subst (AddedBy (take (length bytes) (over (converted bytes) before))) (sym g.tables.laid.trailer)
            (subst (λ s. MotivesAdded bytes s T C L) (sym (sheet_there bytes T C L g before))
            (converted_added bytes T C L g all));
        long = over_length (converted bytes) before (omega (arith, size));
        beyond = λ i h. over_beyond (converted bytes) before i (omega (arith, size));
      }

  of_words : OfWords (converted bytes)
  unfolding sheet_converted
  of_words = subst OfWords (sym (converted_is bytes T C L g)) (of_written _ _)

  added_only : (after : List ℕ) → Bytes after → ConvertedLeft bytes before after (length bytes)
      → after ≡ over (converted bytes) before
  unfolding trailer_for
  added_only after b o =
      over_only (converted bytes) before after (length bytes) size head o.long o.beyond
    where
      taken : MotivesAdded bytes (take (length bytes) after) T C L
      taken = subst (AddedBy (take (length bytes) after)) g.tables.laid.trailer o.sheet

      head : take (length bytes) after ≡ converted bytes
      head =
          same_added taken (converted_added bytes T C L g all)
          (of_bytes (take (length bytes) after) (lines_start T C + 10 * L + 8) (bytes_taken (length bytes) after b)
          (omega (arith, taken.laid.long)))
          of_words

module _ (bytes : List ℕ) (work : ℕ) (before : List ℕ) where
  abbrev Means : Result ℕ Refusal → Type 0
  Means = ConversionMeans bytes work (length before)

  left : (a : Result ℕ Refusal) → Means a → ConversionLeft bytes before (output_from (converted bytes) before a) a
  unfolding ConversionLeft output_from
  left (Err r) m = refl
  left (Ok new) m = at m
    where
      at : {l : ℕ} → Means (Ok l) → ConvertedLeft bytes before (over (converted bytes) before) l
      at (admitted g fits (whole early all room)) = added_left g all before room

  only : (a : Result ℕ Refusal) → Means a → (after : List ℕ) → Bytes after → ConversionLeft bytes before after a
      → after ≡ output_from (converted bytes) before a
  unfolding ConversionLeft output_from
  only (Err r) m after b o = o
  only (Ok new) m after b o = at m o
    where
      at : {l : ℕ} → Means (Ok l) → ConvertedLeft bytes before after l → after ≡ over (converted bytes) before
      at (admitted g fits (whole early all room)) k = added_only g all before after b k

  module _ (a : Result ℕ Refusal) (answer : convert_of bytes work (length before) ≡ a) where
    means : Means a
    means = (conversion_is bytes work (length before) a).0 answer

    after_is : converted_after bytes work before ≡ output_from (converted bytes) before a
    unfolding converted_after
    after_is = ap (output_from (converted bytes) before) answer

    -- what is left is what the answer says
    pub conversion_left : ConversionLeft bytes before (converted_after bytes work before) a
    conversion_left = subst (λ o. ConversionLeft bytes before o a) (sym after_is) (left a means)

    -- and nothing else is: the answer fixes every byte
    pub conversion_only : (after : List ℕ) → Bytes after → ConversionLeft bytes before after a
        → after ≡ converted_after bytes work before
    conversion_only after b o = only a means after b o ∙ sym after_is
