-- Conversion: what the new sheet holds, and, on a sheet that admission accepts, that each answer is given exactly if it
-- means what document 02 says. On any other sheet admission's refusal is answered.
-- Assumes nothing.
use Rattle.std.specs.Prelude.{Result, Ok, Err}
use Rattle.sheets.specs.declared.refusals.Counts.{Counts}
use Rattle.sheets.specs.declared.refusals.Fault.{Fault}
use Rattle.sheets.specs.declared.refusals.Fault.TheVariants.{Room, UpToDate, NoMotive}
use Rattle.sheets.specs.declared.refusals.Refusal.{Refusal}
use Rattle.sheets.specs.Refusals.{refused, counts}
use mathlib.Core.Path.{◌≡◌, refl, sym, ◌∙◌, ap, subst}
use mathlib.Core.Logic.{◌↔◌}
use mathlib.Core.List.{List}
use Prim.Native.Nat.{ℕ, suc, ◌+◌, ◌-◌, ◌*◌, ◌≤◌, ◌<◌}
use native.Mathlib.Decide.{dec_lt, dec_le}
use native.Mathlib.Omega.{arith}
use lib.ListN.{length, take, drop}
use lib.Seq.{take_at}
use borrow.Author.Tests.{lt-ltb, le-ltb, le-leb, lt-leb}
use Rattle.terms.specs.Buffers.{over}
use Rattle.sheets.specs.Layout.{lines_in, trailer_word, trailer_of, edition_of}
use Rattle.sheets.specs.Lines.{line_word}
use Rattle.sheets.specs.Admission.{admit_of}
use Rattle.sheets.specs.Good.{Good}
use Rattle.sheets.specs.GoodLayout.{trailer_for, LaidOut}
use Rattle.sheets.specs.Accepted.{IsAccepted, stated_by}
use Rattle.sheets.specs.Withdrawal.{lines_start}
use Rattle.sheets.specs.Conversion.{new_edition, motive_line, first_without, new_premise, citing_word, converted_word}
use Rattle.sheets.specs.Conversion.{sheet_converted, converted, convert_admitted, convert_after, convert_of}
use Rattle.sheets.specs.Conversion.{output_from, converted_after, WantsMotive, HasMotive, LowestMotive, AllMotives}
use Rattle.sheets.specs.Conversion.{AdmittedConversionMeans, asks_already, no_motive, no_room, whole}
use Rattle.sheets.specs.Conversion.{KeepsEveryLine}
use Rattle.sheets.specs.ConversionOutput.{MotiveAdded, MotivesAdded}
use Rattle.sheets.proofs.LayoutLaws.{trailer_words_lem}
use Rattle.sheets.proofs.WrittenLaws.{word-drop}
use Rattle.sheets.proofs.LinesAwayLaws.{line_place}
use Rattle.sheets.proofs.AdmissionLaws.{accepted_is}
use Rattle.sheets.proofs.AcceptedLaws.{good_accepted}
use Rattle.sheets.proofs.ConvertedWordLaws.{converted_long, word-converted, word_before, word_in_line}
use Rattle.sheets.proofs.ConvertedWordLaws.{trailer_kept, trailer_edition}
use Rattle.sheets.proofs.ConvertedWordLaws.{citing_not, citing_field, citing_first, citing_moved}
use Rattle.sheets.proofs.MotiveLineLaws.{motive_lowest, has_motive, premise_wanted, premise_own}
use Rattle.sheets.proofs.MotiveLineLaws.{without_most, without_lowest, lowest_without, without_none}
use Rattle.sheets.proofs.MotivesAddedLaws.{good_added, stated_added}

-- what the new sheet holds, for any sheet with this layout
module _ (b : List ℕ) (T C L : ℕ) (old : LaidOut b T C L) where
  abbrev new : List ℕ
  new = sheet_converted b T C L

  abbrev end : ℕ
  end = lines_start T C + 10 * L

  -- the trailer
  trailer_place : (j : ℕ) → j < 8
      → trailer_word new j ≡ converted_word b (lines_start T C) L (new_premise b T C) (end + j)
  unfolding trailer_word
  trailer_place j h =
      word-drop new (length new - 16) end j (omega (arith, converted_long b T C L))
      ∙ word-converted b T C L (end + j) (omega arith)

  trailer_same : (j : ℕ) → j < 8 → (j ≡ 3 → ⊥) → trailer_word new j ≡ trailer_word b j
  unfolding trailer_word
  trailer_same j h other =
      trailer_place j h ∙ trailer_kept b (lines_start T C) L (new_premise b T C) j other
      ∙ sym (word-drop b (length b - 16) end j (omega (arith, old.long)))

  edition_new : edition_of new ≡ new_edition
  unfolding edition_of
  edition_new = trailer_place 3 (omega arith) ∙ trailer_edition b (lines_start T C) L (new_premise b T C)

  trailer_new : trailer_of new ≡ trailer_for (edition_of new) T C L
  unfolding trailer_of trailer_for edition_of
  trailer_new =
      let t : trailer_of b ≡ trailer_for (edition_of b) T C L = old.trailer in
      trailer_words_lem new T C L (trailer_same 0 (omega arith) (λ e. omega arith) ∙ ap (λ r. r.terms) t)
      (trailer_same 1 (omega arith) (λ e. omega arith) ∙ ap (λ r. r.contexts) t)
      (trailer_same 2 (omega arith) (λ e. omega arith) ∙ ap (λ r. r.lines) t)
      (trailer_same 4 (omega arith) (λ e. omega arith) ∙ ap (λ r. r.to_terms) t)
      (trailer_same 5 (omega arith) (λ e. omega arith) ∙ ap (λ r. r.to_contexts) t)
      (trailer_same 6 (omega arith) (λ e. omega arith) ∙ ap (λ r. r.to_lines) t)
      (trailer_same 7 (omega arith) (λ e. omega arith) ∙ ap (λ r. r.mark) t)

  same_length : length new ≡ length b
  same_length = omega (arith, converted_long b T C L, old.long)

  laid_new : LaidOut new T C L
  laid_new =
      record {
        trailer = trailer_new;
        edition = (omega (arith, edition_new), omega (arith, edition_new));
        few_terms = old.few_terms;
        few_contexts = old.few_contexts;
        few_lines = old.few_lines;
        long = same_length ∙ old.long;
      }

  -- the lines
  line_word_lem : (n j : ℕ) → n < L → j < 10
      → line_word (lines_in new T C) n j ≡ citing_word b (lines_start T C) L (new_premise b T C) n j
  line_word_lem n j h k =
      line_place new T C n j ∙ word-converted b T C L (lines_start T C + (10 * n + j)) (omega arith)
      ∙ word_in_line b (lines_start T C) L (new_premise b T C) n j h k

  other_word : (n : ℕ) → n < L → (WantsMotive b T C n → ⊥) → (j : ℕ) → j < 10
      → line_word (lines_in new T C) n j ≡ line_word (lines_in b T C) n j
  other_word n h plain j k =
      line_word_lem n j h k
      ∙ citing_not b (lines_start T C) L (new_premise b T C) n j (omega (arith, premise_own b T C n plain))
      ∙ sym (line_place b T C n j)

  module _ (n : ℕ) (h : n < L) (wants : WantsMotive b T C n) (has : HasMotive b T C n) where
    earlier : new_premise b T C n < n
    earlier = omega (arith, premise_wanted b T C n wants, (has_motive b T C n).0 has)

    first_word : line_word (lines_in new T C) n 6 ≡ motive_line b T C n
    first_word =
        line_word_lem n 6 h (omega arith) ∙ citing_first b (lines_start T C) L (new_premise b T C) n earlier
        ∙ premise_wanted b T C n wants

    motive_added : MotiveAdded b T C (lines_in new T C) n
    motive_added =
        record {
          fields = λ j k.
              line_word_lem n j h (omega arith) ∙ citing_field b (lines_start T C) L (new_premise b T C) n j k
              ∙ sym (line_place b T C n j);
          motive =
              subst (LowestMotive b T C n) (sym first_word)
              (motive_lowest b T C n ((has_motive b T C n).0 has));
          premises = λ j low high.
              line_word_lem n (suc j) h (omega arith)
              ∙ citing_moved b (lines_start T C) L (new_premise b T C) n j earlier low
              ∙ sym (line_place b T C n j);
        }

  pub motives_added : AllMotives b T C L → MotivesAdded b new T C L
  motives_added all =
      record {
        tables = λ i h.
            word-converted b T C L i (omega arith) ∙ word_before b (lines_start T C) L (new_premise b T C) i h;
        others = other_word;
        added = λ n h wants. motive_added n h wants (all n h wants);
        edition = edition_new;
        laid = laid_new;
      }

-- the answers on an accepted sheet
module _ (bytes : List ℕ) (T C L room : ℕ) where
  pub answer_20 : new_edition ≤ edition_of bytes → convert_admitted bytes T C L room ≡ refused UpToDate 0
  unfolding convert_admitted
  answer_20 h = rw (le-leb new_edition (edition_of bytes) h, convert_admitted)

  module _ (early : edition_of bytes < new_edition) where
    pub answer_21 : first_without bytes T C L < L
        → convert_admitted bytes T C L room ≡ refused NoMotive (first_without bytes T C L)
    unfolding convert_admitted
    answer_21 h = rw (lt-leb new_edition (edition_of bytes) early, lt-ltb _ _ h, convert_admitted)

    module _ (all : L ≤ first_without bytes T C L) where
      pub answer_13 : room < length bytes → convert_admitted bytes T C L room ≡ refused Room 0
      unfolding convert_admitted
      answer_13 h = rw (lt-leb new_edition (edition_of bytes) early, le-ltb _ _ all, lt-ltb _ _ h, convert_admitted)

      pub answer_written : length bytes ≤ room → convert_admitted bytes T C L room ≡ Ok (length bytes)
      unfolding convert_admitted
      answer_written h = rw (lt-leb new_edition (edition_of bytes) early, le-ltb _ _ all, le-ltb _ _ h, convert_admitted)

  abbrev Means : Result ℕ Refusal → Type 0
  Means = AdmittedConversionMeans bytes T C L room

  all_there : L ≤ first_without bytes T C L → AllMotives bytes T C L
  all_there none = (without_none bytes T C L).0 (omega (arith, none, without_most bytes T C L))

  there_all : AllMotives bytes T C L → L ≤ first_without bytes T C L
  there_all all = omega (arith, (without_none bytes T C L).1 all)

  pub means : Means (convert_admitted bytes T C L room)
  means = at (dec_le new_edition (edition_of bytes)) (dec_lt (first_without bytes T C L) L) (dec_lt room (length bytes))
    where
      at : Dec (new_edition ≤ edition_of bytes) → Dec (first_without bytes T C L < L) → Dec (room < length bytes)
          → Means (convert_admitted bytes T C L room)
      at (yes e) d r = subst Means (sym (answer_20 e)) (asks_already e)
      at (no e) (yes d) r =
          let early : edition_of bytes < new_edition = omega arith in
          subst Means (sym (answer_21 early d)) (no_motive early (without_lowest bytes T C L d))
      at (no e) (no d) (yes r) =
          let early : edition_of bytes < new_edition = omega arith in
          let none : L ≤ first_without bytes T C L = omega arith in
          subst Means (sym (answer_13 early none r)) (no_room early (all_there none) r)
      at (no e) (no d) (no r) =
          let early : edition_of bytes < new_edition = omega arith in
          let none : L ≤ first_without bytes T C L = omega arith in
          let room_there : length bytes ≤ room = omega arith in
          subst Means (sym (answer_written early none room_there))
          (whole early (all_there none) room_there)

  back : {a : Result ℕ Refusal} → Means a → convert_admitted bytes T C L room ≡ a
  back (asks_already e) = answer_20 e
  back (no_motive {n} early m) =
      let first = lowest_without bytes T C L n m in
      answer_21 early (omega (arith, first, m.within)) ∙ ap (refused NoMotive) first
  back (no_room early all r) = answer_13 early (there_all all) r
  back (whole early all r) = answer_written early (there_all all) r

  admitted_means : (a : Result ℕ Refusal) → (convert_admitted bytes T C L room ≡ a) ↔ Means a
  admitted_means a = (λ e. subst Means e means, back)

module _ (bytes : List ℕ) (work room : ℕ) where
  -- a refusal of admission is handed on
  pub convert_refused : (fault : Fault) (place : ℕ) → admit_of bytes work ≡ refused fault place
      → convert_of bytes work room ≡ refused fault place
  unfolding convert_of convert_after
  convert_refused fault place e = ap (convert_after bytes room) e

  module _ (T C L : ℕ) (accepted : admit_of bytes work ≡ Ok (counts T C L)) where
    convert_admitted_lem : convert_of bytes work room ≡ convert_admitted bytes T C L room
    unfolding convert_of convert_after
    convert_admitted_lem = ap (convert_after bytes room) accepted

    -- on an accepted sheet an answer is given exactly if it means what it should
    pub convert_is : (a : Result ℕ Refusal) → (convert_of bytes work room ≡ a) ↔ AdmittedConversionMeans bytes T C L room a
    convert_is a = (
      λ e. (admitted_means bytes T C L room a).0 (sym convert_admitted_lem ∙ e),
      λ m. convert_admitted_lem ∙ (admitted_means bytes T C L room a).1 m,
    )

-- a good sheet with these counts, whose motives are all there
module _ (bytes : List ℕ) (T C L : ℕ) (g : Good bytes T C L) where
  pub converted_is : converted bytes ≡ sheet_converted bytes T C L
  unfolding converted trailer_for
  converted_is = ap (λ t. sheet_converted bytes t.terms t.contexts t.lines) g.tables.laid.trailer

  pub converted_added : AllMotives bytes T C L → MotivesAdded bytes (converted bytes) T C L
  converted_added all =
      subst (λ s. MotivesAdded bytes s T C L) (sym converted_is) (motives_added bytes T C L g.tables.laid all)

  pub converted-length : length (converted bytes) ≡ length bytes
  converted-length = ap length converted_is ∙ same_length bytes T C L g.tables.laid

  -- the output up to the length
  pub sheet_there : (before : List ℕ) → take (length bytes) (over (converted bytes) before) ≡ converted bytes
  sheet_there before =
      take_at (converted bytes) (drop (length (converted bytes)) before) (length bytes) converted-length

module _ (bytes : List ℕ) (work : ℕ) (before : List ℕ) where
  on_means : (T C L : ℕ) → Good bytes T C L → {a : Result ℕ Refusal} → AdmittedConversionMeans bytes T C L (length before) a
      → KeepsEveryLine bytes (output_from (converted bytes) before a) a
  unfolding KeepsEveryLine output_from
  on_means T C L g (asks_already e) = tt
  on_means T C L g (no_motive early m) = tt
  on_means T C L g (no_room early all r) = tt
  on_means T C L g (whole early all r) =
      let new = sheet_there bytes T C L g before in
      let added = converted_added bytes T C L g all in (
        good_accepted g,
        subst IsAccepted (sym new) (good_accepted (good_added bytes (converted bytes) T C L g early added)),
        ap edition_of new ∙ added.edition,
        ap stated_by new ∙ stated_added bytes (converted bytes) T C L g early added,
      )

  on_admission : (a : Result Counts Refusal) → admit_of bytes work ≡ a
      → KeepsEveryLine bytes (output_from (converted bytes) before (convert_after bytes (length before) a))
      (convert_after bytes (length before) a)
  unfolding KeepsEveryLine convert_after
  on_admission (Err r) e = tt
  on_admission (Ok n) e =
      on_means n.terms n.contexts n.lines ((accepted_is bytes work n.terms n.contexts n.lines).0 e).0
      (means bytes n.terms n.contexts n.lines (length before))

  pub convert_keeps : KeepsEveryLine bytes (converted_after bytes work before) (convert_of bytes work (length before))
  unfolding converted_after convert_of
  convert_keeps = on_admission (admit_of bytes work) refl
