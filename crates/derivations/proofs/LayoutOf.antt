-- A sheet from its edition and its words: given those of the terms, the contexts and the lines, the bytes are laid out
-- and each part is read back.
-- Assumes nothing.
use mathlib.Core.Path.{◌≡◌, sym, ◌∙◌, ap, subst}
use mathlib.Core.List.{List, [], ◌∷◌}
use Prim.Native.Nat.{ℕ, zero, suc, ◌+◌, ◌-◌, ◌*◌, ◌≤◌, ◌<◌}
use native.Mathlib.Omega.{arith}
use lib.ListN.{length, get_or}
use Rattle.terms.specs.Words.{word_at}
use Rattle.rules.specs.Editions.{IsEdition}
use Rattle.sheets.specs.Layout.{contexts_in, lines_in, trailer_word, trailer_of, edition_of, distance_to_lines, distance_to_contexts, distance_to_terms}
use Rattle.sheets.specs.GoodLayout.{trailer_for, LaidOut}
use Rattle.sheets.specs.Accepted.{Bytes}
use Rattle.sheets.proofs.WrittenLaws.{written, written_length, written_bytes, word_written, word-drop}
use Rattle.derivations.proofs.BytesOf.{follow, follow_first, follow_then, follow_below}

trailer_words : ℕ → ℕ → ℕ → ℕ → ℕ → ℕ
trailer_words edition T C L i = get_or (T ∷ C ∷ L ∷ edition ∷ distance_to_terms T C L ∷ distance_to_contexts C L ∷ distance_to_lines L ∷ 0x4C44 ∷ []) i 0

module _ (edition T C L : ℕ) (t c l : ℕ → ℕ) where
  words : ℕ → ℕ
  words = follow (5 * T) t (follow (2 * C) c (follow (10 * L) l (trailer_words edition T C L)))

  pub sheet_bytes : List ℕ
  sheet_bytes = written words (5 * T + (2 * C + (10 * L + 8)))

  pub sheet_length : length sheet_bytes ≡ distance_to_terms T C L + 16
  unfolding sheet_bytes
  sheet_length = omega (arith, written_length words (5 * T + (2 * C + (10 * L + 8))))

  word_at_lem : (i : ℕ) → i < 5 * T + (2 * C + (10 * L + 8)) → word_at sheet_bytes i ≡ words i
  unfolding sheet_bytes
  word_at_lem i h = word_written words (5 * T + (2 * C + (10 * L + 8))) i h

  pub term-word : (i : ℕ) → i < 5 * T → word_at sheet_bytes i ≡ t i
  unfolding words
  term-word i h = word_at_lem i (omega arith) ∙ follow_first (5 * T) t _ i h

  pub context_word : (i : ℕ) → i < 2 * C → word_at (contexts_in sheet_bytes T) i ≡ c i
  unfolding words contexts_in
  context_word i h =
      word-drop sheet_bytes (10 * T) (5 * T) i (omega arith) ∙ word_at_lem (5 * T + i) (omega arith)
      ∙ follow_then (5 * T) t _ i ∙ follow_first (2 * C) c _ i h

  pub line_word_lem : (i : ℕ) → i < 10 * L → word_at (lines_in sheet_bytes T C) i ≡ l i
  unfolding words lines_in
  line_word_lem i h =
      word-drop sheet_bytes (10 * T + 4 * C) (5 * T + 2 * C) i (omega arith) ∙ ap (word_at sheet_bytes) place ∙ word_at_lem (5 * T + (2 * C + i)) (omega arith)
      ∙ follow_then (5 * T) t _ (2 * C + i) ∙ follow_then (2 * C) c _ i ∙ follow_first (10 * L) l _ i h
    where
      place : 5 * T + 2 * C + i ≡ 5 * T + (2 * C + i)
      place = omega arith

  trailer_word_lem : (i : ℕ) → i < 8 → trailer_word sheet_bytes i ≡ trailer_words edition T C L i
  unfolding words trailer_word
  trailer_word_lem i h =
      word-drop sheet_bytes (length sheet_bytes - 16) (5 * T + 2 * C + 10 * L) i (omega (arith, sheet_length)) ∙ ap (word_at sheet_bytes) place
      ∙ word_at_lem (5 * T + (2 * C + (10 * L + i))) (omega arith)
      ∙ follow_then (5 * T) t _ (2 * C + (10 * L + i)) ∙ follow_then (2 * C) c _ (10 * L + i)
      ∙ follow_then (10 * L) l (trailer_words edition T C L) i
    where
      place : 5 * T + 2 * C + 10 * L + i ≡ 5 * T + (2 * C + (10 * L + i))
      place = omega arith

  trailer_is : trailer_of sheet_bytes ≡ trailer_for edition T C L
  unfolding trailer_of trailer_for trailer_words
  trailer_is =
      λ i. record {
        terms = trailer_word_lem 0 (omega arith) i;
        contexts = trailer_word_lem 1 (omega arith) i;
        lines = trailer_word_lem 2 (omega arith) i;
        edition = trailer_word_lem 3 (omega arith) i;
        to_terms = trailer_word_lem 4 (omega arith) i;
        to_contexts = trailer_word_lem 5 (omega arith) i;
        to_lines = trailer_word_lem 6 (omega arith) i;
        mark = trailer_word_lem 7 (omega arith) i;
      }

  -- the edition is read back
  pub edition_is : edition_of sheet_bytes ≡ edition
  unfolding edition_of trailer_words
  edition_is = trailer_word_lem 3 (omega arith)

  module _ (known : IsEdition edition) (few_terms : T ≤ 3072) (few_contexts : C ≤ 256) (few_lines : L ≤ 1024) where
    pub laid_out : LaidOut sheet_bytes T C L
    laid_out =
        record {
          trailer = trailer_is ∙ ap (λ e. trailer_for e T C L) (sym edition_is);
          edition = subst IsEdition (sym edition_is) known;
          few_terms = few_terms;
          few_contexts = few_contexts;
          few_lines = few_lines;
          long = sheet_length;
        }

    trailer_small : (i : ℕ) → i < 8 → trailer_words edition T C L i < 65536
    unfolding trailer_words
    trailer_small zero h = omega arith
    trailer_small (suc zero) h = omega arith
    trailer_small (suc (suc zero)) h = omega arith
    trailer_small (suc (suc (suc zero))) h = omega (arith, known.1)
    trailer_small (suc (suc (suc (suc zero)))) h = omega arith
    trailer_small (suc (suc (suc (suc (suc zero))))) h = omega arith
    trailer_small (suc (suc (suc (suc (suc (suc zero)))))) h = omega arith
    trailer_small (suc (suc (suc (suc (suc (suc (suc zero))))))) h = omega arith
    trailer_small (suc (suc (suc (suc (suc (suc (suc (suc i)))))))) h = absurd (omega arith)

    pub sheet_bytes_lem : ((i : ℕ) → i < 5 * T → t i < 65536) → ((i : ℕ) → i < 2 * C → c i < 65536) → ((i : ℕ) → i < 10 * L → l i < 65536) → Bytes sheet_bytes
    unfolding words sheet_bytes
    sheet_bytes_lem p q r =
        written_bytes words (5 * T + (2 * C + (10 * L + 8)))
        (follow_below (5 * T) t _ 65536 (2 * C + (10 * L + 8)) p
        (follow_below (2 * C) c _ 65536 (10 * L + 8) q
        (follow_below (10 * L) l (trailer_words edition T C L) 65536 8 r trailer_small)))
