-- The layout of a sheet: document 01, "The sheet", and numbers 1 to 4 of "What the desk says". Terms come first, then
-- contexts, then lines, then a trailer of 8 words.
use Rattle.std.specs.Prelude.{Bool, true, false, ◌&&◌, List, ℕ, ◌+◌, ◌-◌, ◌*◌, leb, eqb, length, drop, Result, Ok, Err}
use Rattle.terms.specs.Words.{word_at}
use Rattle.rules.specs.Editions.{edition_known}
use Rattle.sheets.specs.declared.layout.Trailer.{Trailer}
use Rattle.sheets.specs.declared.refusals.Counts.{Counts}
use Rattle.sheets.specs.declared.refusals.Fault.{Fault}
use Rattle.sheets.specs.declared.refusals.Fault.TheVariants.{Length, Mark, Counts as CountsFault, WorkBuffer}
use Rattle.sheets.specs.Refusals.{counts}

-- The terms stand at the head of the bytes, 10 bytes a row; the contexts, 4 bytes a row, behind them; the lines, 20
-- bytes each, behind these.
unfoldable pub contexts_in : List ℕ → ℕ → List ℕ
contexts_in bytes terms = drop (10 * terms) bytes

unfoldable pub lines_in : List ℕ → ℕ → ℕ → List ℕ
lines_in bytes terms contexts = drop (10 * terms + 4 * contexts) bytes

-- word i of the trailer, the last 16 bytes
unfoldable pub trailer_word : List ℕ → ℕ → ℕ
trailer_word bytes i = word_at (drop (length bytes - 16) bytes) i

-- "Trailer words: T, C, L, edition, distance back to the terms, to the contexts, to the lines, and the mark"
unfoldable pub trailer_of : List ℕ → Trailer
trailer_of bytes =
    record {
      terms = trailer_word bytes 0;
      contexts = trailer_word bytes 1;
      lines = trailer_word bytes 2;
      edition = trailer_word bytes 3;
      to_terms = trailer_word bytes 4;
      to_contexts = trailer_word bytes 5;
      to_lines = trailer_word bytes 6;
      mark = trailer_word bytes 7;
    }

-- the edition that a sheet names, by which it is judged
unfoldable pub edition_of : List ℕ → ℕ
unfolding trailer_of
edition_of bytes = (trailer_of bytes).edition

-- the distances back from the trailer's first byte
abbrev pub distance_to_lines : ℕ → ℕ
distance_to_lines lines = 20 * lines

abbrev pub distance_to_contexts : ℕ → ℕ → ℕ
distance_to_contexts contexts lines = 4 * contexts + 20 * lines

abbrev pub distance_to_terms : ℕ → ℕ → ℕ → ℕ
distance_to_terms terms contexts lines = 10 * terms + 4 * contexts + 20 * lines

-- number 1: the length is 16 to 52,240
unfoldable pub length_fits : ℕ → Bool
length_fits n = leb 16 n && leb n 52240

-- "Number 2 is now for a wrong mark or an edition not yet defined" (document 02, A5)
unfoldable pub mark_fits : Trailer → Bool
mark_fits t = eqb t.mark 0x4C44 && edition_known t.edition

-- number 3: the counts keep their limits
unfoldable pub limits_fit : Trailer → Bool
limits_fit t = leb t.terms 3072 && leb t.contexts 256 && leb t.lines 1024

-- number 3: the distances and the length agree with the counts
unfoldable pub distances_fit : Trailer → ℕ → Bool
distances_fit t n =
    eqb t.to_terms (distance_to_terms t.terms t.contexts t.lines) && eqb t.to_contexts (distance_to_contexts t.contexts t.lines)
    && eqb t.to_lines (distance_to_lines t.lines) && eqb n (distance_to_terms t.terms t.contexts t.lines + 16)

-- number 3
unfoldable pub counts_fit : Trailer → ℕ → Bool
counts_fit t n = limits_fit t && distances_fit t n

-- numbers 2, 3 and 4 of a trailer, for a length and a number of words in the work buffer
unfoldable pub trailer_answer : Trailer → ℕ → ℕ → Result Counts Fault
trailer_answer t n work =
    elim (mark_fits t) [
      | false ↦ Err Mark
      | true ↦
          elim (counts_fit t n) [
            | false ↦ Err CountsFault
            | true ↦ elim (leb t.terms work) [ false ↦ Err WorkBuffer | true ↦ Ok (counts t.terms t.contexts t.lines) ]
          ]
    ]

-- the first of 1 to 4 that is broken, or the counts
unfoldable pub layout_of : List ℕ → ℕ → Result Counts Fault
layout_of bytes work = elim (length_fits (length bytes)) [ false ↦ Err Length | true ↦ trailer_answer (trailer_of bytes) (length bytes) work ]
