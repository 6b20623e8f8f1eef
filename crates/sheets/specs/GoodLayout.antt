-- The trailer and the length of a sheet, stated without computing: document 01, "The sheet" and "What the desk says",
-- numbers 1 to 4.
use Rattle.std.specs.Prelude.{◌≡◌, List, ℕ, ◌+◌, ◌≤◌, ◌<◌, length}
use Rattle.rules.specs.Editions.{IsEdition}
use Rattle.sheets.specs.declared.layout.Trailer.{Trailer}
use Rattle.sheets.specs.declared.refusals.Fault.{Fault}
use Rattle.sheets.specs.declared.refusals.Fault.TheVariants.{Length, Mark, Counts as CountsFault, WorkBuffer}
use Rattle.sheets.specs.Layout.{trailer_of, edition_of, distance_to_lines, distance_to_contexts, distance_to_terms}

-- the trailer of a sheet of this edition with these counts
unfoldable pub trailer_for : ℕ → ℕ → ℕ → ℕ → Trailer
trailer_for edition T C L =
    record {
      terms = T;
      contexts = C;
      lines = L;
      edition = edition;
      to_terms = distance_to_terms T C L;
      to_contexts = distance_to_contexts C L;
      to_lines = distance_to_lines L;
      mark = 0x4C44;
    }

-- trailer, limits and length of a sheet with these counts; its edition is its own, and is defined (document 02, A5)
pub record LaidOut (bytes : List ℕ) (T C L : ℕ) : Type 0 where
  pub trailer : trailer_of bytes ≡ trailer_for (edition_of bytes) T C L
  pub edition : IsEdition (edition_of bytes)
  pub few_terms : T ≤ 3072
  pub few_contexts : C ≤ 256
  pub few_lines : L ≤ 1024
  pub long : length bytes ≡ distance_to_terms T C L + 16

-- number 1 passes
abbrev pub RightLength : List ℕ → Type 0
RightLength bytes = (16 ≤ length bytes) × (length bytes ≤ 52240)

-- number 2 passes (document 02, A5)
abbrev pub Marked : Trailer → Type 0
Marked t = (t.mark ≡ 0x4C44) × IsEdition t.edition

-- the first of numbers 1 to 4 that fails, with a work buffer of the given number of words; there is no other fault
pub data LayoutFault (bytes : List ℕ) (work : ℕ) : Fault → Type 0 where
  wrong_length : (RightLength bytes → ⊥) → LayoutFault bytes work Length
  not_marked : RightLength bytes → (Marked (trailer_of bytes) → ⊥) → LayoutFault bytes work Mark
  disagreeing : RightLength bytes → Marked (trailer_of bytes) → ((T C L : ℕ) → LaidOut bytes T C L → ⊥) → LayoutFault bytes work CountsFault
  short_work : (T C L : ℕ) → LaidOut bytes T C L → work < T → LayoutFault bytes work WorkBuffer
