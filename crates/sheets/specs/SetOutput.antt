-- What a withdrawal of a set leaves in the output, stated by index: document 02, A6. Laws set_output_left,
-- set_output_only: it is just this.
use Rattle.std.specs.Prelude.{◌≡◌, List, ℕ, ◌+◌, ◌-◌, ◌*◌, ◌≤◌, ◌<◌, length, get_or, take, Result, Ok, Err}
use Rattle.terms.specs.Words.{word_at}
use Rattle.sheets.specs.declared.refusals.Refusal.{Refusal}
use Rattle.sheets.specs.Layout.{lines_in, trailer_of, edition_of}
use Rattle.sheets.specs.Lines.{line_word}
use Rattle.sheets.specs.GoodLayout.{LaidOut}
use Rattle.sheets.specs.LineSets.{Stays, new_number}

-- line m of the new lines is line k of the old ones, each premise lowered by the listed lines below it; words 6 to 9
-- are the premises
pub record Renumbered (set old new : List ℕ) (k m : ℕ) : Type 0 where
  pub fields : (j : ℕ) → j < 6 → line_word new m j ≡ line_word old k j
  pub premises : (j : ℕ) → 6 ≤ j → j < 10 → line_word new m j ≡ new_number set (line_word old k j)

-- the new sheet is the old one, of T terms, C contexts and L lines, without the listed lines: the others follow one
-- another, its edition is the old one's, its trailer and its length are those of so many lines fewer
pub record LinesAway (old new : List ℕ) (T C L : ℕ) (set : List ℕ) : Type 0 where
  pub tables : (i : ℕ) → i < 5 * T + 2 * C → word_at new i ≡ word_at old i
  pub lines : (k : ℕ) → k < L → Stays set k
      → Renumbered set (lines_in old T C) (lines_in new T C) k (new_number set k)
  pub edition : edition_of new ≡ edition_of old
  pub laid : LaidOut new T C (L - length set)

-- the output up to the new length is the new sheet; the counts of the old one are those of its trailer
pub record SetWrittenLeft (bytes set before after : List ℕ) (new : ℕ) : Type 0 where
  pub shorter : new + 20 * length set ≡ length bytes
  pub sheet : LinesAway bytes (take new after)
      (trailer_of bytes).terms (trailer_of bytes).contexts (trailer_of bytes).lines set
  pub long : length after ≡ length before
  pub beyond : (i : ℕ) → new ≤ i → get_or after i 0 ≡ get_or before i 0

-- what each answer leaves, for a sheet, a set and the output before and after
unfoldable pub SetOutputLeft : List ℕ → List ℕ → List ℕ → List ℕ → Result ℕ Refusal → Type 0
SetOutputLeft bytes set before after (Ok new) = SetWrittenLeft bytes set before after new
SetOutputLeft bytes set before after (Err _) = after ≡ before
