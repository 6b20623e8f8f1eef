-- What a conversion leaves in the output, stated by index: document 02, A11. Laws conversion_left, conversion_only: it
-- is just this.
use Rattle.std.specs.Prelude.{◌≡◌, List, ℕ, suc, ◌+◌, ◌*◌, ◌≤◌, ◌<◌, length, get_or, take, Result, Ok, Err}
use Rattle.terms.specs.Words.{word_at}
use Rattle.sheets.specs.declared.refusals.Refusal.{Refusal}
use Rattle.sheets.specs.Layout.{lines_in, trailer_of, edition_of}
use Rattle.sheets.specs.Lines.{line_word}
use Rattle.sheets.specs.GoodLayout.{LaidOut}
use Rattle.sheets.specs.Conversion.{new_edition, WantsMotive, LowestMotive}

-- line n of the new lines is that of the old ones with the motive's line before its premises, words 6 to 9
pub record MotiveAdded (bytes : List ℕ) (T C : ℕ) (new : List ℕ) (n : ℕ) : Type 0 where
  pub fields : (j : ℕ) → j < 6 → line_word new n j ≡ line_word (lines_in bytes T C) n j
  pub motive : LowestMotive bytes T C n (line_word new n 6)
  pub premises : (j : ℕ) → 6 ≤ j → j < 9 → line_word new n (suc j) ≡ line_word (lines_in bytes T C) n j

-- the new sheet is the old one, of T terms, C contexts and L lines, with the motives added and in the new edition;
-- "nothing else differs"
pub record MotivesAdded (old new : List ℕ) (T C L : ℕ) : Type 0 where
  pub tables : (i : ℕ) → i < 5 * T + 2 * C → word_at new i ≡ word_at old i
  pub others : (n : ℕ) → n < L → (WantsMotive old T C n → ⊥)
      → (j : ℕ) → j < 10 → line_word (lines_in new T C) n j ≡ line_word (lines_in old T C) n j
  pub added : (n : ℕ) → n < L → WantsMotive old T C n → MotiveAdded old T C (lines_in new T C) n
  pub edition : edition_of new ≡ new_edition
  pub laid : LaidOut new T C L

-- the output up to the length is the new sheet; the counts are those of the old one's trailer
pub record ConvertedLeft (bytes before after : List ℕ) (new : ℕ) : Type 0 where
  pub same : new ≡ length bytes
  pub sheet : MotivesAdded bytes (take new after)
      (trailer_of bytes).terms (trailer_of bytes).contexts (trailer_of bytes).lines
  pub long : length after ≡ length before
  pub beyond : (i : ℕ) → new ≤ i → get_or after i 0 ≡ get_or before i 0

-- what each answer leaves, for a sheet and the output before and after
unfoldable pub ConversionLeft : List ℕ → List ℕ → List ℕ → Result ℕ Refusal → Type 0
ConversionLeft bytes before after (Ok new) = ConvertedLeft bytes before after new
ConversionLeft bytes before after (Err _) = after ≡ before
