-- What a withdrawal leaves in the output, stated by index: document 01, "Withdrawal of line n writes the sheet without
-- that line, premises above n lowered by 1, L and the distances lowered; output beyond the new length is untouched, and
-- so is all output on any refusal." Laws output_left, output_only: it is just this.
use Rattle.std.specs.Prelude.{◌≡◌, List, ℕ, suc, ◌+◌, ◌-◌, ◌*◌, ◌≤◌, ◌<◌, length, get_or, take, Result, Ok, Err}
use Rattle.terms.specs.Words.{word_at}
use Rattle.sheets.specs.declared.refusals.Refusal.{Refusal}
use Rattle.sheets.specs.Layout.{lines_in, trailer_of, edition_of}
use Rattle.sheets.specs.Lines.{line_word}
use Rattle.sheets.specs.GoodLayout.{LaidOut}
use Rattle.sheets.specs.Withdrawal.{lower_premise}

-- line k of the new lines is line m of the old ones, as it stands once line n is away; words 6 to 9 are the premises
pub record MovedLine (n : ℕ) (old new : List ℕ) (m k : ℕ) : Type 0 where
  pub fields : (j : ℕ) → j < 6 → line_word new k j ≡ line_word old m j
  pub premises : (j : ℕ) → 6 ≤ j → j < 10 → line_word new k j ≡ lower_premise n (line_word old m j)

-- the new sheet is the old one, of T terms, C contexts and L lines, without line n: its edition is the old one's, its
-- trailer and its length are those of one line fewer
pub record LineAway (old new : List ℕ) (T C L n : ℕ) : Type 0 where
  pub tables : (i : ℕ) → i < 5 * T + 2 * C → word_at new i ≡ word_at old i
  pub before : (k : ℕ) → k < n → MovedLine n (lines_in old T C) (lines_in new T C) k k
  pub behind : (k : ℕ) → n ≤ k → suc k < L → MovedLine n (lines_in old T C) (lines_in new T C) (suc k) k
  pub edition : edition_of new ≡ edition_of old
  pub laid : LaidOut new T C (L - 1)

-- the output up to the new length is the new sheet; the counts of the old one are those of its trailer
pub record WrittenLeft (bytes : List ℕ) (n : ℕ) (before after : List ℕ) (new : ℕ) : Type 0 where
  pub shorter : new + 20 ≡ length bytes
  pub sheet : LineAway bytes (take new after)
      (trailer_of bytes).terms (trailer_of bytes).contexts (trailer_of bytes).lines n
  pub long : length after ≡ length before
  pub beyond : (i : ℕ) → new ≤ i → get_or after i 0 ≡ get_or before i 0

-- what each answer leaves, for a sheet, a line's number and the output before and after
unfoldable pub OutputLeft : List ℕ → ℕ → List ℕ → List ℕ → Result ℕ Refusal → Type 0
OutputLeft bytes n before after (Ok new) = WrittenLeft bytes n before after new
OutputLeft bytes n before after (Err _) = after ≡ before
