-- What a search for a judgment answers: document 01, "What the desk says", and 02, A8; and what it means, without
-- computing, that a line is the easiest with the numbers. The search itself stands apart from admission.
use Rattle.std.specs.Prelude.{◌≡◌, Bool, ◌&&◌, List, ℕ, eqb, Option, Some, None, Result, Ok, Err}
use Rattle.rules.specs.declared.judgments.LineJudgment.{LineJudgment}
use Rattle.sheets.specs.declared.refusals.Counts.{Counts}
use Rattle.sheets.specs.declared.refusals.Fault.TheVariants.{NotStated}
use Rattle.sheets.specs.declared.refusals.Refusal.{Refusal}
use Rattle.sheets.specs.declared.finding.Wanted.{Wanted}
use Rattle.sheets.specs.Refusals.{refused}
use Rattle.sheets.specs.Layout.{edition_of, lines_in}
use Rattle.sheets.specs.Lines.{line_of, judgment_of}
use Rattle.sheets.specs.Heights.{line_height}
use Rattle.sheets.specs.Easiest.{easiest, Easiest}
use Rattle.sheets.specs.Admission.{admit_of}

-- a judgment has the five numbers (form, context, s1, s2, s3)
unfoldable pub has_numbers : LineJudgment → Wanted → Bool
has_numbers j w = eqb j.form w.form && eqb j.context w.context && eqb j.s1 w.s1 && eqb j.s2 w.s2 && eqb j.s3 w.s3

-- the line that was found, or number 14
unfoldable pub found_line : Option ℕ → Result ℕ Refusal
found_line None = refused NotStated 0
found_line (Some n) = Ok n

-- the easiest of the first count lines of a sheet of this edition that has the numbers; number 14 if none has
unfoldable pub search_lines : ℕ → List ℕ → ℕ → Wanted → Result ℕ Refusal
search_lines edition lines count w =
    found_line (easiest (λ n. has_numbers (judgment_of (line_of edition lines n)) w) (line_height edition lines) count)

-- "Withdrawal and finding admit the sheet first and return its refusal"
unfoldable pub find_after : List ℕ → Wanted → Result Counts Refusal → Result ℕ Refusal
find_after bytes w (Err r) = Err r
find_after bytes w (Ok n) = search_lines (edition_of bytes) (lines_in bytes n.terms n.contexts) n.lines w

unfoldable pub find_of : List ℕ → ℕ → Wanted → Result ℕ Refusal
find_of bytes work w = find_after bytes w (admit_of bytes work)

-- a judgment has the five numbers that are looked for
pub record HasNumbers (j : LineJudgment) (w : Wanted) : Type 0 where
  pub form : j.form ≡ w.form
  pub context : j.context ≡ w.context
  pub s1 : j.s1 ≡ w.s1
  pub s2 : j.s2 ≡ w.s2
  pub s3 : j.s3 ≡ w.s3

-- line n of the lines of a sheet of this edition has them
abbrev pub LineHas : ℕ → List ℕ → Wanted → ℕ → Type 0
LineHas edition lines w n = HasNumbers (judgment_of (line_of edition lines n)) w

-- line i is the easiest of the first count lines that has them
abbrev pub EasiestLine : ℕ → List ℕ → ℕ → Wanted → ℕ → Type 0
EasiestLine edition lines count w i = Easiest (LineHas edition lines w) (line_height edition lines) count i
