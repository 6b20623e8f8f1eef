-- Answers as lines of text: document 01, "The admitting program reads standard input and prints `ok` with T, C and L,
-- or `refused` with number and place, fields parted by one space, then a newline."
use Rattle.std.specs.Prelude.{Bool, true, false, List, [], ◌∷◌, ◌++◌, ℕ, codes, decimal, flat_map}
use Rattle.std.specs.Prelude.{Option, Some, None, Result, Ok, Err}
use Rattle.sheets.specs.declared.refusals.Counts.{Counts}
use Rattle.sheets.specs.declared.refusals.Refusal.{Refusal}
use Rattle.sheets.specs.Refusals.{number_of}
use Rattle.windows.specs.declared.dates.Date.{Date}
use Rattle.windows.specs.declared.access.Access.{Access}
use Rattle.windows.specs.declared.access.Access.TheVariants.{Open, Closed}
use Rattle.windows.specs.declared.errors.WindowError.{WindowError}
use Rattle.windows.specs.Dates.{day_number_of}
use Rattle.windows.specs.Access.{window_of, open_on}
use Rattle.windows.specs.Errors.{number_of as window_number}

-- a space and the digits of a number
abbrev pub field : ℕ → List ℕ
field n = 32 ∷ decimal n

-- the line end
abbrev pub end : List ℕ
end = 10 ∷ []

-- a word, numbers and the line end
abbrev pub line_text : List ℕ → List ℕ → List ℕ
line_text word numbers = word ++ (flat_map field numbers ++ end)

abbrev pub refused_text : ℕ → ℕ → List ℕ
refused_text number place = line_text (codes "refused") (number ∷ place ∷ [])

-- one number
abbrev pub ok_text : ℕ → List ℕ
ok_text value = line_text (codes "ok") (value ∷ [])

abbrev pub counts_text : Counts → List ℕ
counts_text n = line_text (codes "ok") (n.terms ∷ n.contexts ∷ n.lines ∷ [])

-- document 02, A2: "answers yes for a term exactly if it is normal"
abbrev pub normal_text : Bool → List ℕ
normal_text true = codes "yes\n"
normal_text false = codes "no\n"

-- document 02, A1: "answers open or closed"
abbrev pub open_text : Access → List ℕ
open_text Open = codes "open\n"
open_text Closed = codes "closed\n"

abbrev pub refusal_text : Refusal → List ℕ
refusal_text r = refused_text (number_of r.fault) r.place

-- no place goes with these
abbrev pub window_error_text : WindowError → List ℕ
window_error_text e = refused_text (window_number e) 0

-- of what is answered, or of why it is refused
abbrev pub result_text : {A E : Type 0} → (A → List ℕ) → (E → List ℕ) → Result A E → List ℕ
result_text value error (Ok a) = value a
result_text value error (Err e) = error e

abbrev pub admission_text : Result Counts Refusal → List ℕ
admission_text = result_text counts_text refusal_text

-- the line that a search finds, or the length that a withdrawal or a conversion answers; document 02, A11: "It answers
-- that length"
abbrev pub value_text : Result ℕ Refusal → List ℕ
value_text = result_text ok_text refusal_text

abbrev pub normality_text : Result Bool Refusal → List ℕ
normality_text = result_text normal_text refusal_text

abbrev pub access_text : Result Access WindowError → List ℕ
access_text = result_text open_text window_error_text

abbrev pub day_text : Result ℕ WindowError → List ℕ
day_text = result_text ok_text window_error_text

-- the answer of a window to a date, if all three are dates in text; else nothing
unfoldable pub window_text : Option Date → Option Date → Option Date → Option (List ℕ)
window_text (Some first) (Some last) (Some day) = Some (access_text (open_on (window_of first last) day))
window_text (Some first) (Some last) None = None
window_text (Some first) None day = None
window_text None last day = None

-- the number of a date's day likewise
unfoldable pub date_text : Option Date → Option (List ℕ)
date_text (Some date) = Some (day_text (day_number_of date))
date_text None = None

-- one answer a line
abbrev pub answer_line : ℕ → List ℕ
answer_line n = decimal n ++ end

abbrev pub answer_lines : List ℕ → List ℕ
answer_lines = flat_map answer_line

-- document 02, A7: how many judgments, then the answer for each
unfoldable pub batch_text : Result ℕ Refusal → List ℕ → List ℕ
batch_text (Ok count) answers = ok_text count ++ answer_lines answers
batch_text (Err r) answers = refusal_text r
