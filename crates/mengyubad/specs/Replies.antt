-- Answers as numbers, for programs in other languages: the papers' number and values for each case. Number 0 is
-- success.
use Rattle.std.specs.Prelude.{◌≡◌, Bool, true, false, List, [], ◌∷◌, ℕ, get_or, Result, Ok, Err}
use Rattle.sheets.specs.declared.refusals.Counts.{Counts}
use Rattle.sheets.specs.declared.refusals.Refusal.{Refusal}
use Rattle.sheets.specs.Refusals.{number_of as fault_number}
use Rattle.windows.specs.declared.dates.Date.{Date}
use Rattle.windows.specs.declared.access.Access.{Access}
use Rattle.windows.specs.declared.access.Access.TheVariants.{Open, Closed}
use Rattle.windows.specs.declared.errors.WindowError.{WindowError}
use Rattle.windows.specs.Errors.{number_of}
use Rattle.windows.specs.Dates.{date_of}
use Rattle.mengyubad.specs.declared.Reply.{Reply}

-- a number with one value; the other two are 0
abbrev pub one_value : ℕ → ℕ → Reply
one_value number value = record { number = number; first = value; second = 0; third = 0 }

-- an answer by its value, or by its refusal
abbrev pub reply_of : {T E : Type 0} → (T → Reply) → (E → Reply) → Result T E → Reply
reply_of value refusal (Ok x) = value x
reply_of value refusal (Err e) = refusal e

-- a refusal of a sheet has its number and its place
abbrev pub refused_reply : Refusal → Reply
refused_reply refusal = one_value (fault_number refusal.fault) refusal.place

-- "T, C, L | admitted"
abbrev pub counts_value : Counts → Reply
counts_value counts = record { number = 0; first = counts.terms; second = counts.contexts; third = counts.lines }

abbrev pub admission_reply : Result Counts Refusal → Reply
admission_reply = reply_of counts_value refused_reply

-- "line number | judgment found"
abbrev pub found_reply : Result ℕ Refusal → Reply
found_reply = reply_of (one_value 0) refused_reply

-- "The batch returns the list's length" (document 02, A7)
abbrev pub batch_reply : Result ℕ Refusal → Reply
batch_reply = reply_of (one_value 0) refused_reply

-- "new length | line withdrawn"
abbrev pub withdrawal_reply : Result ℕ Refusal → Reply
withdrawal_reply = reply_of (one_value 0) refused_reply

-- "It answers that length" (document 02, A11)
abbrev pub conversion_reply : Result ℕ Refusal → Reply
conversion_reply = reply_of (one_value 0) refused_reply

-- 1 for yes, 0 for no
abbrev pub yes_or_no : Bool → Reply
yes_or_no true = one_value 0 1
yes_or_no false = one_value 0 0

abbrev pub normality_reply : Result Bool Refusal → Reply
normality_reply = reply_of yes_or_no refused_reply

-- a refusal of dates has its number, and no place
abbrev pub window_refusal : WindowError → Reply
window_refusal refusal = one_value (number_of refusal) 0

-- the number of a day
abbrev pub day_reply : Result ℕ WindowError → Reply
day_reply = reply_of (one_value 0) window_refusal

-- 1 for open, 0 for closed
abbrev pub access_value : Access → Reply
access_value Open = one_value 0 1
access_value Closed = one_value 0 0

abbrev pub access_reply : Result Access WindowError → Reply
access_reply = reply_of access_value window_refusal

-- three numbers: year, month, day
unfoldable pub date_from : List ℕ → Date
date_from l = date_of (get_or l 0 0) (get_or l 1 0) (get_or l 2 0)

-- a caller is given this reply: its number as the result, its values in three words
abbrev pub Given : Reply → ℕ → List ℕ → Type 0
Given reply number values = (number ≡ reply.number) × (values ≡ reply.first ∷ reply.second ∷ reply.third ∷ [])
