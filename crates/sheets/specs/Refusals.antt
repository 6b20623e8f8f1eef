-- What is refused, under which number: document 01, "What the desk says", and the requests of document 02. "A refusal
-- added later has place 0 where no place is named, but a refused term number is its own place."
use Rattle.std.specs.Prelude.{ℕ, Result, Err}
use Rattle.terms.specs.Faults.{number_of as row_number}
use Rattle.sheets.specs.declared.refusals.Fault.{Fault}
use Rattle.sheets.specs.declared.refusals.Fault.TheVariants.{
  Length,
  Mark,
  Counts as CountsFault,
  WorkBuffer,
  Term,
  Context,
  Numbers,
  NoInstance,
  NoLine,
  LineUsed,
  Room,
  NotStated,
  NoTerm,
  NotRising,
  AnswerRoom,
  UpToDate,
  NoMotive,
}
use Rattle.sheets.specs.declared.refusals.Refusal.{Refusal}
use Rattle.sheets.specs.declared.refusals.Counts.{Counts}

unfoldable pub number_of : Fault → ℕ
number_of Length = 1  -- "length under 16 or over 52,240"
number_of Mark = 2  -- "mark or edition wrong"; 02, A5: "an edition not yet defined"
number_of CountsFault = 3  -- "a count over its limit, or distances or length disagree with the counts"
number_of WorkBuffer = 4  -- "work buffer under T words of 32 bits"
number_of (Term row) = row_number row  -- 5 to 7, a term row
number_of Context = 8  -- "context row: parent, type number or repetition"
number_of Numbers = 9  -- "line: form, rule, form not that rule's, a number out of range, unused field not 0, or a
-- premise not earlier"
number_of NoInstance = 10  -- "line is no instance of its rule"
number_of NoLine = 11  -- "withdrawal: no such line"
number_of LineUsed = 12  -- "withdrawal: a later line uses it as a premise"
number_of Room = 13  -- "withdrawal: output under the new length"; 02, A11: "a short output"
number_of NotStated = 14  -- "finding: no line has those five numbers"
number_of NoTerm = 17  -- 02, A2: "a term number not below T"
number_of NotRising = 18  -- 02, A6: "a list that does not rise strictly"
number_of AnswerRoom = 19  -- 02, A7: "an answer buffer shorter than the list"
number_of UpToDate = 20  -- 02, A11: "an edition 3 sheet"
number_of NoMotive = 21  -- 02, A11: "a line without such an earlier line"

-- the fault at this place
abbrev pub refusal : Fault → ℕ → Refusal
refusal fault place = record { fault = fault; place = place }

abbrev pub refused : {A : Type 0} → Fault → ℕ → Result A Refusal
refused fault place = Err (refusal fault place)

-- T terms, C contexts, L lines
abbrev pub counts : ℕ → ℕ → ℕ → Counts
counts T C L = record { terms = T; contexts = C; lines = L }
