-- What a batch of searches answers, and what it leaves in the buffer of answers: document 02, A7. All goes through the
-- single search (`find_of`).
use Rattle.std.specs.Prelude.{◌≡◌, true, false, List, map, ℕ, ◌*◌, ◌/◌, ◌≤◌, ◌<◌, ltb, length, get_or, drop, Result, Ok, Err}
use Rattle.terms.specs.Lists.{listed}
use Rattle.terms.specs.Buffers.{over}
use Rattle.sheets.specs.declared.refusals.Counts.{Counts}
use Rattle.sheets.specs.declared.refusals.Fault.{Fault}
use Rattle.sheets.specs.declared.refusals.Fault.TheVariants.{NotStated, AnswerRoom}
use Rattle.sheets.specs.declared.refusals.Refusal.{Refusal}
use Rattle.sheets.specs.declared.finding.Wanted.{Wanted}
use Rattle.sheets.specs.Refusals.{refused}
use Rattle.sheets.specs.Admission.{admit_of}
use Rattle.sheets.specs.Good.{Good, FirstFault}
use Rattle.sheets.specs.Finding.{find_of}
use Rattle.sheets.specs.Answered.{FoundMeans}

-- five numbers, in the order in which document 01 names them: form, context, s1, s2, s3
unfoldable pub wanted_of : List ℕ → Wanted
wanted_of l = record { form = get_or l 0 0; context = get_or l 1 0; s1 = get_or l 2 0; s2 = get_or l 3 0; s3 = get_or l 4 0 }

-- judgment i of a list; what stands beyond its end is never asked
abbrev pub no_judgment : Wanted
no_judgment = record { form = 0; context = 0; s1 = 0; s2 = 0; s3 = 0 }

abbrev pub wanted_at : List Wanted → ℕ → Wanted
wanted_at ws i = get_or ws i no_judgment

-- the judgments of a list of numbers, five a judgment, of which only whole judgments count
unfoldable pub wanted_in : List ℕ → List Wanted
wanted_in numbers = listed (λ i. wanted_of (drop (5 * i) numbers)) (length numbers / 5)

-- "Each answer is the line number that a single search gives, or 65,535 where a single search gives 14"
unfoldable pub answer_for : Result ℕ Refusal → ℕ
answer_for (Ok line) = line
answer_for (Err _) = 65535

-- the answers for a list, in order
abbrev pub search_answers : List ℕ → ℕ → List Wanted → List ℕ
search_answers bytes work ws = map (λ w. answer_for (find_of bytes work w)) ws

-- "The batch returns the list's length". "It refuses an answer buffer shorter than the list with 19, after admission's
-- own refusals"
unfoldable pub batch_after : ℕ → ℕ → Result Counts Refusal → Result ℕ Refusal
batch_after count room (Err r) = Err r
batch_after count room (Ok _) = elim (ltb room count) [ true ↦ refused AnswerRoom 0 | false ↦ Ok count ]

-- the answer for a sheet, a work buffer of so many words, so many judgments and room for so many answers
unfoldable pub batch_of : List ℕ → ℕ → ℕ → ℕ → Result ℕ Refusal
batch_of bytes work count room = batch_after count room (admit_of bytes work)

-- "answers beyond it are untouched"; a refusal "leaves that buffer untouched"
unfoldable pub answers_from : List ℕ → List ℕ → Result ℕ Refusal → List ℕ
answers_from answers before (Err _) = before
answers_from answers before (Ok _) = over answers before

-- the buffer of answers afterwards, for a sheet, a work buffer of so many words, the judgments and the buffer before
unfoldable pub answers_after : List ℕ → ℕ → List Wanted → List ℕ → List ℕ
answers_after bytes work ws before =
    answers_from (search_answers bytes work ws) before (batch_of bytes work (length ws) (length before))

-- what each answer of a batch means; there is no other
pub data BatchMeans (bytes : List ℕ) (work count room : ℕ) : Result ℕ Refusal → Type 0 where
  faulty : {fault : Fault} {place : ℕ} → FirstFault bytes work fault place
      → BatchMeans bytes work count room (refused fault place)
  short : {T C L : ℕ} → Good bytes T C L → T ≤ work → room < count → BatchMeans bytes work count room (refused AnswerRoom 0)
  all : {T C L : ℕ} → Good bytes T C L → T ≤ work → count ≤ room → BatchMeans bytes work count room (Ok count)

-- what the answer for one judgment means: a line is never 65,535, so none means two things
pub data SearchMeans (bytes : List ℕ) (work : ℕ) (w : Wanted) : ℕ → Type 0 where
  stated : {line : ℕ} → line < 1024 → FoundMeans bytes work w (Ok line) → SearchMeans bytes work w line
  absent : FoundMeans bytes work w (refused NotStated 0) → SearchMeans bytes work w 65535

-- what the buffer of answers holds after a batch that is not refused
pub record AnswersLeft (bytes : List ℕ) (work : ℕ) (ws : List Wanted) (before after : List ℕ) : Type 0 where
  pub long : length after ≡ length before
  pub each : (i : ℕ) → i < length ws → SearchMeans bytes work (wanted_at ws i) (get_or after i 0)
  pub beyond : (i : ℕ) → length ws ≤ i → get_or after i 0 ≡ get_or before i 0
