-- Whether a term of a sheet is normal: document 02, A2. "It refuses as admission does, and a term number not below T
-- with 17 after that."
use Rattle.std.specs.Prelude.{Bool, true, false, List, ℕ, ◌≤◌, ◌<◌, ltb, Result, Ok, Err}
use Rattle.terms.specs.Rows.{term}
use Rattle.terms.specs.NormalForms.{Normal, is_normal}
use Rattle.sheets.specs.declared.refusals.Counts.{Counts}
use Rattle.sheets.specs.declared.refusals.Fault.{Fault}
use Rattle.sheets.specs.declared.refusals.Fault.TheVariants.{NoTerm}
use Rattle.sheets.specs.declared.refusals.Refusal.{Refusal}
use Rattle.sheets.specs.Refusals.{refused}
use Rattle.sheets.specs.Admission.{admit_of}
use Rattle.sheets.specs.Good.{Good, FirstFault}

-- number 17, then "yes for a term exactly if it is normal", for term t of a sheet with T terms; "a refused term number
-- is its own place" (document 01)
unfoldable pub after_term : List ℕ → ℕ → ℕ → Result Bool Refusal
after_term bytes T t = elim (ltb t T) [ false ↦ refused NoTerm t | true ↦ Ok (is_normal (term bytes t)) ]

-- "It refuses as admission does"
unfoldable pub normality_after : List ℕ → ℕ → Result Counts Refusal → Result Bool Refusal
normality_after bytes t (Err r) = Err r
normality_after bytes t (Ok n) = after_term bytes n.terms t

-- the answer for a sheet, a term's number and a work buffer of so many words
unfoldable pub normality_of : List ℕ → ℕ → ℕ → Result Bool Refusal
normality_of bytes t work = normality_after bytes t (admit_of bytes work)

-- What each answer means, for any sheet and work buffer; there is no other. Admission's refusals have numbers 1 to 10,
-- so no answer means two things.
pub data NormalityMeans (bytes : List ℕ) (t work : ℕ) : Result Bool Refusal → Type 0 where
  faulty : {fault : Fault} {place : ℕ} → FirstFault bytes work fault place
      → NormalityMeans bytes t work (refused fault place)
  missing : {T C L : ℕ} → Good bytes T C L → T ≤ work → T ≤ t → NormalityMeans bytes t work (refused NoTerm t)
  normal : {T C L : ℕ} → Good bytes T C L → T ≤ work → t < T → Normal (term bytes t)
      → NormalityMeans bytes t work (Ok true)
  not_normal : {T C L : ℕ} → Good bytes T C L → T ≤ work → t < T → (Normal (term bytes t) → ⊥)
      → NormalityMeans bytes t work (Ok false)
