-- What each answer of finding, of withdrawal and of conversion means, for any sheet and work buffer: document 01,
-- "Withdrawal and finding admit the sheet first and return its refusal, then 11, 12, 13, or 14"; document 02: a set is
-- refused with 18 "after the sheet is admitted", and the converter refuses with 20, 21 and 13 "after admission".
-- Admission's refusals have numbers 1 to 10, so no answer means two things.
use Rattle.std.specs.Prelude.{List, ℕ, ◌≤◌, ◌<◌, Result, Ok}
use Rattle.sheets.specs.declared.finding.Wanted.{Wanted}
use Rattle.sheets.specs.declared.refusals.Fault.{Fault}
use Rattle.sheets.specs.declared.refusals.Fault.TheVariants.{NotStated}
use Rattle.sheets.specs.declared.refusals.Refusal.{Refusal}
use Rattle.sheets.specs.Refusals.{refused}
use Rattle.sheets.specs.Layout.{edition_of, lines_in}
use Rattle.sheets.specs.Good.{Good, FirstFault}
use Rattle.sheets.specs.Finding.{LineHas, EasiestLine}
use Rattle.sheets.specs.Withdrawal.{AdmittedWithdrawalMeans}
use Rattle.sheets.specs.WithdrawalSet.{AdmittedSetMeans}
use Rattle.sheets.specs.Conversion.{AdmittedConversionMeans}

pub data FoundMeans (bytes : List ℕ) (work : ℕ) (w : Wanted) : Result ℕ Refusal → Type 0 where
  faulty : {fault : Fault} {place : ℕ} → FirstFault bytes work fault place
      → FoundMeans bytes work w (refused fault place)
  found : {T C L i : ℕ} → Good bytes T C L → T ≤ work → EasiestLine (edition_of bytes) (lines_in bytes T C) L w i
      → FoundMeans bytes work w (Ok i)
  absent : {T C L : ℕ} → Good bytes T C L → T ≤ work
      → ((n : ℕ) → n < L → LineHas (edition_of bytes) (lines_in bytes T C) w n → ⊥)
      → FoundMeans bytes work w (refused NotStated 0)

-- an answer that hands on what admission refuses, where `Admitted` says what the others mean for an accepted sheet with
-- these counts
pub data AnswerMeans {A : Type 0} (bytes : List ℕ) (work : ℕ)
    (Admitted : ℕ → ℕ → ℕ → Result A Refusal → Type 0) : Result A Refusal → Type 0 where
  unfit : {fault : Fault} {place : ℕ} → FirstFault bytes work fault place
      → AnswerMeans bytes work Admitted (refused fault place)
  admitted : {T C L : ℕ} {a : Result A Refusal} → Good bytes T C L → T ≤ work → Admitted T C L a
      → AnswerMeans bytes work Admitted a

-- a withdrawal, for line n and an output of so many bytes
abbrev pub WithdrawalMeans : List ℕ → ℕ → ℕ → ℕ → Result ℕ Refusal → Type 0
WithdrawalMeans bytes work n room = AnswerMeans bytes work (λ T C L. AdmittedWithdrawalMeans bytes T C L n room)

-- for a set of lines likewise (document 02, A6)
abbrev pub SetWithdrawalMeans : List ℕ → ℕ → List ℕ → ℕ → Result ℕ Refusal → Type 0
SetWithdrawalMeans bytes work set room = AnswerMeans bytes work (λ T C L. AdmittedSetMeans bytes T C L set room)

-- a conversion, for an output of so many bytes (document 02, A11)
abbrev pub ConversionMeans : List ℕ → ℕ → ℕ → Result ℕ Refusal → Type 0
ConversionMeans bytes work room = AnswerMeans bytes work (λ T C L. AdmittedConversionMeans bytes T C L room)
