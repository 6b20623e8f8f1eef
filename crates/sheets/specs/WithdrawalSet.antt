-- What withdrawal of a set of lines answers, and the sheet that it writes: document 02, A6.
use Rattle.std.specs.Prelude.{◌≡◌, true, false, not, ◌&&◌, List, [], ◌∷◌, ℕ, suc, ◌+◌, ◌-◌, ◌≤◌, ◌<◌, leb, ltb, length, take, Result, Ok, Err}
use Rattle.terms.specs.Search.{first_at}
use Rattle.sheets.specs.declared.refusals.Counts.{Counts}
use Rattle.sheets.specs.declared.refusals.Fault.TheVariants.{NoLine, LineUsed, Room, NotRising}
use Rattle.sheets.specs.declared.refusals.Refusal.{Refusal}
use Rattle.sheets.specs.Refusals.{refused}
use Rattle.sheets.specs.Layout.{edition_of, lines_in, distance_to_terms}
use Rattle.sheets.specs.Lines.{line_of}
use Rattle.sheets.specs.Admission.{admit_of}
use Rattle.sheets.specs.Accepted.{IsAccepted, stated_by}
use Rattle.sheets.specs.LineSets.{rises, Rises, is_listed, Listed, Stays, last_listed, without_places}
use Rattle.sheets.specs.Withdrawal.{uses, Uses, after_use, out_from, without_line}

-- the first L lines of a sheet of this edition, of which some are listed
module _ (edition : ℕ) (lines : List ℕ) (L : ℕ) (set : List ℕ) where
  -- the lowest line that stays and uses line n; L if none does
  unfoldable pub first_kept_use : ℕ → ℕ
  first_kept_use n = first_at (λ k. not (is_listed set k) && uses (line_of edition lines k) n) (λ k. k) L L 0

  -- the same of the highest listed line for which there is one, sought from the last line down; L if there is none
  unfoldable pub kept_use : ℕ
  kept_use =
      first_at (λ i. is_listed set (L - suc i) && ltb (first_kept_use (L - suc i)) L) (λ i. first_kept_use (L - suc i)) L L 0

-- the length of a sheet of T terms, C contexts and L lines without the listed ones
unfoldable pub kept_length : ℕ → ℕ → ℕ → List ℕ → ℕ
kept_length T C L set = distance_to_terms T C (L - length set) + 16

-- numbers 12 and 13, "measured against the final length only"
unfoldable pub kept_answer : List ℕ → ℕ → ℕ → ℕ → List ℕ → ℕ → Result ℕ Refusal
kept_answer bytes T C L set room =
    after_use L (kept_length T C L set) room (kept_use (edition_of bytes) (lines_in bytes T C) L set)

-- Numbers 18, 11, then 12 and 13. The list rises where 11 is tested, so its last number is the highest.
unfoldable pub after_set : List ℕ → ℕ → ℕ → ℕ → List ℕ → ℕ → Result ℕ Refusal
after_set bytes T C L set room =
    elim (rises set) [
      | false ↦ refused NotRising 0
      | true ↦
          elim (ltb 0 (length set) && leb L (last_listed set)) [
            | true ↦ refused NoLine (last_listed set)
            | false ↦ kept_answer bytes T C L set room
          ]
    ]

-- "after the sheet is admitted and before 11"
unfoldable pub withdraw_set_after : List ℕ → List ℕ → ℕ → Result Counts Refusal → Result ℕ Refusal
withdraw_set_after bytes set room (Err r) = Err r
withdraw_set_after bytes set room (Ok c) = after_set bytes c.terms c.contexts c.lines set room

-- the answer for a sheet, a set, a work buffer of so many words and an output of so many bytes
unfoldable pub withdraw_set_of : List ℕ → List ℕ → ℕ → ℕ → Result ℕ Refusal
withdraw_set_of bytes set work room = withdraw_set_after bytes set room (admit_of bytes work)

-- "what single withdrawals would give, taken from the highest number down"; "an empty set gives the sheet itself"
unfoldable pub without_lines : List ℕ → List ℕ → List ℕ
without_lines bytes [] = bytes
without_lines bytes (n ∷ set) = without_line (without_lines bytes set) n

-- the output afterwards, for a sheet, a set, a work buffer of so many words and the output before
unfoldable pub set_out_after : List ℕ → List ℕ → ℕ → List ℕ → List ℕ
set_out_after bytes set work before =
    out_from (without_lines bytes set) before (withdraw_set_of bytes set work (length before))

-- every listed number is a line
abbrev pub AllLines : ℕ → List ℕ → Type 0
AllLines L set = (n : ℕ) → Listed set n → n < L

-- n is the highest listed number that is no line
pub record HighestMissing (L : ℕ) (set : List ℕ) (n : ℕ) : Type 0 where
  pub listed : Listed set n
  pub missing : L ≤ n
  pub highest : (m : ℕ) → Listed set m → L ≤ m → m ≤ n

-- line k of a sheet of this edition stays and has n among its used premises
abbrev pub KeptUses : ℕ → List ℕ → List ℕ → ℕ → ℕ → Type 0
KeptUses edition lines set n k = Stays set k × Uses (line_of edition lines k) n

module _ (edition : ℕ) (lines : List ℕ) (L : ℕ) (set : List ℕ) where
  -- n is the highest listed line that a line which stays uses, and p is the lowest such line
  pub record HighestUsed (n p : ℕ) : Type 0 where
    pub listed : Listed set n
    pub within : p < L
    pub uses : KeptUses edition lines set n p
    pub lowest : (k : ℕ) → k < p → KeptUses edition lines set n k → ⊥
    pub highest : (m : ℕ) → n < m → Listed set m → (k : ℕ) → k < L → KeptUses edition lines set m k → ⊥

  -- no line that stays uses a listed one
  abbrev pub NoneUsed : Type 0
  NoneUsed = (n : ℕ) → Listed set n → (k : ℕ) → k < L → KeptUses edition lines set n k → ⊥

-- what each answer means for an accepted sheet with these counts; there is no other
pub data AdmittedSetMeans (bytes : List ℕ) (T C L : ℕ) (set : List ℕ) (room : ℕ) : Result ℕ Refusal → Type 0 where
  not_rising : (Rises set → ⊥) → AdmittedSetMeans bytes T C L set room (refused NotRising 0)
  beyond : {n : ℕ} → Rises set → HighestMissing L set n → AdmittedSetMeans bytes T C L set room (refused NoLine n)
  cited : {n p : ℕ} → Rises set → AllLines L set → HighestUsed (edition_of bytes) (lines_in bytes T C) L set n p
      → AdmittedSetMeans bytes T C L set room (refused LineUsed p)
  too_short : Rises set → AllLines L set → NoneUsed (edition_of bytes) (lines_in bytes T C) L set
      → room < kept_length T C L set → AdmittedSetMeans bytes T C L set room (refused Room 0)
  withdrawn : Rises set → AllLines L set → NoneUsed (edition_of bytes) (lines_in bytes T C) L set
      → kept_length T C L set ≤ room → AdmittedSetMeans bytes T C L set room (Ok (kept_length T C L set))

-- Demand 3 (c) for a set: if a length is answered, the old sheet and the new one, the output up to that length, are
-- accepted, and the new one states the old judgments in order, the listed ones missing.
unfoldable pub KeepsTheUnlisted : List ℕ → List ℕ → List ℕ → Result ℕ Refusal → Type 0
KeepsTheUnlisted old set after (Err _) = Unit {0}
KeepsTheUnlisted old set after (Ok new) =
    IsAccepted old × IsAccepted (take new after) × (stated_by (take new after) ≡ without_places set (stated_by old))
