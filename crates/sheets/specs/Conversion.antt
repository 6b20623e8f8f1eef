-- What the converter answers, and the sheet that it writes: document 02, A11.
use Rattle.std.specs.Prelude.{◌≡◌, Bool, true, false, ◌&&◌, List, ℕ, ◌+◌, ◌-◌, ◌*◌, ◌/◌, ◌%◌, ◌≤◌, ◌<◌, leb, ltb, eqb, length, take, Result, Ok, Err}
use Rattle.terms.specs.Words.{word_at, bytes_of}
use Rattle.terms.specs.Search.{first_at}
use Rattle.terms.specs.Buffers.{over}
use Rattle.terms.specs.Lists.{listed}
use Rattle.rules.specs.Editions.{motive_asked, AsksMotive}
use Rattle.rules.specs.Motives.{gives_motive, GivesMotive}
use Rattle.sheets.specs.declared.refusals.Counts.{Counts}
use Rattle.sheets.specs.declared.refusals.Fault.TheVariants.{Room, UpToDate, NoMotive}
use Rattle.sheets.specs.declared.refusals.Refusal.{Refusal}
use Rattle.sheets.specs.Refusals.{refused}
use Rattle.sheets.specs.Layout.{edition_of, trailer_of}
use Rattle.sheets.specs.Lines.{line_at, stated_at}
use Rattle.sheets.specs.Admission.{admit_of}
use Rattle.sheets.specs.Accepted.{IsAccepted, stated_by}
use Rattle.sheets.specs.Withdrawal.{lines_start}

-- the edition that is written
abbrev pub new_edition : ℕ
new_edition = 3

-- the lines of a sheet with T terms and C contexts
module _ (bytes : List ℕ) (T C : ℕ) where
  -- "each line of rule 33 or 34": those that the new edition asks for a motive
  unfoldable pub wants_motive : ℕ → Bool
  wants_motive n = motive_asked new_edition (line_at bytes T C n).rule

  -- "the lowest earlier line of form 1 that gives that line's P some universe in G,Nat"; n if there is none
  unfoldable pub motive_line : ℕ → ℕ
  motive_line n = first_at (λ k. gives_motive (stated_at bytes T C k) (stated_at bytes T C n)) (λ k. k) n n 0

  -- number 21: the lowest of the first L lines that wants a motive and has none; L if there is no such line
  unfoldable pub first_without : ℕ → ℕ
  first_without L = first_at (λ n. wants_motive n && leb n (motive_line n)) (λ n. n) L L 0

  -- the line that line n is to cite first; n, which is no earlier line, if it wants no motive
  unfoldable pub new_premise : ℕ → ℕ
  new_premise n = elim (wants_motive n) [ true ↦ motive_line n | false ↦ n ]

-- The words of a sheet of L lines, which begin at word `start`, once line n cites line `first n` first, if that is an
-- earlier line. Words 6 to 9 of a line are its premises; the last of four drops out.
module _ (bytes : List ℕ) (start L : ℕ) (first : ℕ → ℕ) where
  -- word j of line n
  unfoldable pub citing_word : ℕ → ℕ → ℕ
  citing_word n j =
      elim (ltb (first n) n && leb 6 j) [
        | false ↦ word_at bytes (start + (10 * n + j))
        | true ↦ elim (eqb j 6) [ true ↦ first n | false ↦ word_at bytes (start + (10 * n + (j - 1))) ]
      ]

  -- word i of the new sheet: before the lines and in the trailer nothing differs but the edition
  unfoldable pub converted_word : ℕ → ℕ
  converted_word i =
      elim (ltb i start) [
        | true ↦ word_at bytes i
        | false ↦
            elim (ltb i (start + 10 * L)) [
              | true ↦ citing_word ((i - start) / 10) ((i - start) % 10)
              | false ↦ elim (eqb i (start + 10 * L + 3)) [ true ↦ new_edition | false ↦ word_at bytes i ]
            ]
      ]

-- the new sheet, for a sheet with these counts
unfoldable pub sheet_converted : List ℕ → ℕ → ℕ → ℕ → List ℕ
sheet_converted bytes T C L =
    bytes_of (listed (converted_word bytes (lines_start T C) L (new_premise bytes T C)) (lines_start T C + 10 * L + 8))

-- the counts are those of the trailer
unfoldable pub converted : List ℕ → List ℕ
converted bytes = sheet_converted bytes (trailer_of bytes).terms (trailer_of bytes).contexts (trailer_of bytes).lines

-- "an edition 3 sheet with 20, place 0, then a line without such an earlier line with 21, the lowest as place, then a
-- short output with 13"; else the length, which is the same
unfoldable pub convert_admitted : List ℕ → ℕ → ℕ → ℕ → ℕ → Result ℕ Refusal
convert_admitted bytes T C L room =
    elim (leb new_edition (edition_of bytes)) [
      | true ↦ refused UpToDate 0
      | false ↦
          elim (ltb (first_without bytes T C L) L) [
            | true ↦ refused NoMotive (first_without bytes T C L)
            | false ↦ elim (ltb room (length bytes)) [ true ↦ refused Room 0 | false ↦ Ok (length bytes) ]
          ]
    ]

-- "After admission"
unfoldable pub convert_after : List ℕ → ℕ → Result Counts Refusal → Result ℕ Refusal
convert_after bytes room (Err r) = Err r
convert_after bytes room (Ok n) = convert_admitted bytes n.terms n.contexts n.lines room

-- the answer for a sheet, a work buffer of so many words and an output of so many bytes
unfoldable pub convert_of : List ℕ → ℕ → ℕ → Result ℕ Refusal
convert_of bytes work room = convert_after bytes room (admit_of bytes work)

-- where this new sheet is written; on any refusal the output is untouched
unfoldable pub output_from : List ℕ → List ℕ → Result ℕ Refusal → List ℕ
output_from new before (Ok _) = over new before
output_from new before (Err _) = before

-- the output afterwards, for a sheet, a work buffer of so many words and the output before
unfoldable pub converted_after : List ℕ → ℕ → List ℕ → List ℕ
converted_after bytes work before = output_from (converted bytes) before (convert_of bytes work (length before))

module _ (bytes : List ℕ) (T C : ℕ) where
  -- line n is one of rule 33 or 34
  abbrev pub WantsMotive : ℕ → Type 0
  WantsMotive n = AsksMotive new_edition (line_at bytes T C n).rule

  -- line k gives line n's P some universe in G,Nat
  abbrev pub IsMotiveOf : ℕ → ℕ → Type 0
  IsMotiveOf n k = GivesMotive (stated_at bytes T C k) (stated_at bytes T C n)

  -- an earlier line does
  abbrev pub HasMotive : ℕ → Type 0
  HasMotive n = (k : ℕ) × (k < n) × IsMotiveOf n k

  -- line k is the lowest earlier one that does
  pub record LowestMotive (n k : ℕ) : Type 0 where
    pub earlier : k < n
    pub gives : IsMotiveOf n k
    pub lowest : (m : ℕ) → m < k → IsMotiveOf n m → ⊥

  -- every one of the first L lines that wants a motive has one
  abbrev pub AllMotives : ℕ → Type 0
  AllMotives L = (n : ℕ) → n < L → WantsMotive n → HasMotive n

  -- line n is the lowest of the first L that wants a motive and has none
  pub record LowestWithout (L n : ℕ) : Type 0 where
    pub within : n < L
    pub wants : WantsMotive n
    pub without : HasMotive n → ⊥
    pub lowest : AllMotives n

-- what each answer means for an accepted sheet with these counts; there is no other
pub data AdmittedConversionMeans (bytes : List ℕ) (T C L room : ℕ) : Result ℕ Refusal → Type 0 where
  asks_already : new_edition ≤ edition_of bytes → AdmittedConversionMeans bytes T C L room (refused UpToDate 0)
  no_motive : {n : ℕ} → edition_of bytes < new_edition → LowestWithout bytes T C L n
      → AdmittedConversionMeans bytes T C L room (refused NoMotive n)
  no_room : edition_of bytes < new_edition → AllMotives bytes T C L → room < length bytes
      → AdmittedConversionMeans bytes T C L room (refused Room 0)
  whole : edition_of bytes < new_edition → AllMotives bytes T C L → length bytes ≤ room
      → AdmittedConversionMeans bytes T C L room (Ok (length bytes))

-- "every line keeps its number and judgment", "and what it writes is admitted": if a length is answered, the old sheet
-- and the new one, the output up to that length, are accepted, the new one is of edition 3, and it states the same
-- judgments line for line
unfoldable pub KeepsEveryLine : List ℕ → List ℕ → Result ℕ Refusal → Type 0
KeepsEveryLine old after (Err _) = Unit {0}
KeepsEveryLine old after (Ok new) =
    IsAccepted old × IsAccepted (take new after) × (edition_of (take new after) ≡ new_edition)
    × (stated_by (take new after) ≡ stated_by old)
