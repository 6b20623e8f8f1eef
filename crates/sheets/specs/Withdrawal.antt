-- What withdrawal of a line answers, and the sheet that it writes: document 01, "What the desk says".
use Rattle.std.specs.Prelude.{◌≡◌, Bool, true, false, ◌&&◌, ◌||◌, List, [], ◌∷◌, ℕ, suc, ◌+◌, ◌-◌, ◌*◌, ◌%◌, ◌≤◌, ◌<◌, leb, ltb, eqb, length, get_or, take, Result, Ok, Err}
use Rattle.terms.specs.Words.{word_at, bytes_of}
use Rattle.terms.specs.Search.{first_at}
use Rattle.terms.specs.Buffers.{over}
use Rattle.rules.specs.RuleTable.{premise_count}
use Rattle.sheets.specs.declared.lines.Line.{Line}
use Rattle.sheets.specs.declared.refusals.Counts.{Counts}
use Rattle.sheets.specs.declared.refusals.Fault.TheVariants.{NoLine, LineUsed, Room}
use Rattle.sheets.specs.declared.refusals.Refusal.{Refusal}
use Rattle.sheets.specs.Refusals.{refused}
use Rattle.sheets.specs.Layout.{edition_of, lines_in, trailer_of, distance_to_terms}
use Rattle.sheets.specs.Lines.{line_of, premises_of}
use Rattle.sheets.specs.Admission.{admit_of}
use Rattle.terms.specs.Lists.{listed, without}
use Rattle.sheets.specs.Accepted.{IsAccepted, stated_by}

-- number 12: the line has n among the premises that its rule uses; the 0 of an unused premise is no use of line 0
unfoldable pub uses : Line → ℕ → Bool
uses l n =
    (ltb 0 (premise_count l.rule) && eqb l.p0 n) || (ltb 1 (premise_count l.rule) && eqb l.p1 n)
    || (ltb 2 (premise_count l.rule) && eqb l.p2 n) || (ltb 3 (premise_count l.rule) && eqb l.p3 n)

-- the same without computing
abbrev pub Uses : Line → ℕ → Type 0
Uses l n = (j : ℕ) × (j < 4) × (j < premise_count l.rule) × (get_or (premises_of l) j 0 ≡ n)

-- the lowest line behind line n, of the first count, that uses it; count if none does
unfoldable pub first_use : ℕ → List ℕ → ℕ → ℕ → ℕ
first_use edition lines count n = first_at (λ k. uses (line_of edition lines k) n) (λ k. k) count (count - suc n) (suc n)

-- the length of a sheet of T terms, C contexts and L lines without one of the lines
unfoldable pub new_length : ℕ → ℕ → ℕ → ℕ
new_length T C L = distance_to_terms T C (L - 1) + 16

-- numbers 12 and 13, where `place` is the line that is refused with 12, or L, `new` is the new length and `room` the
-- output's
unfoldable pub after_use : ℕ → ℕ → ℕ → ℕ → Result ℕ Refusal
after_use L new room place =
    elim (ltb place L) [
      | true ↦ refused LineUsed place
      | false ↦ elim (ltb room new) [ true ↦ refused Room 0 | false ↦ Ok new ]
    ]

-- number 11, then 12 and 13
unfoldable pub after_line : List ℕ → ℕ → ℕ → ℕ → ℕ → ℕ → Result ℕ Refusal
after_line bytes T C L n room =
    elim (ltb n L) [
      | false ↦ refused NoLine n
      | true ↦ after_use L (new_length T C L) room (first_use (edition_of bytes) (lines_in bytes T C) L n)
    ]

-- "Withdrawal and finding admit the sheet first and return its refusal, then 11, 12, 13"
unfoldable pub withdraw_after : List ℕ → ℕ → ℕ → Result Counts Refusal → Result ℕ Refusal
withdraw_after bytes n room (Err r) = Err r
withdraw_after bytes n room (Ok c) = after_line bytes c.terms c.contexts c.lines n room

-- the answer for a sheet, a line's number, a work buffer of so many words and an output of so many bytes
unfoldable pub withdraw_of : List ℕ → ℕ → ℕ → ℕ → Result ℕ Refusal
withdraw_of bytes n work room = withdraw_after bytes n room (admit_of bytes work)

-- "premises above n lowered by 1"; an unused one is 0 and stays
unfoldable pub lower_premise : ℕ → ℕ → ℕ
lower_premise n p = elim (ltb n p) [ true ↦ p - 1 | false ↦ p ]

-- word j of a line, as it stands once line n is away; words 6 to 9 are the premises
unfoldable pub lowered : ℕ → ℕ → ℕ → ℕ
lowered n j w = elim (leb 6 j) [ true ↦ lower_premise n w | false ↦ w ]

-- what the trailer's words lose: L 1, the three distances 20 each
unfoldable pub trailer_loses : ℕ → ℕ
trailer_loses i = get_or (0 ∷ 0 ∷ 1 ∷ 0 ∷ 20 ∷ 20 ∷ 20 ∷ 0 ∷ []) i 0

-- where word i stands in the old sheet, whose lines begin at word `start`: behind line n, ten words further on
unfoldable pub old_place : ℕ → ℕ → ℕ → ℕ
old_place start n i = elim (ltb i (start + 10 * n)) [ true ↦ i | false ↦ i + 10 ]

-- word i of the new sheet, where the old lines begin at word `start` and the new ones end before word `end`
unfoldable pub new_word : List ℕ → ℕ → ℕ → ℕ → ℕ → ℕ
new_word bytes start end n i =
    elim (ltb i start) [
      | true ↦ word_at bytes i
      | false ↦
          elim (ltb i end) [
            | true ↦ lowered n ((i - start) % 10) (word_at bytes (old_place start n i))
            | false ↦ word_at bytes (i + 10) - trailer_loses (i - end)
          ]
    ]

-- where the lines begin, and where they end once one is away, counted in words
abbrev pub lines_start : ℕ → ℕ → ℕ
lines_start T C = 5 * T + 2 * C

abbrev pub lines_end : ℕ → ℕ → ℕ → ℕ
lines_end T C L = 5 * T + 2 * C + 10 * (L - 1)

-- the sheet without line n, for a sheet with these counts
unfoldable pub sheet_without : List ℕ → ℕ → ℕ → ℕ → ℕ → List ℕ
sheet_without bytes T C L n = bytes_of (listed (new_word bytes (lines_start T C) (lines_end T C L) n) (lines_end T C L + 8))

-- the counts are those of the trailer
unfoldable pub without_line : List ℕ → ℕ → List ℕ
without_line bytes n = sheet_without bytes (trailer_of bytes).terms (trailer_of bytes).contexts (trailer_of bytes).lines n

-- where this new sheet is written: "output beyond the new length is untouched, and so is all output on any refusal"
unfoldable pub out_from : List ℕ → List ℕ → Result ℕ Refusal → List ℕ
out_from new before (Ok _) = over new before
out_from new before (Err _) = before

-- the output afterwards, for a sheet, a line's number, a work buffer of so many words and the output before
unfoldable pub out_after : List ℕ → ℕ → ℕ → List ℕ → List ℕ
out_after bytes n work before = out_from (without_line bytes n) before (withdraw_of bytes n work (length before))

-- line p is the lowest line behind line n, of the first L, that has n among its used premises
pub record LowestUse (edition : ℕ) (lines : List ℕ) (L n p : ℕ) : Type 0 where
  pub later : n < p
  pub within : p < L
  pub uses : Uses (line_of edition lines p) n
  pub lowest : (k : ℕ) → n < k → k < p → Uses (line_of edition lines k) n → ⊥

-- no line behind line n, of the first L, has it among its used premises
abbrev pub Unused : ℕ → List ℕ → ℕ → ℕ → Type 0
Unused edition lines L n = (k : ℕ) → n < k → k < L → Uses (line_of edition lines k) n → ⊥

-- what each answer of withdrawal means for an accepted sheet with these counts; there is no other
pub data AdmittedWithdrawalMeans (bytes : List ℕ) (T C L n room : ℕ) : Result ℕ Refusal → Type 0 where
  missing : L ≤ n → AdmittedWithdrawalMeans bytes T C L n room (refused NoLine n)
  used : {p : ℕ} → n < L → LowestUse (edition_of bytes) (lines_in bytes T C) L n p
      → AdmittedWithdrawalMeans bytes T C L n room (refused LineUsed p)
  short : n < L → Unused (edition_of bytes) (lines_in bytes T C) L n → room < new_length T C L
      → AdmittedWithdrawalMeans bytes T C L n room (refused Room 0)
  written : n < L → Unused (edition_of bytes) (lines_in bytes T C) L n → new_length T C L ≤ room
      → AdmittedWithdrawalMeans bytes T C L n room (Ok (new_length T C L))

-- Demand 3 (c), of an answer and the output afterwards: if a length is answered, the old sheet and the new one, the
-- output up to that length, are accepted, and the new one states the old judgments in order, that one missing.
unfoldable pub KeepsTheOthers : List ℕ → ℕ → List ℕ → Result ℕ Refusal → Type 0
KeepsTheOthers old n after (Err _) = Unit {0}
KeepsTheOthers old n after (Ok new) = IsAccepted old × IsAccepted (take new after) × (stated_by (take new after) ≡ without n (stated_by old))
