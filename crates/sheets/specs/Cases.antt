-- M1 to M11 of document 01, "Sample sheets", as one table of cases: a sheet, a work buffer and, for a withdrawal, a
-- line's number and an output; what is answered, and what is left in both.
use Rattle.std.specs.Prelude.{List, [], ◌∷◌, ◌++◌, ℕ, zero, suc, ◌+◌, ◌*◌, length, set, replicate, Result, Ok}
use Rattle.terms.specs.declared.sizes.RowFault.TheVariants.{Malformed, TooLarge}
use Rattle.sheets.specs.declared.refusals.Counts.{Counts}
use Rattle.sheets.specs.declared.refusals.Fault.TheVariants.{
  Length,
  Counts as CountsFault,
  Term,
  Numbers,
  NoInstance,
  NoLine,
  LineUsed,
}
use Rattle.sheets.specs.declared.refusals.Refusal.{Refusal}
use Rattle.sheets.specs.Refusals.{refused, counts}
use Rattle.sheets.specs.Admission.{admit_of, work_after}
use Rattle.terms.specs.Words.{bytes_of}
use Rattle.sheets.specs.Withdrawal.{withdraw_of, out_after}

-- the words of S before line 4
unfoldable pub shared_words : List ℕ
shared_words =
    10 ∷ 0 ∷ 0 ∷ 0 ∷ 0 ∷  -- terms: 0 Nat
    2 ∷ 0 ∷ 0 ∷ 0 ∷ 0 ∷  -- 1 U_0
    1 ∷ 0 ∷ 0 ∷ 0 ∷ 0 ∷  -- 2 variable 0
    4 ∷ 2 ∷ 0 ∷ 0 ∷ 0 ∷  -- 3 lambda(2)
    3 ∷ 0 ∷ 0 ∷ 0 ∷ 0 ∷  -- 4 Pi(0, 0)
    0 ∷ 0 ∷  -- contexts: 1 (0, 0)
    0 ∷ 1 ∷ 0 ∷ 0 ∷ 0 ∷ 0 ∷ 0 ∷ 0 ∷ 0 ∷ 0 ∷  -- lines: 0, the empty context by rule 1
    1 ∷ 12 ∷ 0 ∷ 0 ∷ 0 ∷ 1 ∷ 0 ∷ 0 ∷ 0 ∷ 0 ∷  -- 1, Nat : U_0 by rule 12 from 0
    0 ∷ 2 ∷ 1 ∷ 0 ∷ 0 ∷ 0 ∷ 0 ∷ 1 ∷ 0 ∷ 0 ∷  -- 2, context 1 by rule 2 from 0, 1
    1 ∷ 3 ∷ 1 ∷ 2 ∷ 0 ∷ 0 ∷ 2 ∷ 0 ∷ 0 ∷ 0 ∷ []  -- 3, variable 0 : Nat in context 1 by rule 3 from 2

-- S in words
unfoldable pub words_of_s : List ℕ
words_of_s =
    shared_words ++
    1 ∷ 5 ∷ 0 ∷ 3 ∷ 0 ∷ 4 ∷ 3 ∷ 0 ∷ 0 ∷ 0 ∷  -- 4, term 3 : term 4 by rule 5 from 3
    5 ∷ 1 ∷ 5 ∷ 1 ∷ 154 ∷ 104 ∷ 100 ∷ 0x4C44 ∷ []

-- and without line 4
unfoldable pub words_of_m9 : List ℕ
words_of_m9 = shared_words ++ 5 ∷ 1 ∷ 4 ∷ 1 ∷ 134 ∷ 84 ∷ 80 ∷ 0x4C44 ∷ []

-- the words of S that the cases change: L in the trailer, and word j of line n
unfoldable pub count_of_lines : ℕ
count_of_lines = 79

unfoldable pub word_of_line : ℕ → ℕ → ℕ
word_of_line n j = 27 + 10 * n + j

-- a sheet of one term, a variable
unfoldable pub variable_alone : ℕ → List ℕ
variable_alone index = 1 ∷ index ∷ 0 ∷ 0 ∷ 0 ∷ 1 ∷ 0 ∷ 0 ∷ 1 ∷ 10 ∷ 0 ∷ 0 ∷ 0x4C44 ∷ []

-- Nat, and from row k on, so many rows application(k-1, k-1)
unfoldable pub applied : ℕ → ℕ → List ℕ
applied zero k = []
applied (suc more) k = 5 ∷ k ∷ k ∷ 0 ∷ 0 ∷ applied more (suc k)

unfoldable pub doubling : ℕ → List ℕ
doubling more = 10 ∷ 0 ∷ 0 ∷ 0 ∷ 0 ∷ applied more 0 ++ suc more ∷ 0 ∷ 0 ∷ 1 ∷ 10 * suc more ∷ 0 ∷ 0 ∷ 0x4C44 ∷ []

-- the sizes of its first 16 rows
unfoldable pub doubled_sizes : List ℕ
doubled_sizes = 1 ∷ 3 ∷ 7 ∷ 15 ∷ 31 ∷ 63 ∷ 127 ∷ 255 ∷ 511 ∷ 1023 ∷ 2047 ∷ 4095 ∷ 8191 ∷ 16383 ∷ 32767 ∷ 65535 ∷ []

-- what is asked of a sheet, with the answer: its admission, or the withdrawal of a line into an output, with what that
-- holds afterwards
pub data Request : Type 0 where
  admission : Result Counts Refusal → Request
  withdrawal : (line : ℕ) (out : List ℕ) → Result ℕ Refusal → (after : List ℕ) → Request

pub record Case : Type 0 where
  pub sheet : List ℕ
  pub work : List ℕ
  pub asked : Request
  pub left : List ℕ

-- the request as it is answered, and the work buffer afterwards
abbrev pub Outcome : Type 0
Outcome = Request × List ℕ

unfoldable pub answer_to : List ℕ → ℕ → Request → Request
answer_to sheet work (admission _) = admission (admit_of sheet work)
answer_to sheet work (withdrawal line out _ _) = withdrawal line out (withdraw_of sheet line work (length out)) (out_after sheet line work out)

abbrev pub answered : Case → Outcome
answered c = (answer_to c.sheet (length c.work) c.asked, work_after c.sheet c.work)

abbrev pub expected : Case → Outcome
expected c = (c.asked, c.left)

-- six words of the work buffer before, and what the sizes of S make of them
unfoldable pub nines : List ℕ
nines = 9 ∷ 9 ∷ 9 ∷ 9 ∷ 9 ∷ 9 ∷ []

unfoldable pub sizes_of_s : List ℕ
sizes_of_s = 1 ∷ 1 ∷ 1 ∷ 2 ∷ 3 ∷ 9 ∷ []

unfoldable pub cases : List Case
cases =
    -- M1 S admitted
    record { sheet = bytes_of words_of_s; work = nines; asked = admission (Ok (counts 5 1 5)); left = sizes_of_s } ∷
    -- M2 a bare correct trailer with all counts 0: admitted
    record { sheet = bytes_of (0 ∷ 0 ∷ 0 ∷ 1 ∷ 0 ∷ 0 ∷ 0 ∷ 0x4C44 ∷ []); work = []; asked = admission (Ok (counts 0 0 0)); left = [] } ∷
    -- M3 15 bytes: 1
    record { sheet = replicate 15 0; work = nines; asked = admission (refused Length 0); left = nines } ∷
    -- M4 S with L written 6: 3, place 0
    record { sheet = bytes_of (set words_of_s count_of_lines 6); work = nines; asked = admission (refused CountsFault 0); left = nines } ∷
    -- M5 a sheet of one term, a variable, and nothing else: index 4,095 admitted, 4,096 gives 5, place 0
    record { sheet = bytes_of (variable_alone 4095); work = 9 ∷ 9 ∷ []; asked = admission (Ok (counts 1 0 0)); left = 1 ∷ 9 ∷ [] } ∷
    record { sheet = bytes_of (variable_alone 4096); work = 9 ∷ 9 ∷ []; asked = admission (refused (Term Malformed) 0); left = 9 ∷ 9 ∷ [] } ∷
    -- M6 from Nat, each next row application(k-1, k-1): row 15 has size 65,535, row 16 gives 7
    record { sheet = bytes_of (doubling 15); work = replicate 17 9; asked = admission (Ok (counts 16 0 0)); left = doubled_sizes ++ 9 ∷ [] } ∷
    record { sheet = bytes_of (doubling 16); work = replicate 18 9; asked = admission (refused (Term TooLarge) 16); left = doubled_sizes ++ 9 ∷ 9 ∷ [] } ∷
    -- M7 line 4 of S citing itself: 9, place 4
    record { sheet = bytes_of (set words_of_s (word_of_line 4 6) 4); work = nines; asked = admission (refused Numbers 4); left = sizes_of_s } ∷
    -- M8 line 1 claiming U_0 : U_0 by rule 7: 10, place 1
    record { sheet = bytes_of (set (set words_of_s (word_of_line 1 1) 7) (word_of_line 1 3) 1); work = nines; asked = admission (refused NoInstance 1); left = sizes_of_s } ∷
    -- M9 S without line 4: 150 bytes, and these are admitted
    record { sheet = bytes_of words_of_s; work = nines; asked = withdrawal 4 (replicate 151 7) (Ok 150) (bytes_of words_of_m9 ++ 7 ∷ []); left = sizes_of_s } ∷
    record { sheet = bytes_of words_of_m9; work = nines; asked = admission (Ok (counts 5 1 4)); left = sizes_of_s } ∷
    -- M10 withdrawing line 2 of S: 12, place 3
    record { sheet = bytes_of words_of_s; work = nines; asked = withdrawal 2 (replicate 170 7) (refused LineUsed 3) (replicate 170 7); left = sizes_of_s } ∷
    -- M11 withdrawing line 5: 11
    record { sheet = bytes_of words_of_s; work = nines; asked = withdrawal 5 (replicate 170 7) (refused NoLine 5) (replicate 170 7); left = sizes_of_s } ∷
    []
