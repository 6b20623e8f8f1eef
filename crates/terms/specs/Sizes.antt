-- The check of a term table, row by row: document 01, numbers 5, 6 and 7, and the sizes left in the work buffer.
use Rattle.std.specs.Prelude.{◌≡◌, Bool, true, false, ◌&&◌, ◌||◌, List, [], ◌∷◌, ◌++◌, ℕ, zero, suc, ◌+◌, leb, ltb, get_or, Result, Ok, Err}
use Rattle.terms.specs.Tag.{tag_of, arity}
use Rattle.terms.specs.Rows.{word, tag, row_of, holds_row}
use Rattle.terms.specs.Table.{limit}
use Rattle.terms.specs.Search.{Step, ends, goes, search_from}
use Rattle.terms.specs.declared.rows.Row.{Row}
use Rattle.terms.specs.declared.sizes.RowFault.{RowFault}
use Rattle.terms.specs.declared.sizes.RowFault.TheVariants.{Malformed, Repeated, TooLarge}
use Rattle.terms.specs.declared.sizes.TermsError.{TermsError}
use Rattle.terms.specs.Faults.{number_of}

-- number 5: these words keep tag, operands and ranges as row n
unfoldable pub fits_row : Row → ℕ → Bool
fits_row r n =
    leb 1 r.tag && leb r.tag 13 && ltb r.a (limit (tag_of r.tag) n 1) && ltb r.b (limit (tag_of r.tag) n 2)
    && ltb r.c (limit (tag_of r.tag) n 3) && ltb r.d (limit (tag_of r.tag) n 4)

-- number 6: one of the first n rows holds these words
unfoldable pub repeated_below : List ℕ → Row → ℕ → Bool
repeated_below bytes r zero = false
repeated_below bytes r (suc n) = repeated_below bytes r n || holds_row bytes n r

-- the sum of f at 1 to n
unfoldable pub sum_to : ℕ → (ℕ → ℕ) → ℕ
sum_to zero f = 0
sum_to (suc n) f = sum_to n f + f (suc n)

-- a row's size: one more than its children's, which the list holds
unfoldable pub row_size : List ℕ → ℕ → List ℕ → ℕ
row_size bytes n sizes = 1 + sum_to (arity (tag bytes n)) (λ j. get_or sizes (word bytes n j) 0)

-- number 7 comes last
unfoldable pub size_answer : ℕ → Result ℕ RowFault
size_answer size = elim (ltb 65535 size) [ true ↦ Err TooLarge | false ↦ Ok size ]

-- the first of 5, 6 and 7 that row n breaks, or its size, where the list holds the sizes of the rows before it
unfoldable pub row_answer : List ℕ → ℕ → List ℕ → Result ℕ RowFault
row_answer bytes n sizes =
    elim (fits_row (row_of bytes n) n) [ false ↦ Err Malformed | true ↦ elim (repeated_below bytes (row_of bytes n) n) [ true ↦ Err Repeated | false ↦ size_answer (row_size bytes n sizes) ] ]

-- the answer for a table: every row is right, or the first fault and its row
abbrev pub TermsAnswer : Type 0
TermsAnswer = Result (Unit {0}) TermsError

abbrev pub faultless : TermsAnswer
faultless = Ok tt

abbrev pub faulty : RowFault → ℕ → TermsAnswer
faulty fault place = Err (record { fault = fault; place = place })

-- the answer names row `place`, and the fault of the given number
abbrev pub Names : ℕ → ℕ → TermsAnswer → Type 0
Names number place a = (fault : RowFault) × (number_of fault ≡ number) × (a ≡ faulty fault place)

-- the answer, and the sizes of the rows before the first fault
pub record Checked : Type 0 where
  pub answer : TermsAnswer
  pub sizes : List ℕ

abbrev pub checked : TermsAnswer → List ℕ → Checked
checked answer sizes = record { answer = answer; sizes = sizes }

-- the check at row n: it ends with the row's fault, or goes on with its size
unfoldable pub row_step : List ℕ → ℕ → List ℕ → Step (List ℕ) Checked
row_step bytes n sizes =
    elim (row_answer bytes n sizes) [ Err fault ↦ ends (checked (faulty fault n) sizes) | Ok size ↦ goes (sizes ++ size ∷ []) ]

unfoldable pub check_terms : List ℕ → ℕ → Checked
check_terms bytes count = search_from (row_step bytes) (checked faultless) count 0 []
