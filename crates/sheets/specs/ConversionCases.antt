-- Number 21 by example: document 02, A11. No admitted sheet has a line that is refused with it, so the lines here only
-- keep the layout; what is asked is what the converter asks behind the admission.
use Rattle.std.specs.Prelude.{List, [], ◌∷◌, ℕ, Result}
use Rattle.terms.specs.Words.{bytes_of}
use Rattle.sheets.specs.declared.refusals.Fault.TheVariants.{Room, UpToDate, NoMotive}
use Rattle.sheets.specs.declared.refusals.Refusal.{Refusal}
use Rattle.sheets.specs.Refusals.{refused}
use Rattle.sheets.specs.Conversion.{convert_admitted}

-- four lines in this edition, the last of which has no earlier line for its motive
unfoldable pub without_motive : ℕ → List ℕ
without_motive edition =
    10 ∷ 0 ∷ 0 ∷ 0 ∷ 0 ∷  -- terms: 0 Nat
    2 ∷ 0 ∷ 0 ∷ 0 ∷ 0 ∷  -- 1 U_0
    11 ∷ 0 ∷ 0 ∷ 0 ∷ 0 ∷  -- 2 zero
    13 ∷ 0 ∷ 2 ∷ 2 ∷ 2 ∷  -- 3 ind(0, 2, 2, 2)
    0 ∷ 0 ∷  -- contexts: 1 (0, 0)
    1 ∷ 12 ∷ 0 ∷ 0 ∷ 0 ∷ 1 ∷ 0 ∷ 0 ∷ 0 ∷ 0 ∷  -- lines: 0, Nat : U_0 in context 0
    1 ∷ 12 ∷ 1 ∷ 0 ∷ 0 ∷ 1 ∷ 0 ∷ 0 ∷ 0 ∷ 0 ∷  -- 1, the same in context 1, Nat
    2 ∷ 33 ∷ 0 ∷ 3 ∷ 2 ∷ 0 ∷ 0 ∷ 0 ∷ 0 ∷ 0 ∷  -- 2, by rule 33 in context 0: line 1 gives its motive
    2 ∷ 34 ∷ 1 ∷ 3 ∷ 2 ∷ 0 ∷ 0 ∷ 0 ∷ 0 ∷ 0 ∷  -- 3, by rule 34 in context 1: none stands in Nat,Nat
    4 ∷ 1 ∷ 4 ∷ edition ∷ 124 ∷ 84 ∷ 80 ∷ 0x4C44 ∷ []

-- the answers for editions 2 and 3, each with an output of no bytes, and what they are to be
unfoldable pub conversion_answers : List (Result ℕ Refusal)
conversion_answers =
    convert_admitted (bytes_of (without_motive 2)) 4 1 4 0 ∷ convert_admitted (bytes_of (without_motive 3)) 4 1 4 0 ∷
    convert_admitted (bytes_of (without_motive 2)) 4 1 3 0 ∷ []

unfoldable pub conversion_expected : List (Result ℕ Refusal)
conversion_expected = refused NoMotive 3 ∷ refused UpToDate 0 ∷ refused Room 0 ∷ []
