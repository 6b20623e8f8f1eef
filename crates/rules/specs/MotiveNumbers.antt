-- Motives as numbers, by which the converter compares them: only for the steps of the code. A motive P in G has one
-- number, made of the numbers of G and of P, since equal contexts and equal terms have equal numbers.
use Rattle.std.specs.Prelude.{◌≡◌, ◌↔◌, List, [], ◌∷◌, ℕ, ◌+◌, ◌*◌, ◌≤◌}
use Rattle.terms.specs.Tag.{child}
use Rattle.terms.specs.Rows.{term}
use Rattle.rules.specs.Motives.{GivesMotive}
use Rattle.rules.specs.RuleChecks.{JudgmentsInTables}
use Rattle.rules.specs.Stated.{stated}
use Rattle.rules.specs.declared.judgments.LineJudgment.{LineJudgment}

-- the motive of row `row` in the context of this number; 0 is no motive's number, and a sheet has fewer than 4096 rows
abbrev pub motive_number : ℕ → ℕ → ℕ
motive_number context row = 4096 * context + row + 1

-- the number of the motive that c asks for, the first part of its subject s1, in its own context
pub record MotiveAskedBy (terms : List ℕ) (c : LineJudgment) (number : ℕ) : Type 0 where
  pub row : ℕ
  pub is : number ≡ motive_number c.context row
  pub within : row ≤ c.s1
  pub motive : term terms row ≡ child (term terms c.s1) 1

-- the number is that of the motive to which p gives a universe, if there is one: it is equal to the number that a
-- conclusion asks for exactly if p is the premise
abbrev pub MotiveGivenBy : List ℕ → List ℕ → LineJudgment → ℕ → Type 0
MotiveGivenBy terms contexts p given =
    (c : LineJudgment) (asked : ℕ) → JudgmentsInTables terms contexts (c ∷ p ∷ []) → c.form ≡ 2
    → MotiveAskedBy terms c asked
    → (given ≡ asked) ↔ GivesMotive (stated terms contexts p) (stated terms contexts c)
