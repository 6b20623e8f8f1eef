-- Lines that have a rule and cite earlier lines. Every line of an accepted sheet does (`citing_lines` in
-- proofs/CitingLaws), and what goes through citations asks no more.
use Rattle.std.specs.Prelude.{◌≡◌, List, ℕ, ◌<◌, ◌≤◌, get_or}
use Rattle.rules.specs.RuleTable.{IsRule, premise_count}
use Rattle.sheets.specs.declared.lines.Line.{Line}
use Rattle.sheets.specs.Lines.{line_of, premises_of}

-- a line has a rule and cites earlier lines than line k
pub record CitesEarlier (l : Line) (k : ℕ) : Type 0 where
  pub rule : IsRule l.rule
  pub earlier : (j : ℕ) → j < 4 → j < premise_count l.rule → get_or (premises_of l) j 0 < k
  pub unused : (j : ℕ) → j < 4 → premise_count l.rule ≤ j → get_or (premises_of l) j 0 ≡ 0

-- the first count lines of a sheet of this edition do
abbrev pub CitingLines : ℕ → List ℕ → ℕ → Type 0
CitingLines edition lines count = (k : ℕ) → k < count → CitesEarlier (line_of edition lines k) k
