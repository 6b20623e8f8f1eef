-- Lines that keep the layout and follow, and the first that does not: document 01, "The sheet" and "What the desk
-- says", numbers 9 and 10, stated by index and without computing.
use Rattle.std.specs.Prelude.{◌≡◌, false, List, ℕ, ◌≤◌, ◌<◌, get_or}
use Rattle.rules.specs.RuleTable.{IsRule, form_of, premise_count}
use Rattle.rules.specs.Subjects.{uses_subject, subjects_of}
use Rattle.rules.specs.Stated.{Numbered}
use Rattle.sheets.specs.declared.lines.Line.{Line}
use Rattle.sheets.specs.declared.refusals.Fault.{Fault}
use Rattle.sheets.specs.declared.refusals.Fault.TheVariants.{Numbers, NoInstance}
use Rattle.sheets.specs.Lines.{judgment_of, premises_of, line_at, LineFollows}

-- a line that keeps the layout as line n of a sheet with T terms and C contexts
pub record LineOk (l : Line) (n T C : ℕ) : Type 0 where
  pub rule : IsRule l.rule
  pub form : (judgment_of l).form ≡ form_of l.rule
  pub numbers : Numbered T C (judgment_of l)
  pub unused_subject : (k : ℕ) → uses_subject (judgment_of l).form k ≡ false → get_or (subjects_of (judgment_of l)) k 0 ≡ 0
  pub earlier : (j : ℕ) → j < 4 → j < premise_count l.rule → get_or (premises_of l) j 0 < n
  pub unused_premise : (j : ℕ) → j < 4 → premise_count l.rule ≤ j → get_or (premises_of l) j 0 ≡ 0

-- line n keeps the layout and follows from the lines that it cites
pub record GoodLine (bytes : List ℕ) (T C n : ℕ) : Type 0 where
  pub ok : LineOk (line_at bytes T C n) n T C
  pub follows : LineFollows bytes T C n

-- the first of numbers 9 and 10 that line n fails; there is no other fault
pub data LineFault (bytes : List ℕ) (T C n : ℕ) : Fault → Type 0 where
  misfit : (LineOk (line_at bytes T C n) n T C → ⊥) → LineFault bytes T C n Numbers
  no_instance : LineOk (line_at bytes T C n) n T C → (LineFollows bytes T C n → ⊥) → LineFault bytes T C n NoInstance

-- line `place` is the first of the first count lines that has a fault, of the given kind: the lines before it are
-- good
pub record FirstFaultyLine (bytes : List ℕ) (T C count : ℕ) (fault : Fault) (place : ℕ) : Type 0 where
  pub within : place < count
  pub before : (n : ℕ) → n < place → GoodLine bytes T C n
  pub wrong : LineFault bytes T C place fault
