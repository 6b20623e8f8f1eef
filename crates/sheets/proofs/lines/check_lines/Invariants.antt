-- The invariant is that the lines before are good and that the check of the remaining ones answers for the whole.
use Rattle.sheets.specs.Good.{WellFormedTables}
use Rattle.sheets.proofs.LineAnswers.{Walked}
use Rattle.sheets.proofs.lines.check_lines.Given as goal

abbrev pub invariant-loop-n : goal.invariant-loop-n
invariant-loop-n l =
    (tables : WellFormedTables l.sheet l.counts.terms l.counts.contexts l.count)
    → Walked l.sheet l.counts.terms l.counts.contexts l.count tables l.edition l.lines l.n
