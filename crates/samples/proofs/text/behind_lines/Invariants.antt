-- So many lines of the text are passed.
use Rattle.samples.proofs.TextLaws.{LinesPassed}
use Rattle.samples.proofs.text.behind_lines.Given as goal

abbrev pub invariant-loop-passed : goal.invariant-loop-passed
invariant-loop-passed l = LinesPassed l.text l.from l.count l.place l.passed
