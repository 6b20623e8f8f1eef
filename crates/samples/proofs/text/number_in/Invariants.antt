-- So many words of the line are passed.
use Rattle.samples.proofs.TextLaws.{WordsPassed}
use Rattle.samples.proofs.text.number_in.Given as goal

abbrev pub invariant-loop-passed : goal.invariant-loop-passed
invariant-loop-passed l = WordsPassed l.line l.n l.start l.passed
