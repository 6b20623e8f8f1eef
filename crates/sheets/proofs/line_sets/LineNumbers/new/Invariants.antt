-- The invariant is that the lines before line k are numbered.
use Rattle.sheets.proofs.NumberingLaws.{Numbered}
use Rattle.sheets.proofs.line_sets.LineNumbers.new.Given as goal

abbrev pub invariant-loop-k : goal.invariant-loop-k
invariant-loop-k l = Numbered l.set.numbers.now l.lines l.numbers.below l.numbers.kept l.count l.k
