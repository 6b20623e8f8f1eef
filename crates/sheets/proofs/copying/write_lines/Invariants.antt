-- The invariant is that the lines before are written.
use Rattle.sheets.proofs.KeptWordLaws.{LinesFilling}
use Rattle.sheets.proofs.copying.write_lines.Given as goal

abbrev pub invariant-loop-m : goal.invariant-loop-m
invariant-loop-m l = LinesFilling l.sheet l.start l.numbers.below l.numbers.kept l.left l.initial.out l.out l.m
