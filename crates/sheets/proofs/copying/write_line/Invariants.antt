-- The invariant is that the words before are written.
use Rattle.sheets.specs.KeptWords.{renumbered_word}
use Rattle.sheets.proofs.WrittenLaws.{written}
use Rattle.sheets.proofs.FillingLaws.{Filling}
use Rattle.sheets.proofs.copying.write_line.Given as goal

abbrev pub invariant-loop-j : goal.invariant-loop-j
invariant-loop-j l = Filling (written (renumbered_word l.sheet l.start l.numbers.below l.line)) 10 l.initial.out l.out l.j
