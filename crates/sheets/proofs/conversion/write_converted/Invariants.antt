-- The invariant is that the lines before have their new words.
use lib.ListN.{get_or}
use Rattle.sheets.proofs.ConvertedWordLaws.{LinesChanging}
use Rattle.sheets.proofs.conversion.write_converted.Given as goal

abbrev pub invariant-loop-n : goal.invariant-loop-n
invariant-loop-n l = LinesChanging l.sheet l.start l.lines (λ k. get_or l.first k 0) l.initial.out l.out l.n
