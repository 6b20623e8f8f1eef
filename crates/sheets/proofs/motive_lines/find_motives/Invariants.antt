-- The invariant is that the first n lines have their numbers in the arrays, and that none of them is without a motive.
use Rattle.sheets.proofs.MotiveLineLaws.{Found}
use Rattle.sheets.proofs.motive_lines.find_motives.Given as goal

abbrev pub invariant-loop-n : goal.invariant-loop-n
invariant-loop-n l =
    Found l.sheet.bytes.now l.sheet.counts.terms l.sheet.counts.contexts l.sheet.counts.lines l.first l.given l.n
