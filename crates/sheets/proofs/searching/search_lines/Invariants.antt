-- The invariant is that `best` is the easiest of the first n lines that has the numbers, if there is one.
use Rattle.sheets.proofs.FindingLaws.{BestBefore}
use Rattle.sheets.proofs.searching.search_lines.Given as goal

abbrev pub invariant-loop-n : goal.invariant-loop-n
invariant-loop-n l = BestBefore l.lines.edition l.lines.rows.now l.fn.wanted l.lines.count l.best l.n
