-- The invariant is that the heights of the first n lines are there.
use Rattle.sheets.proofs.HeightArrayLaws.{Filled}
use Rattle.sheets.proofs.heights.line_heights.Given as goal

abbrev pub invariant-loop-n : goal.invariant-loop-n
invariant-loop-n l = Filled l.lines.edition l.lines.rows.now l.lines.count l.heights l.n
