-- The invariant is what was found among the lines that stay before place m.
use Rattle.sheets.proofs.KeptUseLaws.{FoundBefore}
use Rattle.sheets.proofs.uses.kept_use.Given as goal

abbrev pub invariant-loop-m : goal.invariant-loop-m
invariant-loop-m l =
    FoundBefore l.lines.edition l.lines.rows.now l.lines.count l.set.numbers.now l.m l.found
