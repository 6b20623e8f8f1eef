-- The buffer keeps its length, and the bytes before i are those of the rows.
use Rattle.terms_demo.specs.Tables.{Filled}
use Rattle.terms_demo.proofs.tables.fill.Given as goal

abbrev pub invariant-loop-i : goal.invariant-loop-i
invariant-loop-i l = Filled l.rows l.out l.i
