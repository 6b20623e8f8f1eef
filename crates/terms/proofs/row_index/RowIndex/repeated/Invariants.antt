-- The rows before the one that the chain stands at answer for all.
use Rattle.terms.proofs.IndexLaws.{Searching}
use Rattle.terms.proofs.row_index.RowIndex.repeated.Given as goal

abbrev pub invariant-loop-at : goal.invariant-loop-at
invariant-loop-at l = Searching l.rows l.row l.n l.at

abbrev pub decreases-loop-at : goal.decreases-loop-at
decreases-loop-at l = l.at
