-- The invariant is that the check of the remaining rows answers for the whole, and that the rows before are indexed.
use Rattle.terms.specs.RowIndex.{Indexed}
use Rattle.terms.proofs.CheckLaws.{Checking}
use Rattle.terms.proofs.sizes.check_terms.Given as goal

abbrev pub invariant-loop-k : goal.invariant-loop-k
invariant-loop-k l = record { checking : Checking l.rows l.count l.initial.work l.work l.k; indexed : Indexed l.rows l.k l.index }
