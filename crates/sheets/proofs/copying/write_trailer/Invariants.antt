-- The invariant is that the words before are written.
use lib.ListN.{get_or}
use Rattle.sheets.proofs.WrittenLaws.{written}
use Rattle.sheets.proofs.FillingLaws.{Filling}
use Rattle.sheets.proofs.copying.write_trailer.Given as goal

abbrev pub invariant-loop-i : goal.invariant-loop-i
invariant-loop-i l = Filling (written (λ k. get_or l.words k 0)) 8 l.initial.out l.out l.i
