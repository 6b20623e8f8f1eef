-- At each turn the numbers that have ended are put.
-- Assumes nothing.
use Rattle.rules_demo.proofs.ReaderLaws.{ReadSoFar}
use Rattle.rules_demo.proofs.numbers.put_all.Given as goal

abbrev pub invariant-loop-i : goal.invariant-loop-i
invariant-loop-i l = ReadSoFar l.text l.initial.out l.out l.count l.place l.i
