-- The digits read so far, with the rest of the text, answer for the whole.
use Rattle.answers.proofs.NumberLaws.{ReadSoFar}
use Rattle.answers.proofs.numbers.read_number.Given as goal

abbrev pub invariant-loop-byte : goal.invariant-loop-byte
invariant-loop-byte l = ReadSoFar l.text l.number l.byte-index
