-- The lines before the rest of the text are read.
use Rattle.answers.proofs.ListingLaws.{ListSoFar}
use Rattle.answers.proofs.listing.read_list.Given as goal

abbrev pub invariant-loop-line : goal.invariant-loop-line
invariant-loop-line l = ListSoFar l.text l.initial.numbers l.numbers l.count l.line-iterator.rest.now
