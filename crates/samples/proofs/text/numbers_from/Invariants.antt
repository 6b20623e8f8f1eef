-- The invariant is that the numbers before place `count` are read.
use mathlib.Core.Path.{◌≡◌}
use lib.ListN.{length}
use Rattle.samples.proofs.NumberLaws.{NumbersSoFar}
use Rattle.samples.proofs.text.numbers_from.Given as goal

abbrev pub invariant-loop-count : goal.invariant-loop-count
invariant-loop-count l =
    (length l.numbers ≡ length l.initial.numbers) × NumbersSoFar l.line l.first l.numbers l.count
