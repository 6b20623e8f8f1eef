-- Each arm by the place that it is for.
-- Assumes nothing.
use borrow.Author.Tests.{eq-eqb, ne_eqb}
use Rattle.rules_demo.specs.Numbers.{next_place}
use Rattle.rules_demo.proofs.numbers.next_place.Goals as goal

pub returns-then-byte-eq10 : goal.returns-then-byte-eq10
unfolding next_place
returns-then-byte-eq10 c = rw (c.in-Comment.is, eq-eqb _ _ c.if-byte-eq10.true, next_place)

pub returns-in-Blank : goal.returns-in-Blank
unfolding next_place
returns-in-Blank c = rw (c.in-Blank.is, next_place) c.behind.ensures

pub returns-in-Number : goal.returns-in-Number
unfolding next_place
returns-in-Number c = rw (c.in-Number.is, next_place) c.behind-in-Number.ensures

pub returns-else-byte-eq10 : goal.returns-else-byte-eq10
unfolding next_place
returns-else-byte-eq10 c = rw (c.in-Comment.is, ne_eqb _ _ c.if-byte-eq10.false, next_place)
