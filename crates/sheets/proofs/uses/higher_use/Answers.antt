use borrow.Author.Tests.{lt-ltb, le-ltb}
use Rattle.sheets.specs.ListedUses.{higher_use}
use Rattle.sheets.proofs.uses.higher_use.Goals as goal

pub returns-in-Some : goal.returns-in-Some
unfolding higher_use
returns-in-Some c = rw (c.in-Some.is, le-ltb _ _ c.if-other-first.true, higher_use)

pub returns-in_default : goal.returns-in_default
unfolding higher_use
returns-in_default c = rw (c.in-Some.is, lt-ltb _ _ c.if-other-first.false, higher_use)

pub returns-in_default-2 : goal.returns-in_default-2
unfolding higher_use
returns-in_default-2 c = rw (c.in_default.is, higher_use)
