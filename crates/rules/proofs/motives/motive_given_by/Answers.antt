-- A line of another form, or in the empty context, gives a universe to no motive.
use native.Mathlib.Omega.{arith}
use Rattle.terms.proofs.Tests.{says_eq, says_lt, ◌&◌, refuted}
use Rattle.rules.proofs.MotiveNumberLaws.{no_entry}
use Rattle.rules.proofs.motives.motive_given_by.Goals as goal

pub returns : goal.returns
returns c = record { number = no_entry _ _ _ (refuted (says_eq _ 1 & says_lt 0 _) c.if-p.false); range = omega arith }
