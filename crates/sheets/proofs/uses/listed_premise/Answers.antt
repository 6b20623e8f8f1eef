use mathlib.Core.Path.{sym}
use Rattle.sheets.proofs.KeptUseLaws.{listed_premise_lem, other_premise}
use Rattle.sheets.proofs.uses.listed_premise.Goals as goal

pub returns-then-used-is_listed : goal.returns-then-used-is_listed
returns-then-used-is_listed c =
    sym (listed_premise_lem _ _ _ (rw c.is_listed.ensures at c.if-used-is_listed.true))

pub returns : goal.returns
returns c = sym (other_premise _ _ _ (rw c.is_listed.ensures at c.if-used-is_listed.false))
