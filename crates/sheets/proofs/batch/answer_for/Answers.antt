use mathlib.Core.Path.{sym, ap, subst}
use native.Mathlib.Omega.{arith}
use Rattle.sheets.specs.Batch.{answer_for}
use Rattle.sheets.specs.Opening.{Answerable}
use Rattle.sheets.proofs.batch.answer_for.Goals as goal

pub overflow_cast-result : goal.overflow_cast-result
unfolding Answerable
overflow_cast-result c = omega (arith, subst Answerable c.in-Ok.is c.requires)

pub returns-in-Ok : goal.returns-in-Ok
unfolding answer_for
returns-in-Ok c = ap answer_for (sym c.in-Ok.is)

pub returns-in-Err : goal.returns-in-Err
unfolding answer_for
returns-in-Err c = ap answer_for (sym c.in-Err.is)
