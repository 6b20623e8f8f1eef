use mathlib.Core.Path.{sym, ◌∙◌}
use Rattle.sheets.specs.Layout.{counts_fit}
use Rattle.sheets.proofs.layout.counts_fit.Goals as goal

pub returns-then-limits_fit : goal.returns-then-limits_fit
unfolding counts_fit
returns-then-limits_fit c = rw (sym c.limits_fit.ensures ∙ c.if-limits_fit.true, c.distances_fit.ensures, counts_fit)

pub returns-else-limits_fit : goal.returns-else-limits_fit
unfolding counts_fit
returns-else-limits_fit c = rw (sym c.limits_fit.ensures ∙ c.if-limits_fit.false, counts_fit)
