use Rattle.sheets.proofs.LineLaws.{bound_used, bound_unused}
use Rattle.sheets.proofs.lines.bound.Goals as goal

pub returns-then-used : goal.returns-then-used
returns-then-used c = bound_used _ _ c.if-used.true

pub returns-else-used : goal.returns-else-used
returns-else-used c = bound_unused _ _ c.if-used.false
