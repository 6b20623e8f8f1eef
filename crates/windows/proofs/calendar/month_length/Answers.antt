use mathlib.Core.Path.{◌∙◌}
use Rattle.windows.proofs.CalendarLaws.{month_length_is}
use Rattle.windows.proofs.calendar.month_length.Goals as goal

pub returns-then-leap-month : goal.returns-then-leap-month
returns-then-leap-month c = rw c.common_length-days.ensures.value (month_length_is _ _ c.leap.ensures c.if-leap-month.true)

pub returns : goal.returns
returns c = c.common_length-days.ensures.value ∙ month_length_is _ _ c.leap.ensures c.if-leap-month.false
