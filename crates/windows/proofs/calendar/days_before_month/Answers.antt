use Rattle.windows.proofs.CalendarLaws.{before, days_before_month_is}
use Rattle.windows.proofs.calendar.days_before_month.Goals as goal

pub returns-then-leap-month-clause-value : goal.returns-then-leap-month-clause-value
unfolding before
returns-then-leap-month-clause-value c = days_before_month_is _ _ c.leap.ensures c.requires c.if-leap-month.true

pub returns-clause-value : goal.returns-clause-value
unfolding before
returns-clause-value c = days_before_month_is _ _ c.leap.ensures c.requires c.if-leap-month.false
