-- The next line begins within the list, and the closure may be called again.
use Rattle.std.proofs.Common.{length, ◌-◌, ◌≤◌}
use Rattle.samples.proofs.run_lines.Given as goal

abbrev pub invariant-loop-start : goal.invariant-loop-start
invariant-loop-start g l = (l.start ≤ length l.list) × goal.F-IsAlwaysCallable g l.run

abbrev pub decreases-loop-start : goal.decreases-loop-start
decreases-loop-start g l = length l.list - l.start
