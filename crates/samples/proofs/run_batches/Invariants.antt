-- The next line begins within the list.
use Rattle.std.proofs.Common.{length, ◌-◌, ◌≤◌}
use Rattle.samples.proofs.run_batches.Given as goal

abbrev pub invariant-loop-start : goal.invariant-loop-start
invariant-loop-start g l = l.start ≤ length l.list

abbrev pub decreases-loop-start : goal.decreases-loop-start
decreases-loop-start g l = length l.list - l.start
