-- None of the rows passed holds the words.
use mathlib.Core.Path.{◌≡◌}
use mathlib.Core.Bool.{false}
use Rattle.rules.specs.Contexts.{repeated_within}
use Rattle.rules.proofs.contexts.repeated.Given as goal

abbrev pub invariant-loop-i : goal.invariant-loop-i
invariant-loop-i l = repeated_within l.contexts l.above l.row l.i ≡ false
