-- The ancestor that is left to be found from here on is the one that was asked.
use mathlib.Core.Path.{◌≡◌}
use mathlib.Core.List.{[], ◌∷◌}
use Prim.Native.Nat.{◌-◌}
use Rattle.rules.specs.Contexts.{NumberedContexts, ancestor_of}
use Rattle.rules.proofs.contexts.ancestor.Given as goal

abbrev pub invariant-loop : goal.invariant-loop
invariant-loop l =
    NumberedContexts l.contexts (l.at ∷ [])
    × (ancestor_of l.contexts l.at (l.k - l.counter) ≡ ancestor_of l.contexts l.n l.k)
