-- The invariant is that the check of the rows ahead answers for the whole.
use mathlib.Core.Bool.{not}
use Prim.Native.Nat.{suc, ◌≤◌}
use Rattle.std.specs.Prelude.{Ok}
use Rattle.terms.proofs.SearchLaws.{Looking}
use Rattle.rules.specs.Contexts.{right_context, faulty_context, check_contexts}
use Rattle.rules.proofs.contexts.check_contexts.Given as goal

abbrev pub invariant-loop-n : goal.invariant-loop-n
invariant-loop-n l =
    (1 ≤ l.n) × Looking (λ k. not (right_context l.contexts l.term_count k)) faulty_context (Ok tt) (suc l.count) (check_contexts l.contexts l.term_count l.count) l.n
