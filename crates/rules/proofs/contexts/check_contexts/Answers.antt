use mathlib.Core.Path.{refl, sym, ◌∙◌, ap}
use mathlib.Core.Bool.{not}
use native.Mathlib.Omega.{arith}
use Rattle.terms.proofs.SearchLaws.{looking_start, looking_here, looking_next, looking_end}
use Rattle.rules.specs.Contexts.{check_contexts}
use Rattle.rules.proofs.contexts.check_contexts.Goals as goal

pub loop-n-init : goal.loop-n-init
unfolding check_contexts
loop-n-init c = (omega arith, looking_start _ (omega arith) refl)

pub returns-then-not-right : goal.returns-then-not-right
returns-then-not-right c =
    looking_here c.loop-n.invariant.1 (omega (arith, c.loop-n-test.true))
    (ap not (sym c.right.ensures ∙ c.if-not-right.true))

pub loop-n-preserved : goal.loop-n-preserved
loop-n-preserved c = (
  omega arith,
  looking_next c.loop-n.invariant.1 (omega (arith, c.loop-n-test.true))
      (ap not (sym c.right.ensures ∙ c.if-not-right.false)),
)

pub returns : goal.returns
returns c = looking_end c.loop-n.invariant.1 (omega (arith, c.loop-n-test.false))
