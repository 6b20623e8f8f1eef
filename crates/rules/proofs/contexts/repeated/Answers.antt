use mathlib.Core.Path.{refl, sym, ◌∙◌, ap}
use Rattle.rules.specs.Contexts.{repeated_within}
use Rattle.rules.proofs.ContextTableCheckLaws.{some_repeated}
use Rattle.rules.proofs.ContextTableAnswers.{repeated_next}
use native.Mathlib.Omega.{arith}
use Rattle.rules.proofs.contexts.repeated.Goals as goal

pub loop-i-init : goal.loop-i-init
unfolding repeated_within
loop-i-init c = refl

pub returns-then-holds : goal.returns-then-holds
returns-then-holds c =
    sym (some_repeated _ _ _ _ _ (omega arith) (omega arith) (sym c.holds.ensures ∙ c.if-holds.true))

pub loop-i-preserved : goal.loop-i-preserved
loop-i-preserved c =
    repeated_next _ _ _ _ c.loop-i.invariant (sym c.holds.ensures ∙ c.if-holds.false)

pub returns : goal.returns
returns c =
    sym c.loop-i.invariant
    ∙ ap (repeated_within c.args.contexts.now c.args.above c.args.row) (omega arith)
