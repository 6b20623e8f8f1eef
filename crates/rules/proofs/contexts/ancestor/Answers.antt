use mathlib.Core.Path.{◌≡◌, ◌∙◌}
use Prim.Native.Nat.{◌+◌, ◌-◌}
use Rattle.rules.specs.Contexts.{ancestor_of}
use Rattle.rules.proofs.AncestorLaws.{parent_numbered, climbed, climbed_further, climbed_out}
use native.Mathlib.Omega.{arith}
use Rattle.rules.proofs.contexts.ancestor.Goals as goal

pub returns-then-at-eq0 : goal.returns-then-at-eq0
returns-then-at-eq0 c =
    climbed_out _ _ _ c.if-at-eq0.true (omega (arith, c.loop-test.true)) ∙ c.loop.invariant.1

pub loop-preserved : goal.loop-preserved
loop-preserved c =
    let some = c.if-at-eq0.false in
    let contexts = c.args.contexts.now in
    let left = c.args.k - c.loop.counter in
    let next : c.args.k - (c.loop.counter + 1) ≡ left - 1 = omega arith in (
      parent_numbered _ _ _ c.loop.invariant.0 some c.parent-at.ensures.value,
      (λ i. ancestor_of contexts (c.parent-at.ensures.value i) (next i))
          ∙ climbed_further _ _ left some (omega (arith, c.loop-test.true)) ∙ c.loop.invariant.1,
    )

pub returns : goal.returns
returns c = climbed _ _ _ (omega (arith, c.loop-test.false)) ∙ c.loop.invariant.1
