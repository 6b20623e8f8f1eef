use mathlib.Core.Path.{refl}
use native.Mathlib.Omega.{arith}
use Rattle.sheets.specs.Layout.{distances_fit}
use Rattle.sheets.proofs.LayoutLaws.{limits_say}
use Rattle.sheets.proofs.layout.distances_fit.Goals as goal

pub overflow_mul-lines : goal.overflow_mul-lines
overflow_mul-lines c = omega (arith, (limits_say c.args.t).0 c.requires)

pub overflow_mul-contexts : goal.overflow_mul-contexts
overflow_mul-contexts c = omega (arith, (limits_say c.args.t).0 c.requires)

pub overflow_mul-terms : goal.overflow_mul-terms
overflow_mul-terms c = omega (arith, (limits_say c.args.t).0 c.requires)

pub overflow_add-terms : goal.overflow_add-terms
overflow_add-terms c = omega (arith, (limits_say c.args.t).0 c.requires)

pub overflow_add-terms-2 : goal.overflow_add-terms-2
overflow_add-terms-2 c = omega (arith, (limits_say c.args.t).0 c.requires)

pub overflow_add-result : goal.overflow_add-result
overflow_add-result c = omega (arith, (limits_say c.args.t).0 c.requires)

pub overflow_add-result-2 : goal.overflow_add-result-2
overflow_add-result-2 c = omega (arith, (limits_say c.args.t).0 c.requires)

pub returns : goal.returns
unfolding distances_fit
returns c = refl
