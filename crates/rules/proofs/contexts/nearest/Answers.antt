use mathlib.Core.Path.{refl, ◌∙◌, ap}
use Rattle.std.specs.Prelude.{Some}
use Rattle.rules.proofs.ContextTableEntries.{found_here, found_none}
use Rattle.rules.proofs.contexts.nearest.Goals as goal

pub returns-then-n-eq0 : goal.returns-then-n-eq0
returns-then-n-eq0 c = found_none _ _ _ c.if-n-eq0.true

pub returns : goal.returns
returns c = ap Some c.type_of.ensures.value ∙ found_here _ _ _ c.if-n-eq0.false refl
