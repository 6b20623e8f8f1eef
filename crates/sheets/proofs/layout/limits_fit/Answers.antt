use mathlib.Core.Path.{refl}
use Rattle.sheets.specs.Layout.{limits_fit}
use Rattle.sheets.proofs.layout.limits_fit.Goals as goal

pub returns : goal.returns
unfolding limits_fit
returns c = refl
