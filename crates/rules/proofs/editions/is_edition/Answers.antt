use mathlib.Core.Path.{refl}
use Rattle.rules.specs.Editions.{edition_known}
use Rattle.rules.proofs.editions.is_edition.Goals as goal

pub returns : goal.returns
unfolding edition_known
returns c = refl
