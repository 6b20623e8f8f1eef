use mathlib.Core.Path.{refl}
use Rattle.rules.specs.Editions.{motive_asked}
use Rattle.rules.proofs.editions.asks_motive.Goals as goal

pub returns : goal.returns
unfolding motive_asked
returns c = refl
