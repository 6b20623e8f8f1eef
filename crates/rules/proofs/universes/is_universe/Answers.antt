-- The level is the number that the row gives.
use Rattle.terms.proofs.Tests.{decides_via}
use Rattle.rules.proofs.UniverseLaws.{universe_level}
use Rattle.rules.proofs.universes.is_universe.Goals as goal

pub returns : goal.returns
returns c = decides_via (universe_level _ _ c.number.ensures.value) c.is_node.ensures
