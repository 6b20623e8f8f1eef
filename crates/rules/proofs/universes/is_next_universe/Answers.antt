-- The level is the number that the row gives.
use Rattle.terms.proofs.Tests.{decides_via, ◌&◌}
use Rattle.rules.proofs.UniverseLaws.{next_level}
use Rattle.rules.proofs.universes.is_next_universe.Goals as goal

pub returns : goal.returns
returns c =
    decides_via (next_level _ _ _ c.number-level.ensures.value)
    (c.is_node.ensures & c.is_node-2.ensures)
