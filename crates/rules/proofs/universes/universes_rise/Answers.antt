-- The levels are the numbers that the rows give.
use Rattle.terms.proofs.Tests.{decides_via, ◌&◌, says_le}
use Rattle.rules.proofs.UniverseLaws.{levels_rise}
use Rattle.rules.proofs.universes.universes_rise.Goals as goal

pub returns : goal.returns
returns c =
    decides_via (levels_rise _ _ _ _ c.number.ensures.value c.number-2.ensures.value)
    (c.is_universe.ensures & c.is_universe-2.ensures & says_le _ _)
