use Rattle.rules.proofs.AncestorLaws.{adds_says}
use Rattle.rules.proofs.shapes.adds.Goals as goal

pub returns : goal.returns
returns c = adds_says _ _ _ _ _ c.requires _ c.ancestor.ensures _ c.eq.ensures
