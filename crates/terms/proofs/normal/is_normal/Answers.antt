-- The recognisers begin with no row remembered.
use Rattle.terms.proofs.RecognitionLaws.{known_none}
use Rattle.terms.proofs.normal.is_normal.Goals as goal

pub walk_normal-requires : goal.walk_normal-requires
walk_normal-requires c = (c.requires, known_none _ 3072)
