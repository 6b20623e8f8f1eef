-- Demand 3, parts (a) and (b), of admission as it runs.
-- Assumes nothing.
use Rattle.derivations.specs.Demand3.{Sound, Complete}
use Rattle.derivations.proofs.SheetDerives.{sound_by_lines}
use Rattle.derivations.proofs.Complete.{complete_by_sheets}

pub sound : Sound
sound = sound_by_lines

pub complete : Complete
complete = complete_by_sheets
