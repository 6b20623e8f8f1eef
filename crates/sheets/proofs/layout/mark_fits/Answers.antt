use Rattle.sheets.specs.Layout.{mark_fits}
use Rattle.sheets.proofs.layout.mark_fits.Goals as goal

pub returns : goal.returns
unfolding mark_fits
returns c = cc
