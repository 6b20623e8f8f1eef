use Rattle.sheets.specs.Lines.{premises_fit}
use Rattle.sheets.proofs.lines.premises_fit.Goals as goal

pub returns : goal.returns
unfolding premises_fit
returns c = cc
