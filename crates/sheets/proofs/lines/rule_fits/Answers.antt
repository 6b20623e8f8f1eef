use Rattle.sheets.specs.Lines.{rule_fits}
use Rattle.sheets.proofs.lines.rule_fits.Goals as goal

pub returns : goal.returns
unfolding rule_fits
returns c = cc
