use Rattle.sheets.specs.Lines.{line_of}
use Rattle.sheets.proofs.lines.read_line.Goals as goal

pub returns : goal.returns
unfolding line_of
returns c = cc
