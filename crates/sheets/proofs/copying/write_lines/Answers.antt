use mathlib.Core.Path.{refl}
use Rattle.terms.specs.Words.{bytes_of}
use Rattle.terms.specs.Lists.{listed}
use Rattle.sheets.proofs.FillingLaws.{filling_start}
use Rattle.sheets.proofs.KeptWordLaws.{filling_line}
use Rattle.sheets.proofs.copying.write_lines.Goals as goal

pub loop-m-init : goal.loop-m-init
unfolding bytes_of listed
loop-m-init c = filling_start _ _ _ refl

pub loop-m-preserved : goal.loop-m-preserved
loop-m-preserved c =
    filling_line _ _ _ _ c.requires.left_in_bounds c.loop-m.invariant c.loop-m-test.true
    (rw c.old_number-line.ensures at c.write_line.ensures)
