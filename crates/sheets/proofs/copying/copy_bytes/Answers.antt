use mathlib.Core.Path.{refl}
use Rattle.sheets.proofs.FillingLaws.{filling_start, filling_byte}
use Rattle.sheets.proofs.copying.copy_bytes.Goals as goal

pub loop-i-init : goal.loop-i-init
loop-i-init c = filling_start _ _ _ refl

pub loop-i-preserved : goal.loop-i-preserved
loop-i-preserved c = filling_byte c.requires.0 c.requires.1 c.loop-i.invariant c.loop-i-test.true
