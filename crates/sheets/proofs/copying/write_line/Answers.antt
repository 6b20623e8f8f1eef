use mathlib.Core.Path.{refl}
use Rattle.terms.specs.Words.{bytes_of}
use Rattle.terms.specs.Lists.{listed}
use Rattle.sheets.proofs.FillingLaws.{filling_start, filling_word}
use Rattle.sheets.proofs.copying.write_line.Goals as goal

pub loop-j-init : goal.loop-j-init
unfolding bytes_of listed
loop-j-init c = filling_start _ _ _ refl

pub loop-j-preserved : goal.loop-j-preserved
loop-j-preserved c =
    filling_word _ c.requires.1 c.loop-j.invariant c.loop-j-test.true
    c.renumbered_word-w.ensures.value c.put_word.ensures
