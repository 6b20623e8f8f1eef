use mathlib.Core.Path.{refl}
use native.Mathlib.Omega.{arith}
use Rattle.terms.specs.Words.{bytes_of}
use Rattle.terms.specs.Lists.{listed}
use Rattle.sheets.specs.KeptWords.{word_of_trailer}
use Rattle.sheets.proofs.FillingLaws.{filling_start, filling_word, filling_end}
use Rattle.sheets.proofs.copying.write_trailer.Goals as goal

pub loop-i-init : goal.loop-i-init
unfolding bytes_of listed
loop-i-init c = filling_start _ _ _ refl

pub put_word-requires : goal.put_word-requires
unfolding word_of_trailer
put_word-requires c =
    let within = c.loop-i-test.true in
    (omega (arith, c.loop-i.invariant, c.requires.1), c.requires.0.words _ within)

pub loop-i-preserved : goal.loop-i-preserved
loop-i-preserved c =
    filling_word _ c.requires.1 c.loop-i.invariant c.loop-i-test.true refl
    c.put_word.ensures

pub returns : goal.returns
unfolding word_of_trailer
returns c = filling_end _ _ _ c.loop-i.invariant c.loop-i-test.false
