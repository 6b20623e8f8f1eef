use mathlib.Core.Path.{◌∙◌, ap}
use Rattle.answers.specs.Numbers.{read_number}
use Rattle.samples.proofs.TextLaws.{word_passes, word_is}
use Rattle.samples.proofs.text.number_in.Goals as goal

pub loop-passed-preserved : goal.loop-passed-preserved
loop-passed-preserved c =
    word_passes c.loop-passed.invariant c.place_of.ensures.value c.loop-passed-test.true c.behind-start.ensures

pub returns : goal.returns
returns c =
    let word = word_is c.loop-passed.invariant c.place_of-end.ensures.value c.loop-passed-test.false in
    c.read_number.ensures ∙ ap read_number word
