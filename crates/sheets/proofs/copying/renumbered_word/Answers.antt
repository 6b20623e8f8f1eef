use mathlib.Core.Path.{◌∙◌}
use Rattle.sheets.proofs.KeptWordLaws.{line_field, line_premise}
use native.Mathlib.Omega.{arith}
use Rattle.sheets.proofs.copying.renumbered_word.Goals as goal

pub returns-then-j-lt6 : goal.returns-then-j-lt6
returns-then-j-lt6 c =
    let read = c.word_at-w.ensures in record { value = line_field _ _ _ _ _ read.value c.if-j-lt6.true; range = read.range }

pub returns : goal.returns
returns c =
    let read = c.word_at-w.ensures in
    let result = c.new_number.ensures in record {
      value = result ∙ line_premise _ _ _ _ _ read.value c.if-j-lt6.false;
      range = omega (arith, result, read.range);
    }
