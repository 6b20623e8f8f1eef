use Rattle.sheets.specs.Lines.{line_word}
use borrow.Author.Rules.{rules}
use Rattle.sheets.proofs.lines.line_word.Goals as goal

pub returns : goal.returns
unfolding line_word
returns c = search rules
