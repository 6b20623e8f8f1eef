use mathlib.Core.Path.{sym, ◌∙◌, ap}
use Rattle.sheets.specs.Finding.{find_of, find_after}
use Rattle.sheets.proofs.RefusalLaws.{exits}
use Rattle.sheets.proofs.finding.find.Goals as goal

pub returns-in_err-admitted-clause-answer : goal.returns-in_err-admitted-clause-answer
unfolding find_of find_after
returns-in_err-admitted-clause-answer c =
    exits c.from_residual.ensures ∙ ap (find_after _ _) (sym c.in_err-admitted.ensures.answer)

pub returns-clause-answer : goal.returns-clause-answer
unfolding find_of find_after
returns-clause-answer c =
    let admitted = c.in_ok-admitted.ensures.answer in
    rw (c.new.ensures.0, c.new.ensures.1, admitted.0) at c.search.ensures ∙ ap (find_after c.args.sheet.now c.args.wanted) (sym admitted.1)
