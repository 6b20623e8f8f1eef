use mathlib.Core.Path.{sym, ◌∙◌, ap}
use Rattle.std.specs.Prelude.{Err}
use Rattle.sheets.proofs.RefusalLaws.{exits}
use Rattle.sheets.proofs.BatchLaws.{handed, too_short_lem, long_enough}
use Rattle.sheets.proofs.OpeningLaws.{untouched, answers_put}
use Rattle.sheets.proofs.batch.find_each.Goals as goal

pub returns-in_err-admitted-clause-answer : goal.returns-in_err-admitted-clause-answer
returns-in_err-admitted-clause-answer g c =
    exits c.from_residual.ensures ∙ sym (handed _ _ _ _ _ _ c.in_err-admitted.ensures.answer)

pub returns-in_err-admitted-clause-put : goal.returns-in_err-admitted-clause-put
returns-in_err-admitted-clause-put g c =
    untouched _ _ g.J.Judgment.wanted c.args.list.now _ (handed _ _ _ _ _ _ c.in_err-admitted.ensures.answer)

pub returns-then-answers-count-clause-answer : goal.returns-then-answers-count-clause-answer
returns-then-answers-count-clause-answer g c =
    ap Err c.into.ensures
    ∙ sym (too_short_lem _ _ _ _ _ _ _ c.in_ok-admitted.ensures.answer.1 c.if-answers-count.true)

pub returns-then-answers-count-clause-put : goal.returns-then-answers-count-clause-put
returns-then-answers-count-clause-put g c =
    untouched _ _ g.J.Judgment.wanted c.args.list.now _
    (too_short_lem _ _ _ _ _ _ _ c.in_ok-admitted.ensures.answer.1 c.if-answers-count.true)

pub returns-clause-answer : goal.returns-clause-answer
returns-clause-answer g c =
    sym (long_enough _ _ _ _ _ _ _ c.in_ok-admitted.ensures.answer.1 c.if-answers-count.false)

pub returns-clause-put : goal.returns-clause-put
returns-clause-put g c =
    let admitted = c.in_ok-admitted.ensures.answer in
    rw (c.new.ensures.0, c.new.ensures.1, admitted.0) at c.search_each.ensures
    ∙ answers_put _ _ g.J.Judgment.wanted c.args.list.now _
    (long_enough _ _ _ _ _ _ _ admitted.1 c.if-answers-count.false) _ admitted.1
