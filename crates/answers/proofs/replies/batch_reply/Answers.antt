use mathlib.Core.Path.{◌≡◌, ◌∙◌, ap}
use mathlib.Core.List.{◌++◌}
use lib.ListN.{take}
use Rattle.answers.specs.Text.{value_text, answer_lines}
use Rattle.answers.proofs.BatchTextLaws.{batch_text_lem}
use Rattle.answers.proofs.replies.batch_reply.Goals as goal

pub returns : goal.returns
returns c =
    let found = c.find_all_flat-answer.ensures in
    let first : c.push_str.new.self.bytes ≡ value_text c.find_all_flat-answer.result =
    c.push_str.ensures.bytes ∙ (λ i. c.clear.ensures i ++ (c.as_str.ensures.value ∙ c.line.ensures) i) in
    let lines = answer_lines (take c.unwrap_or.result c.find_all_flat-answer.new.answers) in
    c.push_answers.ensures ∙ ap (λ l. l ++ lines) first
    ∙ batch_text_lem _ _ _ _ found.answer found.put c.unwrap_or.ensures
