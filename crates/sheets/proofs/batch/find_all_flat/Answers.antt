use mathlib.Core.Path.{sym, ◌∙◌, ap}
use mathlib.Core.List.{map}
use lib.ListN.{length}
use Rattle.sheets.specs.Batch.{wanted_of, batch_of, answers_after}
use Rattle.sheets.proofs.BatchLaws.{wanted_chunks, wanted_count}
use Rattle.sheets.proofs.batch.find_all_flat.Goals as goal

pub returns-clause-answer : goal.returns-clause-answer
returns-clause-answer c =
    let args = c.args in
    c.find_each.ensures.answer
    ∙ ap (λ n. batch_of args.sheet.now (length args.work.now) n (length args.answers.now))
    (c.as_chunks.ensures.front_len ∙ sym (wanted_count args.numbers.now))

pub returns-clause-put : goal.returns-clause-put
returns-clause-put c =
    let args = c.args in
    c.find_each.ensures.put
    ∙ ap (λ ws. answers_after args.sheet.now (length args.work.now) ws args.answers.now)
    (ap (map wanted_of) c.as_chunks.ensures.front ∙ wanted_chunks args.numbers.now)
