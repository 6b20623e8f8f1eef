use mathlib.Core.Path.{◌∙◌}
use Rattle.answers.proofs.ReplyLaws.{converted_within}
use Rattle.answers.proofs.replies.conversion_reply.Goals as goal

pub returns-clause-within : goal.returns-clause-within
returns-clause-within c = converted_within _ _ _ _ (c.new.ensures.answer ∙ c.convert-answer.ensures.answer)
