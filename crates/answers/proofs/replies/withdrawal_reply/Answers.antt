use mathlib.Core.Path.{◌∙◌}
use Rattle.answers.proofs.ReplyLaws.{set_written_within}
use Rattle.answers.proofs.replies.withdrawal_reply.Goals as goal

pub returns-clause-within : goal.returns-clause-within
returns-clause-within c = set_written_within _ _ _ _ _ (c.new.ensures.answer ∙ c.withdraw_set-answer.ensures.answer)
