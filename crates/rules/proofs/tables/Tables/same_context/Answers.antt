use Rattle.rules.proofs.ContextTableAnswers.{same_says}
use Rattle.rules.proofs.tables.Tables.same_context.Goals as goal

pub returns : goal.returns
returns c = same_says _ _ _ _ c.requires
