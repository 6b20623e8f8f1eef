use Rattle.rules.proofs.SubjectLaws.{use_is}
use Rattle.rules.proofs.judgments.subject_use.Goals as goal

pub returns : goal.returns
returns c = use_is _
