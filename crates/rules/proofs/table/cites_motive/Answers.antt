use Rattle.terms.proofs.Tests.{says_lt}
use Rattle.rules.proofs.table.cites_motive.Goals as goal

pub returns : goal.returns
returns c = says_lt 67 _
