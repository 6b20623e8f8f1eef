use mathlib.Core.Path.{sym}
use native.Mathlib.Omega.{arith}
use Rattle.rules.proofs.EditionLaws.{last_first, last_later}
use Rattle.rules.proofs.editions.last_rule.Goals as goal

pub returns-then-edition-le1 : goal.returns-then-edition-le1
returns-then-edition-le1 c = sym (last_first _ (omega arith))

pub returns-else-edition-le1 : goal.returns-else-edition-le1
returns-else-edition-le1 c = sym (last_later _ (omega arith))
