use Rattle.rules.proofs.ContextTableAnswers.{empty_says, extends_then_says}
use Rattle.rules.proofs.tables.Tables.extends_nat_then.Goals as goal

pub returns-then-n-eq0 : goal.returns-then-n-eq0
returns-then-n-eq0 c = empty_says _ _ _ _ _ c.if-n-eq0.true

pub returns : goal.returns
returns c =
    extends_then_says _ _ _ _ _ _ _ _ c.requires c.if-n-eq0.false c.type_of.ensures.value
    c.parent.ensures.value c.extends_nat.ensures
