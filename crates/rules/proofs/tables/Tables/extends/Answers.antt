use Rattle.rules.proofs.ContextTableAnswers.{empty_says, extends_says}
use Rattle.rules.proofs.tables.Tables.extends.Goals as goal

pub returns-then-n-eq0 : goal.returns-then-n-eq0
returns-then-n-eq0 c = empty_says _ _ _ _ _ c.if-n-eq0.true

pub returns : goal.returns
returns c =
    extends_says _ _ _ _ _ _ _ c.requires c.if-n-eq0.false c.type_of.ensures.value
    c.parent.ensures.value
