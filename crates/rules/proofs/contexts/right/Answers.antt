use Rattle.rules.proofs.ContextTableAnswers.{right_no, right_rest}
use Rattle.rules.proofs.contexts.right.Goals as goal

pub returns-then-above-n : goal.returns-then-above-n
returns-then-above-n c =
    right_rest _ _ _ _ _ c.parent-above.ensures.value c.type_of-row.ensures.value _ c.if-above-n.true
    c.repeated.ensures

pub returns-else-above-n : goal.returns-else-above-n
returns-else-above-n c =
    right_no _ _ _ _ _ c.parent-above.ensures.value c.type_of-row.ensures.value c.if-above-n.false
